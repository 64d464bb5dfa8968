use Rattle.std.proofs.Common.{arith}
use Rattle.rand_chacha.specs.ChaCha.{key_of}
use Rattle.challenge_blocks.proofs.blocks.Blocks.new.Goals as goal

pub returns : goal.returns
returns c = record {
  next = c.block_from-next.ensures.block (key_of c.args.random) 0 (omega arith) c.from_seed-rng.ensures;
  place = c.block_from-next.ensures.moved (key_of c.args.random) 0 (omega arith) c.from_seed-rng.ensures;
}
