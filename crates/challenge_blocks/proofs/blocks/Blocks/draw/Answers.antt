use Rattle.std.proofs.Common.{◌+◌, arith}
use Rattle.rand_chacha.specs.ChaCha.{key_of}
use Rattle.challenge_blocks.proofs.blocks.Blocks.draw.Goals as goal

pub returns : goal.returns
returns c random n few is = record {
  next = c.block_from-self.ensures.block (key_of random) (n + 1) (omega arith) is.place;
  place = c.block_from-self.ensures.moved (key_of random) (n + 1) (omega arith) is.place;
}
