use Rattle.std.proofs.Common.{arith}
use Rattle.aes_block.proofs.Entries.{mix_0_entry}
use Rattle.aes_block.proofs.forward.mix_0.Goals as goal

pub returns : goal.returns
returns c = mix_0_entry c.args.b (omega arith)
