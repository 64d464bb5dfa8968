use Rattle.std.proofs.Common.{arith}
use Rattle.aes_block.proofs.Entries.{mix_2_entry}
use Rattle.aes_block.proofs.forward.mix_2.Goals as goal

pub returns : goal.returns
returns c = mix_2_entry c.args.b (omega arith)
