use Rattle.std.proofs.Common.{arith}
use Rattle.aes_block.proofs.Entries.{mix_3_entry}
use Rattle.aes_block.proofs.forward.mix_3.Goals as goal

pub returns : goal.returns
returns c = mix_3_entry c.args.b (omega arith)
