use Rattle.std.proofs.Common.{arith}
use Rattle.aes_block.proofs.Entries.{mix_1_entry}
use Rattle.aes_block.proofs.forward.mix_1.Goals as goal

pub returns : goal.returns
returns c = mix_1_entry c.args.b (omega arith)
