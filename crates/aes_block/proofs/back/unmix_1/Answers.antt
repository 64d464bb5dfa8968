use Rattle.std.proofs.Common.{arith}
use Rattle.aes_block.proofs.Entries.{unmix_1_entry}
use Rattle.aes_block.proofs.back.unmix_1.Goals as goal

pub returns : goal.returns
returns c = unmix_1_entry c.args.b (omega arith)
