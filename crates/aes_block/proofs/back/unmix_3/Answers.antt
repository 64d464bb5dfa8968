use Rattle.std.proofs.Common.{arith}
use Rattle.aes_block.proofs.Entries.{unmix_3_entry}
use Rattle.aes_block.proofs.back.unmix_3.Goals as goal

pub returns : goal.returns
returns c = unmix_3_entry c.args.b (omega arith)
