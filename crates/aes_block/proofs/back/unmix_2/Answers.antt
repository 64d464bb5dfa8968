use Rattle.std.proofs.Common.{arith}
use Rattle.aes_block.proofs.Entries.{unmix_2_entry}
use Rattle.aes_block.proofs.back.unmix_2.Goals as goal

pub returns : goal.returns
returns c = unmix_2_entry c.args.b (omega arith)
