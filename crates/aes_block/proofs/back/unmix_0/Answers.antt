use Rattle.std.proofs.Common.{arith}
use Rattle.aes_block.proofs.Entries.{unmix_0_entry}
use Rattle.aes_block.proofs.back.unmix_0.Goals as goal

pub returns : goal.returns
returns c = unmix_0_entry c.args.b (omega arith)
