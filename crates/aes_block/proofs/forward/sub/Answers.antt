use Rattle.std.proofs.Common.{arith}
use Rattle.aes_block.proofs.Entries.{sbox_entry}
use Rattle.aes_block.proofs.forward.sub.Goals as goal

pub returns : goal.returns
returns c = sbox_entry c.args.b (omega arith)
