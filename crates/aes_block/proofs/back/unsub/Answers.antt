use Rattle.std.proofs.Common.{arith}
use Rattle.aes_block.proofs.Entries.{unsub_entry}
use Rattle.aes_block.proofs.back.unsub.Goals as goal

pub returns : goal.returns
returns c = (unsub_entry c.args.b (omega arith)).sub
