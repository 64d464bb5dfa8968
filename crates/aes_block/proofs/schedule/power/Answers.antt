use Rattle.aes_block.proofs.Entries.{power_entry}
use Rattle.aes_block.proofs.schedule.power.Goals as goal

pub returns : goal.returns
returns c = power_entry c.args.n c.requires
