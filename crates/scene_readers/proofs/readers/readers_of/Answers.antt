use Rattle.scene_readers.proofs.Found.{names-named}
use Rattle.scene_readers.proofs.readers.readers_of.Goals as goal

pub returns-clause-lines : goal.returns-clause-lines
returns-clause-lines c = names-named _ c.args.scene.now.cards c.args.scene.now.scripts c.in_ok-readers.ensures c.holds.ensures.scripts
