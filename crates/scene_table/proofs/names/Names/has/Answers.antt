use Rattle.std.proofs.Common.{◌∙◌}
use Rattle.scene_table.proofs.NameLaws.{among-keys}
use Rattle.scene_table.proofs.names.Names.has.Goals as goal

pub returns : goal.returns
returns c = rw (← c.self.view_is) (c.contains.ensures ∙ among-keys c.self.inside.sorted.keys c.args.name.now)
