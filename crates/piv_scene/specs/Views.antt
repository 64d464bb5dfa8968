-- What is kept of a document's scripts, as the definitions see it.
use Rattle.scene_table.specs.Lent.{lent_items}
use Rattle.piv_scene.specs.declared.scripts.LentScript.{LentScript}
use Rattle.piv_scene.specs.Scripts.{RawScript}

abbrev pub raw_view : LentScript → RawScript
raw_view s = record { name = s.name.now; lines = lent_items s.lines }
