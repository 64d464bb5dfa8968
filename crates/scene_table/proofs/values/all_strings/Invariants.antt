use Rattle.std.proofs.Common.{◌≡◌, drop}
use Rattle.toml.specs.View.{items_view}
use Rattle.scene_table.specs.Readings.{all_strings}
use Rattle.scene_table.proofs.values.all_strings.Given as goal

abbrev pub invariant-loop-item : goal.invariant-loop-item
invariant-loop-item l = all_strings (items_view l.items.items) ≡ all_strings (items_view (drop l.item-index l.items.items))
