use Rattle.std.proofs.Common.{◌≡◌, drop}
use Rattle.toml.specs.View.{items_view}
use Rattle.scene_table.specs.Readings.{all_tables}
use Rattle.scene_table.proofs.values.all_tables.Given as goal

abbrev pub invariant-loop-item : goal.invariant-loop-item
invariant-loop-item l = all_tables (items_view l.items.items) ≡ all_tables (items_view (drop l.item-index l.items.items))
