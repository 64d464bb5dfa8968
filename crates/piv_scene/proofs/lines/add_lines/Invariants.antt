use Rattle.std.proofs.Common.{◌≡◌, drop, []}
use Rattle.toml.specs.View.{items_view}
use Rattle.scene_table.specs.Readings.{each_after}
use Rattle.piv_scene.specs.Scripts.{scene_line}
use Rattle.piv_scene.proofs.lines.add_lines.Given as goal

abbrev pub invariant-loop-item : goal.invariant-loop-item
invariant-loop-item l = record {
  name : l.script.name ≡ l.initial.script.name;
  so_far : each_after (scene_line l.cards) [] (items_view l.items.items)
      ≡ each_after (scene_line l.cards) l.script.lines (items_view (drop l.item-index l.items.items));
}
