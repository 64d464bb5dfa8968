use Rattle.std.proofs.Common.{◌≡◌, drop, [], map}
use Rattle.toml.specs.View.{items_view}
use Rattle.scene_table.specs.Readings.{each_after}
use Rattle.piv_scene.specs.Scripts.{script_of}
use Rattle.piv_scene.specs.Views.{raw_view}
use Rattle.piv_scene.proofs.scripts.read_items.Given as goal

abbrev pub invariant-loop-item : goal.invariant-loop-item
invariant-loop-item l =
    each_after script_of [] (items_view l.items.items)
    ≡ each_after script_of (map raw_view l.scripts.scripts.items) (items_view (drop l.item-index l.items.items))
