use Rattle.std.proofs.Common.{◌≡◌, drop, []}
use Rattle.toml.specs.View.{items_view}
use Rattle.scene_table.specs.Readings.{each_after}
use Rattle.piv_scene.specs.Scripts.{schedule_place}
use Rattle.piv_scene.proofs.schedule.read_places.Given as goal

abbrev pub invariant-loop-item : goal.invariant-loop-item
invariant-loop-item l =
    each_after (schedule_place l.scripts) [] (items_view l.items.items)
    ≡ each_after (schedule_place l.scripts) l.places.items (items_view (drop l.item-index l.items.items))
