use Rattle.std.proofs.Common.{◌≡◌, drop, [], map}
use Rattle.toml.specs.View.{items_view}
use Rattle.scene_cards.specs.Views.{object_view}
use Rattle.scene_table.specs.Readings.{each_after}
use Rattle.scene_cards.specs.Objects.{object_of}
use Rattle.scene_cards.proofs.objects.read_objects.Given as goal

abbrev pub invariant-loop-item : goal.invariant-loop-item
invariant-loop-item l =
    each_after (object_of l.has_global) [] (items_view l.items.items)
    ≡ each_after (object_of l.has_global) (map object_view l.objects.items) (items_view (drop l.item-index l.items.items))
