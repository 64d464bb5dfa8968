use Rattle.std.proofs.Common.{◌≡◌, ◌<◌, ◌≤◌, ◌+◌, ◌∙◌, length, get_or, drop, map, Some, sym, ap, List}
use Rattle.std.proofs.lemmas.List.{map_push}
use Rattle.std.specs.Result.{result_ok}
use Rattle.toml.specs.View.{view, items_view}
use Rattle.scene_cards.specs.Views.{object_view}
use Rattle.scene_table.specs.Readings.{each_after}
use Rattle.scene_cards.specs.Objects.{object_of, ObjectData}
use Rattle.scene_table.proofs.EachAfter.{after-next, after-end}
use Rattle.scene_cards.proofs.ObjectStops.{object-stopped}
use Rattle.scene_cards.proofs.objects.read_objects.Goals as goal

pub loop-item-preserved : goal.loop-item-preserved
loop-item-preserved c =
    let same = c.deref-item-items.ensures.value in
    let within : c.loop-item.item-index < length c.args.items.now.items = rw same at c.loop-item-test.true in
    let at_i : c.item-item.result ≡ get_or c.args.items.now.items c.loop-item.item-index c.item-item.result = rw same at c.item-item.is in
    let read : object_of c.args.has_global (map object_view c.loop-item.objects.items) (view c.item-item.result) ≡ Some (object_view c.in-Ok.object) = rw c.as_slice.ensures.value at c.in-Ok.ensures in
    c.loop-item.invariant
    ∙ after-next (object_of c.args.has_global) (map object_view c.loop-item.objects.items) c.args.items.now.items c.loop-item.item-index c.item-item.result (object_view c.in-Ok.object) within at_i read
    ∙ ap (λ (l : List ObjectData). each_after (object_of c.args.has_global) l (items_view (drop (c.loop-item.item-index + 1) c.args.items.now.items)))
    (sym (ap (map object_view) c.in-Ok-push.ensures.items ∙ map_push object_view c.loop-item.objects.items c.in-Ok.object))

pub returns : goal.returns
returns c =
    let past : length c.args.items.now.items ≤ c.loop-item.item-index = rw c.deref-item-items.ensures.value at c.loop-item-test.false in
    ap result_ok (c.loop-item.invariant ∙ after-end (object_of c.args.has_global) (map object_view c.loop-item.objects.items) c.args.items.now.items c.loop-item.item-index past)

pub returns-in-Err : goal.returns-in-Err
returns-in-Err c =
    let same = c.deref-item-items.ensures.value in
    let within : c.loop-item.item-index < length c.args.items.now.items = rw same at c.loop-item-test.true in
    let at_i : c.item-item.result ≡ get_or c.args.items.now.items c.loop-item.item-index c.item-item.result = rw same at c.item-item.is in
    object-stopped c.args.has_global c.in-Err.fault c.loop-item.objects.items c.as_slice.result.now c.args.items.now.items c.loop-item.item-index c.item-item.result within at_i c.as_slice.ensures.value c.loop-item.invariant c.in-Err.ensures
