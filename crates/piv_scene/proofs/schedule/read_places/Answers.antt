use Rattle.std.proofs.Common.{◌≡◌, ◌<◌, ◌≤◌, ◌∙◌, length, get_or, sym, ap, Some, ℕ, List, drop, ◌+◌}
use Rattle.piv_model.specs.declared.places.Where.TheVariants as bad
use Rattle.toml.specs.View.{items_view}
use Rattle.scene_table.specs.Readings.{each_after}
use Rattle.piv_scene.specs.Scripts.{schedule_place}
use Rattle.scene_cards.specs.Cards.{bad_item}
use Rattle.scene_table.proofs.EachAfter.{after-next, after-stop, after-end}
use Rattle.piv_scene.proofs.schedule.read_places.Goals as goal

pub returns-in-None : goal.returns-in-None
returns-in-None c =
    let same = c.deref-item-items.ensures.value in
    let within : c.loop-item.item-index < length c.args.items.now.items = rw same at c.loop-item-test.true in
    let at_i : c.item-item.result ≡ get_or c.args.items.now.items c.loop-item.item-index c.item-item.result = rw same at c.item-item.is in
    ap (bad_item (λ (n : ℕ). bad.Schedule)) (c.loop-item.invariant
    ∙ after-stop (schedule_place c.args.scripts) c.loop-item.places.items c.args.items.now.items c.loop-item.item-index c.item-item.result within at_i (sym c.schedule_place.ensures ∙ c.in-None.is))

pub loop-item-preserved : goal.loop-item-preserved
loop-item-preserved c =
    let same = c.deref-item-items.ensures.value in
    let within : c.loop-item.item-index < length c.args.items.now.items = rw same at c.loop-item-test.true in
    let at_i : c.item-item.result ≡ get_or c.args.items.now.items c.loop-item.item-index c.item-item.result = rw same at c.item-item.is in
    c.loop-item.invariant
    ∙ after-next (schedule_place c.args.scripts) c.loop-item.places.items c.args.items.now.items c.loop-item.item-index c.item-item.result c.in-Ok.number within at_i (sym c.schedule_place.ensures ∙ c.in-Some.is ∙ ap Some (sym c.in-Ok.ensures.1))
    ∙ ap (λ (l : List ℕ). each_after (schedule_place c.args.scripts) l (items_view (drop (c.loop-item.item-index + 1) c.args.items.now.items))) (sym c.in-Ok-push.ensures.items)

pub returns : goal.returns
returns c =
    let past : length c.args.items.now.items ≤ c.loop-item.item-index = rw c.deref-item-items.ensures.value at c.loop-item-test.false in
    ap (bad_item (λ (n : ℕ). bad.Schedule)) (c.loop-item.invariant ∙ after-end (schedule_place c.args.scripts) c.loop-item.places.items c.args.items.now.items c.loop-item.item-index past)
