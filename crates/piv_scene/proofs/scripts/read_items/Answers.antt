use Rattle.std.proofs.Common.{◌≡◌, ◌<◌, ◌≤◌, ◌+◌, ◌∙◌, length, get_or, drop, map, Err, sym, ap, ℕ, List}
use Rattle.std.proofs.lemmas.List.{map_push, length-map}
use Rattle.piv_model.specs.declared.places.Where.TheVariants as bad
use Rattle.toml.specs.View.{items_view}
use Rattle.scene_table.specs.Readings.{each_after}
use Rattle.scene_table.proofs.EachAfter.{after-next, after-stop, after-end}
use Rattle.scene_cards.specs.Cards.{bad_item}
use Rattle.piv_scene.specs.Scripts.{script_of, RawScript}
use Rattle.piv_scene.specs.Views.{raw_view}
use Rattle.piv_scene.proofs.scripts.read_items.Goals as goal

pub loop-item-preserved : goal.loop-item-preserved
loop-item-preserved c =
    let same = c.deref-item-items.ensures.value in
    let within : c.loop-item.item-index < length c.args.items.now.items = rw same at c.loop-item-test.true in
    let at_i : c.item-item.result ≡ get_or c.args.items.now.items c.loop-item.item-index c.item-item.result = rw same at c.item-item.is in
    c.loop-item.invariant
    ∙ after-next script_of (map raw_view c.loop-item.scripts.scripts.items) c.args.items.now.items c.loop-item.item-index c.item-item.result (raw_view c.in-Some.script) within at_i (sym c.in-Some.ensures)
    ∙ ap (λ (l : List RawScript). each_after script_of l (items_view (drop (c.loop-item.item-index + 1) c.args.items.now.items))) (sym (ap (map raw_view) c.in-Ok.ensures ∙ map_push raw_view c.loop-item.scripts.scripts.items c.in-Some.script))

pub returns-in-Ok-try_from : goal.returns-in-Ok-try_from
returns-in-Ok-try_from c =
    let same = c.deref-item-items.ensures.value in
    let within : c.loop-item.item-index < length c.args.items.now.items = rw same at c.loop-item-test.true in
    let at_i : c.item-item.result ≡ get_or c.args.items.now.items c.loop-item.item-index c.item-item.result = rw same at c.item-item.is in
    let number : length (map raw_view c.loop-item.scripts.scripts.items) ≡ c.in-Ok-try_from.place = length-map c.loop-item.scripts.scripts.items raw_view ∙ sym c.len-before.ensures ∙ sym c.in-Ok-try_from.ensures.1 in
    ap (bad_item bad.Script) (c.loop-item.invariant ∙ after-stop script_of (map raw_view c.loop-item.scripts.scripts.items) c.args.items.now.items c.loop-item.item-index c.item-item.result within at_i (sym c.in-None.ensures))
    ∙ ap (λ (n : ℕ). Err (bad.Script n)) number

pub returns : goal.returns
returns c =
    let past : length c.args.items.now.items ≤ c.loop-item.item-index = rw c.deref-item-items.ensures.value at c.loop-item-test.false in
    ap (bad_item bad.Script) (c.loop-item.invariant ∙ after-end script_of (map raw_view c.loop-item.scripts.scripts.items) c.args.items.now.items c.loop-item.item-index past)
