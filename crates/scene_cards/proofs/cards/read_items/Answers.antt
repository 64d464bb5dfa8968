use Rattle.std.proofs.Common.{◌≡◌, ◌<◌, ◌≤◌, ◌+◌, ◌∙◌, length, get_or, drop, None, Err, sym, ap, subst, ℕ, List}
use Rattle.piv_model.specs.declared.places.Where.TheVariants as bad
use Rattle.toml.specs.View.{view, items_view}
use Rattle.line_words.specs.declared.fault.LineFault.{LineFault}
use Rattle.scene_table.specs.Answers.{GivesBy}
use Rattle.scene_table.specs.Readings.{each_after}
use Rattle.scene_table.proofs.EachAfter.{after-next, after-stop, after-end}
use Rattle.scene_cards.specs.Cards.{card_of, CardData, bad_item}
use Rattle.scene_cards.specs.Views.{card_view}
use Rattle.scene_cards.proofs.cards.read_items.Goals as goal

pub loop-item-preserved : goal.loop-item-preserved
loop-item-preserved c =
    let same = c.deref-item-items.ensures.value in
    let within : c.loop-item.item-index < length c.args.items.now.items = rw same at c.loop-item-test.true in
    let at_i : c.item-item.result ≡ get_or c.args.items.now.items c.loop-item.item-index c.item-item.result = rw same at c.item-item.is in
    c.loop-item.invariant
    ∙ after-next card_of c.loop-item.cards c.args.items.now.items c.loop-item.item-index c.item-item.result (card_view c.in-Ok.card) within at_i c.in-Ok.ensures
    ∙ ap (λ (l : List CardData). each_after card_of l (items_view (drop (c.loop-item.item-index + 1) c.args.items.now.items))) (sym c.in-Ok-with.ensures)

pub returns : goal.returns
returns c =
    let past : length c.args.items.now.items ≤ c.loop-item.item-index = rw c.deref-item-items.ensures.value at c.loop-item-test.false in
    ap (bad_item bad.Card) (c.loop-item.invariant ∙ after-end card_of c.loop-item.cards c.args.items.now.items c.loop-item.item-index past)

pub returns-in-Ok-try_from : goal.returns-in-Ok-try_from
returns-in-Ok-try_from c =
    let same = c.deref-item-items.ensures.value in
    let within : c.loop-item.item-index < length c.args.items.now.items = rw same at c.loop-item-test.true in
    let at_i : c.item-item.result ≡ get_or c.args.items.now.items c.loop-item.item-index c.item-item.result = rw same at c.item-item.is in
    let none : card_of c.loop-item.cards (view c.item-item.result) ≡ None =
    subst (λ (f : LineFault). GivesBy card_view (Err f) (card_of c.loop-item.cards (view c.item-item.result))) c.in-Malformed.is c.in-Err.ensures in
    let number : length c.loop-item.cards ≡ c.in-Ok-try_from.place = sym c.len-before.ensures ∙ sym c.in-Ok-try_from.ensures.1 in
    ap (bad_item bad.Card) (c.loop-item.invariant ∙ after-stop card_of c.loop-item.cards c.args.items.now.items c.loop-item.item-index c.item-item.result within at_i none)
    ∙ ap (λ (n : ℕ). Err (bad.Card n)) number
