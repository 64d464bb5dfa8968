use Rattle.std.proofs.Common.{◌<◌, ap, sym, ◌∙◌, subst, List, length}
use Rattle.std.specs.Prelude.{position}
use Rattle.card_app.specs.declared.slot.Slot.{Slot}
use Rattle.card_app.specs.Kept.{is_at}
use Rattle.card_app.proofs.SlotLaws.{position-placed, position-attached, placed-some, unplaced}
use Rattle.card_app.proofs.card.Card.place.Goals as goal

pub returns-in-Some : goal.returns-in-Some
returns-in-Some g c =
    let placed = position-placed c.args.self.now.slots.items c.in-Some.place c.args.c
    (ap (λ (v : List Slot). position (λ (s : Slot). is_at s c.args.c) v) (sym c.deref.ensures.value) ∙ sym c.in-Some.ensures.first) in
    record {
      within = subst (λ (v : List Slot). c.in-Some.place < length v) c.deref.ensures.value c.in-Some.ensures.within;
      placed = placed;
      found = λ d. position-attached c.args.self.now.slots.items c.in-Some.place c.args.c d
          (ap (λ (v : List Slot). position (λ (s : Slot). is_at s c.args.c) v) (sym c.deref.ensures.value) ∙ sym c.in-Some.ensures.first);
      there = λ d. placed-some c.args.self.now.slots.items c.in-Some.place c.args.c d placed;
    }

pub returns-in-None : goal.returns-in-None
returns-in-None g c =
    absurd (unplaced c.args.self.now.slots.items c.args.c
    (ap (λ (v : List Slot). position (λ (s : Slot). is_at s c.args.c) v) (sym c.deref.ensures.value) ∙ sym c.place_of.ensures.first ∙ c.in-None.is) c.requires)
