use Rattle.std.proofs.Common.{refl, sym, ◌∙◌, ap, List}
use Rattle.std.specs.Prelude.{position}
use Rattle.card_app.specs.declared.slot.Slot.{Slot}
use Rattle.card_app.specs.Kept.{is_at}
use Rattle.card_app.proofs.SlotLaws.{position-placed, unplaced}
use Rattle.card_app.proofs.CardLaws.{card-detached}
use Rattle.card_app.proofs.HeldLaws.{held-taken, numbers-gone}
use Rattle.piv_chaining.specs.Chains.{held_by}
use Rattle.card_app.proofs.HeldLaws.{taken-less}
use Rattle.card_app.proofs.card.Card.detach.Goals as goal

pub returns-in-Some-clause-stands : goal.returns-in-Some-clause-stands
returns-in-Some-clause-stands g c B R stands =
    let placed = position-placed c.args.self.now.slots.items c.in-Some.place c.args.c
    (ap (λ (v : List Slot). position (λ (s : Slot). is_at s c.args.c) v) (sym c.deref.ensures.value) ∙ sym c.in-Some.ensures.first) in
    card-detached c.args.self.now _ B R c.in-Some.place c.args.c _ stands placed refl refl refl refl refl c.requires.attached

pub returns-in_default-clause-stands : goal.returns-in_default-clause-stands
returns-in_default-clause-stands g c B R stands =
    absurd (unplaced c.args.self.now.slots.items c.args.c
    (ap (λ (v : List Slot). position (λ (s : Slot). is_at s c.args.c) v) (sym c.deref.ensures.value) ∙ sym c.place_of.ensures.first ∙ c.in_default.is) c.requires.attached)

pub returns-in-Some-clause-held : goal.returns-in-Some-clause-held
returns-in-Some-clause-held g c =
    let placed = position-placed c.args.self.now.slots.items c.in-Some.place c.args.c
    (ap (λ (v : List Slot). position (λ (s : Slot). is_at s c.args.c) v) (sym c.deref.ensures.value) ∙ sym c.in-Some.ensures.first) in
    held-taken c.args.self.now.slots.items c.in-Some.place c.args.c (held_by c.args.self.now.lost) _ c.index_mut.result.now placed c.index_mut.ensures.value refl

pub returns-in-Some-clause-numbers : goal.returns-in-Some-clause-numbers
returns-in-Some-clause-numbers g c d other =
    let placed = position-placed c.args.self.now.slots.items c.in-Some.place c.args.c
    (ap (λ (v : List Slot). position (λ (s : Slot). is_at s c.args.c) v) (sym c.deref.ensures.value) ∙ sym c.in-Some.ensures.first) in
    numbers-gone c.args.self.now.slots.items c.in-Some.place c.args.c _ c.index_mut.result.now placed refl d other

pub returns-in-Some-clause-count : goal.returns-in-Some-clause-count
returns-in-Some-clause-count g c =
    let placed = position-placed c.args.self.now.slots.items c.in-Some.place c.args.c
    (ap (λ (v : List Slot). position (λ (s : Slot). is_at s c.args.c) v) (sym c.deref.ensures.value) ∙ sym c.in-Some.ensures.first) in
    taken-less c.args.self.now.slots.items c.in-Some.place c.args.c _ c.index_mut.result.now placed refl

pub returns-in_default-clause-count : goal.returns-in_default-clause-count
returns-in_default-clause-count g c =
    absurd (unplaced c.args.self.now.slots.items c.args.c
    (ap (λ (v : List Slot). position (λ (s : Slot). is_at s c.args.c) v) (sym c.deref.ensures.value) ∙ sym c.place_of.ensures.first ∙ c.in_default.is) c.requires.attached)
