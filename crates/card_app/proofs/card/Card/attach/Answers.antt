use Rattle.std.proofs.Common.{◌∙◌, refl, sym, ap}
use Rattle.std.specs.Prelude.{position}
use Rattle.card_app.specs.Kept.{is_free}
use Rattle.card_app.proofs.SlotLaws.{position-free}
use Rattle.card_app.proofs.CardLaws.{card-attached, card-full}
use Rattle.card_app.proofs.HeldLaws.{held-given, numbers-free}
use Rattle.piv_chaining.specs.Chains.{held_by}
use Rattle.std.proofs.Common.{subst, ℕ, ◌≤◌}
use Rattle.card_app.specs.Held.{taken_in}
use Rattle.card_app.proofs.HeldLaws.{taken-more, taken-bound, taken-sixteen}
use Rattle.card_app.proofs.Counting.{taken-all}
use Rattle.card_app.proofs.card.Card.attach.Goals as goal

pub returns-in-None-clause-refused : goal.returns-in-None-clause-refused
returns-in-None-clause-refused g c none B R shared stands is_on unlocked =
    card-full c.args.self.now B R c.args.interface shared stands is_on
    (ap (position is_free) (sym c.deref.ensures.value) ∙ sym c.free_place.ensures.first ∙ c.in-None.is) unlocked

pub returns-in-Some-clause-opened : goal.returns-in-Some-clause-opened
returns-in-Some-clause-opened g c some B R shared stands is_on number unlocked =
    card-attached c.args.self.now _ B R c.in-Some.place c.args.c c.give.new.slot c.args.interface shared stands is_on
    (position-free c.args.self.now.slots.items c.in-Some.place (ap (position is_free) (sym c.deref.ensures.value) ∙ sym c.in-Some.ensures.first))
    number c.give.ensures.at c.give.ensures.own c.give.ensures.attached refl refl refl refl unlocked

pub returns-in-Some-clause-held : goal.returns-in-Some-clause-held
returns-in-Some-clause-held g c =
    held-given c.args.self.now.slots.items c.in-Some.place (held_by c.args.self.now.lost) c.give.new.slot
    (position-free c.args.self.now.slots.items c.in-Some.place (ap (position is_free) (sym c.deref.ensures.value) ∙ sym c.in-Some.ensures.first)) c.give.ensures.dropped

pub returns-in-Some-clause-numbers : goal.returns-in-Some-clause-numbers
returns-in-Some-clause-numbers g c some d =
    numbers-free c.args.self.now.slots.items c.in-Some.place c.args.c c.give.new.slot
    (position-free c.args.self.now.slots.items c.in-Some.place (ap (position is_free) (sym c.deref.ensures.value) ∙ sym c.in-Some.ensures.first))
    c.give.ensures.at c.give.ensures.own d

pub returns-in-Some-clause-one : goal.returns-in-Some-clause-one
returns-in-Some-clause-one g c some =
    taken-more c.args.self.now.slots.items c.in-Some.place c.args.c c.give.new.slot
    (position-free c.args.self.now.slots.items c.in-Some.place (ap (position is_free) (sym c.deref.ensures.value) ∙ sym c.in-Some.ensures.first)) c.give.ensures.at

pub returns-in-Some-clause-most : goal.returns-in-Some-clause-most
returns-in-Some-clause-most g c = taken-sixteen c.args.self.now.slots.items c.in-Some.place c.give.new.slot c.args.self.now.sixteen

pub returns-in-None-clause-most : goal.returns-in-None-clause-most
returns-in-None-clause-most g c = subst (λ (n : ℕ). taken_in c.args.self.now.slots.items ≤ n) c.args.self.now.sixteen (taken-bound c.args.self.now.slots.items)

pub returns-in-None-clause-full : goal.returns-in-None-clause-full
returns-in-None-clause-full g c none =
    taken-all c.args.self.now.slots.items (ap (position is_free) (sym c.deref.ensures.value) ∙ sym c.free_place.ensures.first ∙ c.in-None.is)
    ∙ c.args.self.now.sixteen
