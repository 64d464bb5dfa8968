use Rattle.std.proofs.Common.{◌∙◌, ap, List, Option, ℕ}
use Rattle.std.specs.Prelude.{position, is_some}
use Rattle.card_app.specs.declared.slot.Slot.{Slot}
use Rattle.card_app.specs.Kept.{is_at}
use Rattle.card_app.proofs.SlotLaws.{place-some}
use Rattle.card_app.proofs.card.Card.is_attached.Goals as goal

pub returns : goal.returns
returns g c =
    c.is_some.ensures
    ∙ ap (λ (o : Option ℕ). is_some o) (c.place_of.ensures.first ∙ ap (λ (v : List Slot). position (λ (s : Slot). is_at s c.args.c) v) c.deref.ensures.value)
    ∙ place-some c.args.self.now.slots.items c.args.c
