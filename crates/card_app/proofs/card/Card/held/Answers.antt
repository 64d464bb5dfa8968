use Rattle.std.proofs.Common.{◌∙◌, sym, ap}
use Rattle.card_app.specs.declared.slot.Slot.{Slot}
use Rattle.card_app.specs.Kept.{slot_attached}
use Rattle.card_app.specs.Stands.{attached_to}
use Rattle.card_app.proofs.CardLaws.{card-held, kept-held}
use Rattle.card_app.proofs.card.Card.held.Goals as goal

pub returns : goal.returns
returns g c = record {
  stands = λ B R stands. c.held.ensures ∙ card-held c.args.self.now B R c.place-place.result c.args.c c.index.result.now stands c.place-place.ensures.placed c.index.ensures;
  kept = λ x is. c.held.ensures ∙ kept-held c.index.result.now x (attached_to c.args.self.now c.args.c)
      (c.place-place.ensures.found c.index.result.now ∙ sym (ap (λ (s : Slot). slot_attached s) c.index.ensures)) is;
}
