use Rattle.std.proofs.Common.{refl, arith}
use Rattle.card_laws.specs.ConnectionSteps.{after_reset}
use Rattle.card_app.proofs.CardLaws.{card-reset}
use Rattle.card_app.proofs.HeldLaws.{taken-items, held-items, numbers-items}
use Rattle.card_app.proofs.card.Card.reset.Goals as goal

pub returns-clause-stands : goal.returns-clause-stands
returns-clause-stands g c B R stands =
    card-reset c.args.self.now _ B R c.args.interface stands c.requires.on refl refl refl _ _ c.deref_mut.ensures.value refl c.refresh_side.ensures

pub returns-clause-held : goal.returns-clause-held
returns-clause-held g c =
    let h = held-items (after_reset c.args.interface) c.args.self.now.slots _ c.refresh_side.new.slots c.deref_mut.ensures.value c.refresh_side.ensures in
    omega arith

pub returns-clause-numbers : goal.returns-clause-numbers
returns-clause-numbers g c d = numbers-items (after_reset c.args.interface) c.args.self.now.slots _ c.refresh_side.new.slots d c.deref_mut.ensures.value c.refresh_side.ensures

pub returns-clause-count : goal.returns-clause-count
returns-clause-count g c = taken-items (after_reset c.args.interface) c.args.self.now.slots _ c.refresh_side.new.slots c.deref_mut.ensures.value c.refresh_side.ensures
