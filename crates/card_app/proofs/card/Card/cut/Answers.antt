use Rattle.std.proofs.Common.{refl, arith}
use Rattle.card_laws.specs.ConnectionSteps.{after_cut}
use Rattle.card_app.proofs.CardLaws.{card-cut}
use Rattle.card_app.proofs.HeldLaws.{taken-items, held-items, numbers-items}
use Rattle.card_app.proofs.card.Card.cut.Goals as goal

pub returns-clause-stands : goal.returns-clause-stands
returns-clause-stands g c B R stands = card-cut c.args.self.now _ B R stands c.requires.on c.cut.ensures refl _ _ c.deref_mut.ensures.value refl c.refresh_all.ensures

pub returns-clause-held : goal.returns-clause-held
returns-clause-held g c =
    let h = held-items after_cut c.args.self.now.slots _ c.refresh_all.new.slots c.deref_mut.ensures.value c.refresh_all.ensures in
    omega arith

pub returns-clause-numbers : goal.returns-clause-numbers
returns-clause-numbers g c d = numbers-items after_cut c.args.self.now.slots _ c.refresh_all.new.slots d c.deref_mut.ensures.value c.refresh_all.ensures

pub returns-clause-count : goal.returns-clause-count
returns-clause-count g c = taken-items after_cut c.args.self.now.slots _ c.refresh_all.new.slots c.deref_mut.ensures.value c.refresh_all.ensures
