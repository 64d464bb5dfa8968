use Rattle.std.proofs.Common.{refl}
use Rattle.card_app.proofs.CardLaws.{card-up}
use Rattle.card_app.proofs.card.Card.power_up.Goals as goal

pub returns-clause-stands : goal.returns-clause-stands
returns-clause-stands g c B R stands =
    card-up c.args.self.now _ B R c.told-took.result stands c.requires.off c.power_up.ensures refl _ c.power_up.ensures c.told-took.ensures
