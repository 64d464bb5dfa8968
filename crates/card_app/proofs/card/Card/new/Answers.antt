use Rattle.card_app.proofs.SlotLaws.{free-among, free-apart}
use Rattle.card_app.proofs.CardLaws.{card-new}
use Rattle.std.proofs.Common.{◌∙◌}
use Rattle.card_app.proofs.HeldLaws.{among-some}
use Rattle.card_app.proofs.card.Card.new.Goals as goal

pub returns-clause-stands : goal.returns-clause-stands
returns-clause-stands g c B memory =
    let sound = rw memory at (g.met.S.Store.sound c.args.store) in
    card-new _ B sound.places c.requires memory (free-among _ c.in-Ok.ensures.free) (free-apart _ c.in-Ok.ensures.free)

pub returns-clause-numbers : goal.returns-clause-numbers
returns-clause-numbers g c d = among-some c.in-Ok.slots.items d ∙ free-among c.in-Ok.slots.items c.in-Ok.ensures.free d
