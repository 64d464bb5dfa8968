use Rattle.card_image.proofs.Counters.{spent_in}
use Rattle.card_image.proofs.references.spend_in.Goals as goal

pub returns : goal.returns
returns c = λ m spells has. spent_in c.args.r c.args.bytes.now c.tries_place-at.result c.saturating_sub.result m c.told-bytes c.tries_place-at.ensures c.saturating_sub.ensures spells has
