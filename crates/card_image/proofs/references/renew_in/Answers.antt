use Rattle.std.proofs.Common.{List, ℕ, ap, ◌∙◌}
use Rattle.card_image.specs.Header.{with_references}
use Rattle.card_image.proofs.Counters.{renewed_in}
use Rattle.card_image.proofs.references.renew_in.Goals as goal

pub returns : goal.returns
returns c = λ m spells has. ap (λ (b : List ℕ). with_references b m) c.write_secret.ensures.bytes
    ∙ renewed_in c.args.r c.fill_in.new.bytes c.args.secret.now c.tries_place.result m c.fill_in.array_long c.write_secret.ensures.long c.tries_place.ensures (c.fill_in.ensures m spells has)
