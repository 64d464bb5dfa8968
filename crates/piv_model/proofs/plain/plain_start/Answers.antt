use Rattle.std.proofs.Common.{refl}
use Rattle.piv_model.specs.PlainCard.{plain_memory}
use Rattle.piv_model.proofs.PlainLaws.{plain-sound}
use Rattle.piv_model.proofs.plain.plain_start.Goals as goal

pub returns-clause-memory : goal.returns-clause-memory
unfolding plain_memory
returns-clause-memory c = rw c.in_ok-objects.ensures refl

pub returns-clause-spells : goal.returns-clause-spells
unfolding plain_memory
returns-clause-spells c = rw c.in_ok-objects.ensures (record { sound = plain-sound; once = refl })
