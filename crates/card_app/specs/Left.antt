-- What the records of a card leave of its memory.
use Rattle.std.specs.Prelude.{◌≡◌, ◌∷◌, true, false}
use Rattle.piv_model.specs.declared.kinds.Took.{Took}
use Rattle.piv_model.specs.Entries.{Up}
use Rattle.piv_model.specs.Memory.{Memory}
use Rattle.piv_model.specs.Base.{Base}
use Rattle.piv_rules.specs.Acts.{Records, entries}
use Rattle.piv_rules.specs.Connections.{on}
use Rattle.piv_rules.specs.Losses.{MayTake}
use Rattle.piv_rules.specs.Memories.{mem}

-- The memory after the records. Where power was lost, what the card will say of the command in flight, which may be
-- said, goes before.
pub record Left (B : Base) (R : Records) (holds : Memory → Type 0) : Type 0 where
  pub powered : on (entries R) ≡ true → holds (mem B (entries R))
  pub lost : on (entries R) ≡ false → (took : Took) × MayTake B (entries R) took × holds (mem B (Up took ∷ entries R))
