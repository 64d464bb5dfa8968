-- The records of several callers, which the first pass has taken in (this project's own).
use Rattle.std.specs.Prelude.{◌≡◌, ◌⊎◌, ◌<◌, ◌≤◌, ℕ, List, [], ◌∷◌, length, Option, Some, None, slice_get}
use Rattle.turnstile.specs.Known.{Known}

module _ {E : Type 0} where
  -- this record, at this place, is among own records
  abbrev pub Owns : List (ℕ × E) → ℕ → E → Type 0
  Owns [] place r = ⊥
  Owns (e ∷ es) place r = ((e.0 ≡ place) × (e.1 ≡ r)) ⊎ Owns es place r

  -- All has the own records of so many callers, those of each at their places, and no place twice
  pub record Gathered (count : ℕ) (own : ℕ → List (ℕ × E)) (all : List (ℕ × E)) : Type 0 where
    pub from : (place : ℕ) (r : E) → Owns all place r → (j : ℕ) × (j < count) × Owns (own j) place r
    pub into : (j place : ℕ) (r : E) → j < count → Owns (own j) place r → Owns all place r
    pub once : (i j place : ℕ) (r s : E) → i < count → j < count → Owns (own i) place r → Owns (own j) place s → i ≡ j

-- ---- rows of passes, one row for each caller

module _ {B E : Type 0} where
  abbrev pub row_of : Option (List (Known B E)) → List (Known B E)
  row_of None = []
  row_of (Some row) = row

  abbrev pub own_of : Option (Known B E) → List (ℕ × E)
  own_of None = []
  own_of (Some pass) = pass.own

  -- the own records of caller j at the turnstile of this place
  abbrev pub own_in : List (List (Known B E)) → ℕ → ℕ → List (ℕ × E)
  own_in rows place j = own_of (slice_get (row_of (slice_get rows j)) place)

  -- the first pass has what all callers have there, and has seen as much as each
  pub record HasAll (rows : List (List (Known B E))) (place : ℕ) (first : Known B E) : Type 0 where
    pub own : Gathered (length rows) (own_in rows place) first.own
    pub seen : (j : ℕ) (row : List (Known B E)) (pass : Known B E)
        → slice_get rows j ≡ Some row → slice_get row place ≡ Some pass → pass.seen ≤ first.seen

  -- so it is of each first pass that had no records
  pub record AreGathered (rows : List (List (Known B E))) (old new : List (Known B E)) : Type 0 where
    pub many : length new ≡ length old
    pub each : (place : ℕ) (before after : Known B E) → slice_get old place ≡ Some before → slice_get new place ≡ Some after
        → before.own ≡ [] → HasAll rows place after
