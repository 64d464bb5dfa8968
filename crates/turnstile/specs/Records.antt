-- Lists of records, and records with their places in such a list.
use Rattle.std.specs.Prelude.{◌≡◌, ◌≢◌, ℕ, ◌+◌, ◌<◌, nat_lt, if◌then◌else◌, List, [], ◌∷◌, ◌++◌, Option, Some, None, slice_get, All}

-- the list, followed by the record if there is one
abbrev pub followed : {E : Type 0} → List E → Option E → List E
followed records None = records
followed records (Some record_made) = records ++ record_made ∷ []

module _ {E : Type 0} where
  -- the records with their places, the first of which is k
  abbrev pub placed : ℕ → List E → List (ℕ × E)
  placed k [] = []
  placed k (r ∷ rs) = (k, r) ∷ placed (k + 1) rs

  -- each stands in the list at its place
  abbrev pub InPlace : List (ℕ × E) → List E → Type 0
  InPlace own records = All (λ e. slice_get records e.0 ≡ Some e.1) own

  -- each place is above k
  abbrev pub Above : ℕ → List (ℕ × E) → Type 0
  Above k own = All (λ e. k < e.0) own

  -- the places rise, and each is below n
  abbrev pub Rises : ℕ → List (ℕ × E) → Type 0
  Rises n [] = Unit {0}
  Rises n (e ∷ es) = (e.0 < n) × Above e.0 es × Rises n es

  -- one record put before the first whose place is above its own
  abbrev pub inserted : ℕ × E → List (ℕ × E) → List (ℕ × E)
  inserted e [] = e ∷ []
  inserted e (f ∷ fs) = if nat_lt e.0 f.0 then e ∷ f ∷ fs else f ∷ inserted e fs

  -- two lists made one, by place
  abbrev pub merged : List (ℕ × E) → List (ℕ × E) → List (ℕ × E)
  merged [] ys = ys
  merged (x ∷ xs) ys = inserted x (merged xs ys)

  -- none stands at the place k
  abbrev pub IsFree : ℕ → List (ℕ × E) → Type 0
  IsFree k own = All (λ e. e.0 ≢ k) own

  -- no place is in both
  abbrev pub Apart : List (ℕ × E) → List (ℕ × E) → Type 0
  Apart xs ys = All (λ e. IsFree e.0 ys) xs
