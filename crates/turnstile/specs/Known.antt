-- What contracts see of a turnstile and of its passes.
use Rattle.std.specs.Prelude.{◌≡◌, ℕ, ◌+◌, ◌-◌, max, Bool, true, false, List, [], ◌∷◌, ◌++◌, Option, Some, None}
use Rattle.atomic_table.specs.Seated.{TableId}
use Rattle.turnstile.specs.Records.{merged}

-- which turnstile it is, and the base of what it holds
pub record Gate (B : Type 0) : Type 0 where
  pub table : TableId
  pub base : B

-- What a pass knows: its turnstile, whether it is the first, how many records it has seen, and its own with
-- their places. The first knows how many passes were split from it and not joined into it
pub record Known (B E : Type 0) : Type 0 where
  pub table : TableId
  pub base : Option B
  pub is_first : Bool
  pub seen : ℕ
  pub own : List (ℕ × E)
  pub out : ℕ

-- the most passes that may be out
abbrev pub most_out : ℕ
most_out = 4294967295

module _ {B E : Type 0} where
  abbrev pub IsPassOf : Gate B → Known B E → Type 0
  IsPassOf gate pass = (pass.table ≡ gate.table) × (pass.base ≡ Some gate.base)

  -- the first pass of a new turnstile
  abbrev pub first_pass : Gate B → Known B E
  first_pass gate = record { table = gate.table; base = Some gate.base; is_first = true; seen = 0; own = []; out = 0 }

  -- the pass that is split from this one
  abbrev pub split_off : Known B E → Known B E
  split_off pass = record pass { is_first = false; own = []; out = 0 }

  -- this pass after it has taken in another
  abbrev pub joined : Known B E → Known B E → Known B E
  joined pass other = record pass { seen = max pass.seen other.seen; own = merged pass.own other.own; out = pass.out - 1 }

-- what was seen, and what is own, after a turn that found n records and made one or none
abbrev pub seen_after : {E : Type 0} → ℕ → Option E → ℕ
seen_after n None = n
seen_after n (Some r) = n + 1

abbrev pub own_after : {E : Type 0} → List (ℕ × E) → ℕ → Option E → List (ℕ × E)
own_after own n None = own
own_after own n (Some r) = own ++ (n, r) ∷ []

abbrev pub after_turn : {B E : Type 0} → Known B E → ℕ → Option E → Known B E
after_turn pass n made = record pass { seen = seen_after n made; own = own_after pass.own n made }
