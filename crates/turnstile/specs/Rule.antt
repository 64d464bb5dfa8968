-- The rule of the table behind a turnstile: what holds between any two steps of its threads.
use Rattle.std.specs.Prelude.{◌≡◌, ℕ, ◌+◌, ◌<◌, ◌≤◌, ◌==◌, ◌&&◌, not, is_some, Bool, true, if◌then◌else◌, List, [], ◌∷◌, map, length, Option, Some, None}
use mathlib.Core.Option.{some, none}
use mathlib.Core.Option as maybe
use lib.ListN.{get_elem?}
use Rattle.atomic_table.specs.Table.{State}
use Rattle.turnstile.specs.declared.view.View.{View}
use Rattle.turnstile.specs.Known.{most_out}

module _ {E : Type 0} where
  -- The log has each record with the seat that owns it, in the order of their places
  abbrev pub records_of : List (ℕ × E) → List E
  records_of log = map (λ e. e.1) log

  -- the records of one seat with their places, where the log begins at the place k
  abbrev pub owned : ℕ → ℕ → List (ℕ × E) → List (ℕ × E)
  owned seat k [] = []
  owned seat k (e ∷ es) = if e.0 == seat then (k, e.1) ∷ owned seat (k + 1) es else owned seat (k + 1) es

-- the word while a turn is made: 2 tells that a thread may sleep on it
abbrev pub IsBusy : ℕ → Type 0
IsBusy word = (0 < word) × (word ≤ 2)

-- the word is 0 exactly while no seat has taken the value
abbrev pub Marks : ℕ → Option ℕ → Type 0
Marks word None = word ≡ 0
Marks word (Some seat) = IsBusy word

abbrev pub IsSeatBelow : ℕ → Option ℕ → Type 0
IsSeatBelow n None = Unit {0}
IsSeatBelow n (Some seat) = seat < n

module _ {X : Type 0} where
  -- the slot: it has the value while no seat has taken it
  abbrev pub home_of : Option ℕ → X → maybe.Option (Option X)
  home_of None x = some (Some x)
  home_of (Some seat) x = none

  -- what this seat has taken
  abbrev pub taken_by : Option ℕ → X → ℕ → Option X
  taken_by None x seat = None
  taken_by (Some holder) x seat = if holder == seat then Some x else None

module _ {X B E : Type 0} where
  -- the first pass of a turnstile with this base
  abbrev pub opener : B → View X B E
  opener base = record { is_first = true; base = Some base; seen = 0; own = []; out = 0; taken = None }

  -- it is neither the first nor joined away
  abbrev pub is_out : View X B E → Bool
  is_out v = is_some v.base && not v.is_first

  abbrev pub count_out : List (View X B E) → ℕ
  count_out [] = 0
  count_out (v ∷ vs) = (if is_out v then 1 else 0) + count_out vs

  -- what a seat's pass knows is so. One that was joined away knows no base
  pub record Knows (base : B) (log : List (ℕ × E)) (holder : Option ℕ) (value : X) (out seat : ℕ) (v : View X B E) : Type 0 where
    pub own : v.own ≡ owned seat 0 log
    pub seen : v.seen ≤ length log
    pub below : (k : ℕ) (r : E) → get_elem? log k ≡ some (seat, r) → k < v.seen
    pub taken : v.taken ≡ taken_by holder value seat
    pub based : (b : B) → v.base ≡ Some b → b ≡ base
    pub away : v.base ≡ None → (v.own ≡ []) × (v.taken ≡ None)
    pub first : v.is_first ≡ true → (seat ≡ 0) × (v.base ≡ Some base) × (v.out ≡ out) × (out ≤ most_out)

  -- There is a log of all records, each owned by one seat. One seat at most has taken the value, which stands for
  -- the base and the records of the log
  pub record Keeps (stands_for : X → B → List E → Type 0) (base : B) (s : State (Option X) (View X B E)) : Type 0 where
    pub log : List (ℕ × E)
    pub holder : Option ℕ
    pub value : X
    pub word : ℕ
    pub words : s.words ≡ word ∷ []
    pub marked : Marks word holder
    pub homes : s.homes ≡ home_of holder value ∷ []
    pub stands : stands_for value base (records_of log)
    pub seat : IsSeatBelow (length s.views) holder
    pub owners : (k seat : ℕ) (r : E) → get_elem? log k ≡ some (seat, r) → seat < length s.views
    pub views : (seat : ℕ) (v : View X B E) → get_elem? s.views seat ≡ some v → Knows base log holder value (count_out s.views) seat v
