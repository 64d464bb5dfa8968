-- Turnstiles in a row, and passes of them in their order (this project's own).
use Rattle.std.specs.Prelude.{◌≡◌, ◌+◌, ◌++◌, ℕ, true, false, List, [], length, map, reverse, Some, slice_get}
use Rattle.turnstile.specs.Records.{Apart}
use Rattle.turnstile.specs.Known.{Gate, Known, IsPassOf, joined}
use Rattle.turnstile.specs.Turns.{Closed}

abbrev pub bases_of : {B : Type 0} → List (Gate B) → List B
bases_of gates = map (λ gate. gate.base) gates

module _ {B E : Type 0} where
  -- one pass of each turnstile, in their order
  pub record ArePassesOf (gates : List (Gate B)) (passes : List (Known B E)) : Type 0 where
    pub many : length gates ≡ length passes
    pub each : (k : ℕ) (gate : Gate B) (pass : Known B E)
        → slice_get gates k ≡ Some gate → slice_get passes k ≡ Some pass → IsPassOf gate pass

  -- the first pass of each turnstile
  abbrev pub AreFirst : List (Known B E) → Type 0
  AreFirst passes = (k : ℕ) (pass : Known B E) → slice_get passes k ≡ Some pass → pass.is_first ≡ true

  -- none is a first pass
  abbrev pub AreOthers : List (Known B E) → Type 0
  AreOthers passes = (k : ℕ) (pass : Known B E) → slice_get passes k ≡ Some pass → pass.is_first ≡ false

  -- rows of passes that are none of them first ones
  abbrev pub AreRowsOf : List (Gate B) → List (List (Known B E)) → Type 0
  AreRowsOf gates rows =
      (j : ℕ) (row : List (Known B E)) → slice_get rows j ≡ Some row → ArePassesOf gates row × AreOthers row

  -- of each turnstile so many passes are out
  abbrev pub HaveOut : ℕ → List (Known B E) → Type 0
  HaveOut n passes = (k : ℕ) (pass : Known B E) → slice_get passes k ≡ Some pass → pass.out ≡ n

  abbrev pub with_out : ℕ → Known B E → Known B E
  with_out n pass = record pass { out = n }

  abbrev pub one_more_out : Known B E → Known B E
  one_more_out pass = record pass { out = pass.out + 1 }

  -- each pass is the first one, joined with another, which had none of its places
  pub record IsJoined (first other after : Known B E) : Type 0 where
    pub same : after ≡ joined first other
    pub apart : Apart first.own other.own

  pub record AreJoined (firsts others after : List (Known B E)) : Type 0 where
    pub many : length after ≡ length firsts
    pub each : (k : ℕ) (first other new : Known B E) → slice_get firsts k ≡ Some first → slice_get others k ≡ Some other
        → slice_get after k ≡ Some new → IsJoined first other new

module _ {X B E : Type 0} (stands_for : X → B → List E → Type 0) where
  -- each value stands for its base and no record
  pub record StandAtStart (values : List X) (bases : List B) : Type 0 where
    pub many : length values ≡ length bases
    pub each : (k : ℕ) (value : X) (base : B)
        → slice_get values k ≡ Some value → slice_get bases k ≡ Some base → stands_for value base []

  -- the first values stand for their bases and no record, and the others behind turnstiles, the last of which has the
  -- first of them
  pub record StandBehind (values : List X) (gates : List (Gate B)) (bases : List B) : Type 0 where
    pub front : List B
    pub start : StandAtStart values front
    pub rest : bases ≡ front ++ bases_of (reverse gates)

  -- each turnstile was closed by its first pass
  pub record AreClosed (gates : List (Gate B)) (firsts : List (Known B E)) (values : List X) : Type 0 where
    pub many : length values ≡ length gates
    pub each : (k : ℕ) (gate : Gate B) (pass : Known B E) (value : X) → slice_get gates k ≡ Some gate
        → slice_get firsts k ≡ Some pass → slice_get values k ≡ Some value → Closed stands_for gate.base value pass
