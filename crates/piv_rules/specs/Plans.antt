-- The plan of losses: the device writes at which power is to be lost, and the histories that keep to such a plan (this
-- project's own). `put_cost` gives the writes of a value of so many bytes in the card's store.
use Rattle.std.specs.Prelude.{◌≡◌, ℕ, ◌+◌, ◌-◌, filter, map, Bool, ◌&&◌, nat_lt, nat_le, List, [], ◌∷◌, length, find, unwrap_or, Some, IsTrue, not, if◌then◌else◌}
use Rattle.std.specs.List.{list_any}
use Rattle.std.specs.List.Sorted.{IsStrictlyIncreasing}
use Rattle.piv_model.specs.Commands.{CardCommand}
use Rattle.piv_model.specs.Entries.{CardEntry, Past, Call, Cut}
use Rattle.piv_model.specs.Base.{Base, profile}
use Rattle.piv_rules.specs.StatusWords.{is_granted, is_mismatched}
use Rattle.piv_rules.specs.Asks.{Ask, Put, Compare, ask}
use Rattle.piv_rules.specs.Answers.{answer}

-- the writes of a command that is answered this word: 4 of a comparison that matches, 2 of one that doesn't
abbrev pub cost_of : (ℕ → ℕ) → Ask → ℕ → ℕ
cost_of put_cost (Compare r p purpose) word =
    if is_granted word then 4 else if is_mismatched word then 2 else 0
cost_of put_cost (Put id v) word = if is_granted word then put_cost (length v) else 0
cost_of put_cost _ word = 0

unfoldable pub cost : (ℕ → ℕ) → Base → Past → ℕ → CardCommand → ℕ
cost put_cost B G c k = cost_of put_cost (ask (profile B) k) (answer B G c k).word

-- the first number of the plan above this one; this one where there is none
abbrev pub first_above : List ℕ → ℕ → ℕ
first_above L n = unwrap_or (find (nat_lt n) L) n

-- the writes that a history's commands have made, by the plan
abbrev pub made_with : (ℕ → ℕ) → Base → List ℕ → CardEntry → Past → ℕ → ℕ
made_with put_cost B L (Call c k word block) G n = n + cost put_cost B G c k
made_with put_cost B L (Cut (Some r)) G n = first_above L n
made_with put_cost B L _ G n = n

abbrev pub made : (ℕ → ℕ) → Base → List ℕ → Past → ℕ
made put_cost B L [] = 0
made put_cost B L (e ∷ G) = made_with put_cost B L e G (made put_cost B L G)

-- a number of the plan falls among the next writes
abbrev pub meets : List ℕ → ℕ → ℕ → Bool
meets L n writes = list_any (λ x. nat_lt n x && nat_le x (n + writes)) L

-- a Call meets no number of the plan, and a command that lost power meets one
abbrev pub IsPlanned : (ℕ → ℕ) → Base → List ℕ → Past → CardEntry → Type 0
IsPlanned put_cost B L G (Call c k word block) =
    IsTrue (not (meets L (made put_cost B L G) (cost put_cost B G c k)))
IsPlanned put_cost B L G (Cut (Some r)) =
    IsTrue (meets L (made put_cost B L G) (cost put_cost B G r.0 r.1))
IsPlanned put_cost B L G _ = Unit {0}

abbrev pub ArePlanned : (ℕ → ℕ) → Base → List ℕ → Past → Type 0
ArePlanned put_cost B L [] = Unit {0}
ArePlanned put_cost B L (e ∷ G) = ArePlanned put_cost B L G × IsPlanned put_cost B L G e

-- the numbers of the plan that are still to come, counted from the writes that were made
abbrev pub still_due : (ℕ → ℕ) → Base → List ℕ → Past → List ℕ
still_due put_cost B L H = map (λ x. x - made put_cost B L H) (filter (nat_lt (made put_cost B L H)) L)

-- the plan is that of a card whose store tells when its losses are due
pub record IsPlanOf (put_cost : ℕ → ℕ) (B : Base) (L : List ℕ) (H : Past) (told : List ℕ) : Type 0 where
  pub rises : IsStrictlyIncreasing L
  pub planned : ArePlanned put_cost B L H
  pub due : told ≡ still_due put_cost B L H
