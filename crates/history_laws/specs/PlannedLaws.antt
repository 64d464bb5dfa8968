-- The losses of power of a history that keeps to a plan (this project's own).
use Rattle.std.specs.Prelude.{◌≤◌, ℕ, Bool, true, false, List, length, count_by, Some}
use Rattle.piv_model.specs.Entries.{CardEntry, Past, Cut}
use Rattle.piv_model.specs.Base.{Base}
use Rattle.piv_rules.specs.Plans.{ArePlanned}

-- a command lost power
abbrev pub is_loss : CardEntry → Bool
is_loss (Cut (Some r)) = true
is_loss _ = false

-- commands lose power at most as often as the plan has numbers, and under an empty plan never
abbrev pub LossesAreFew : Type 0
LossesAreFew = (put_cost : ℕ → ℕ) (B : Base) (L : List ℕ) (H : Past) → ArePlanned put_cost B L H → count_by is_loss H ≤ length L
