-- What is told, or isn't.
use Rattle.std.specs.Prelude.{◌↔◌, ℕ, ◌+◌, ◌-◌, ◌^◌, ◌≤◌, min, List, Some, None, IsErr, IsTrue, IfSome, Result}
use Rattle.std.specs.declared.option.Option.{Option}
use Rattle.power_loss.specs.Due.{is_due}

-- a count that doesn't fall rose, or stands at the last u64
abbrev pub Rose : ℕ → ℕ → Type 0
Rose before now = (before ≤ now) × (min (before + 1) (2 ^ 64 - 1) ≤ now)

-- both tell nothing, or both tell and the relation holds
abbrev pub Each : {A : Type 0} → (A → A → Type 0) → Option A → Option A → Type 0
Each R None None = Unit {0}
Each R (Some old) (Some new) = R old new
Each R None (Some new) = ⊥
Each R (Some old) None = ⊥

-- a call of n writes is lost exactly where one of them is due, if that is told
abbrev pub LostWhereDue : {T E : Type 0} → ℕ → Option (List ℕ) → Result T E → Type 0
LostWhereDue n due result = IfSome due (λ due. IsErr result ↔ IsTrue (is_due n due))
