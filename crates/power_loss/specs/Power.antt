-- The power of what makes writes, a device or a store: whether it is on, and when it is lost within a write.
use Rattle.std.specs.Prelude.{◌≡◌, ℕ, ◌≤◌, Bool, true, false, List, length, IfSome}
use Rattle.std.specs.declared.option.Option.{Option}
use Rattle.std.specs.Option.{option_map}
use Rattle.power_loss.specs.Due.{RisesFrom, due_after}
use Rattle.power_loss.specs.Told.{Rose}

pub record Power : Type 0 where
  pub on : Bool
  -- how often it was lost within a write
  pub losses : ℕ
  -- the number of losses of a plan, 0 without one
  pub span : ℕ
  -- when later losses come, where that is told: the k-th number says how many writes from now
  pub due : Option (List ℕ)

-- later losses come at rising numbers of writes from now, as many as the span at most
abbrev pub RisesWithin : ℕ → Option (List ℕ) → Type 0
RisesWithin span due = IfSome due (λ due. RisesFrom 0 due × (length due ≤ span))

abbrev pub switched_off : Power → Power
switched_off p = record p { on = false }

abbrev pub switched_on : Power → Power
switched_on p = record p { on = true }

-- after n writes, none of them lost
abbrev pub power_after : ℕ → Power → Power
power_after n p = record p { due = option_map (due_after n) p.due }

-- It was lost in a call: it is off, the losses rose, these are due from now on, and the call left this.
pub record PowerLost (due : Option (List ℕ)) (Left : Type 0) (old new : Power) : Type 0 where
  pub left : Left
  pub rose : Rose old.losses new.losses
  pub power : new ≡ record old { on = false; losses = new.losses; due = due }

-- a call of n writes that was cut short by a loss among them
abbrev pub LostIn : ℕ → Type 0 → Power → Power → Type 0
LostIn n Left old new = PowerLost (option_map (due_after n) old.due) Left old new
