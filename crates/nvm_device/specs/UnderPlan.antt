-- A device under a plan of losses: its meaning by the plan and by the device below it, and what a
-- write makes of both. A planned loss counts beside one of the device below.
use Rattle.std.specs.Prelude.{◌≡◌, ◌↔◌, ◌⊎◌, ℕ, ◌+◌, ◌-◌, ◌^◌, min, Bool, true, false, List, [], ◌∷◌, length, Some, None, Result, Ok, Err, IsErr}
use Rattle.std.specs.declared.option.Option.{Option}
use Rattle.std.specs.Option.{option_map}
use Rattle.nvm_device.specs.declared.loss.How.{How}
use Rattle.nvm_device.specs.Bytes.{bytes_at, overwrite}
use Rattle.power_loss.specs.Power.{Power, PowerLost}
use Rattle.nvm_device.specs.Device.{DeviceState, written, TornRow, Torn}
use Rattle.power_loss.specs.Plans.{PlanState, write_numbers}
use Rattle.nvm_device.specs.Losses.{repeated, left_by}

-- The plan's numbers are told where the inner device tells that no loss of its own comes, and has
-- lost no write by itself.
abbrev pub due_under : Bool → List ℕ → Option (List ℕ) → Option (List ℕ)
due_under false due (Some []) = Some due
due_under false due (Some (first ∷ later)) = None
due_under false due None = None
due_under true due told = None

-- It tells that no loss comes, and has no plan of losses: it never loses a write.
pub record NeverLoses (power : Power) : Type 0 where
  pub due : power.due ≡ Some []
  pub span : power.span ≡ 0

-- the inner device, and whether it has lost a write by itself
pub record Below : Type 0 where
  pub state : DeviceState
  pub spoiled : Bool

abbrev pub unspoiled : DeviceState → Below
unspoiled s = record { state = s; spoiled = false }

-- the same with this power
abbrev pub powered : Power → Below → Below
powered power below = record below { state = record below.state { power = power } }

-- the power of the device under the plan
abbrev pub power_under : PlanState How → Below → Power
power_under plan below = let power = below.state.power in record {
  on = power.on;
  losses = min (power.losses + (plan.span - length plan.to_come)) (2 ^ 64 - 1);
  span = plan.span;
  due = due_under below.spoiled (write_numbers plan.to_come) power.due;
}

-- what the device under the plan means
abbrev pub under_plan : PlanState How → Below → DeviceState
under_plan plan below = record below.state { power = power_under plan below }

-- the row after a lost write of these bytes
abbrev pub left_at : How → ℕ → List ℕ → List ℕ → List ℕ
left_at how place bytes row =
    overwrite row place (left_by how (bytes_at row place (length bytes)) bytes)

-- the inner device at a planned loss: its range holds what the plan says, and the power is off
pub record LeavesAsPlanned (how : How) (place : ℕ) (bytes : List ℕ) (old new : DeviceState)
    : Type 0 where
  pub size : new.size ≡ old.size
  pub row : new.bytes ≡ option_map (left_at how place bytes) old.bytes
  pub power : new.power ≡ record old.power { on = false; due = new.power.due }
  pub none_due : (old.power.due ≡ Some []) ↔ (new.power.due ≡ Some [])

-- the inner device where it lost that write by itself too: any bytes stand in the range, and it
-- counts a loss of its own
pub record LeavesAny (place n : ℕ) (old new : DeviceState) : Type 0 where
  pub lost : PowerLost new.power.due (TornRow place n old new) old.power new.power
  pub was_due : old.power.due ≡ Some [] → ⊥
  pub loses : NeverLoses new.power → ⊥

-- a write that the plan loses, alone or with the inner device
abbrev pub LosesPlanned : How → ℕ → List ℕ → Below → Below → Type 0
LosesPlanned how place bytes old new =
    (LeavesAsPlanned how place bytes old.state new.state × (new.spoiled ≡ old.spoiled))
    ⊎ (LeavesAny place (length bytes) old.state new.state × (new.spoiled ≡ true))

-- a write that the plan leaves to the inner device
abbrev pub Passes : {T E : Type 0} → ℕ → List ℕ → Result T E → Below → Below → Type 0
Passes place bytes (Ok x) old new = new ≡ record old { state = written 1 place bytes old.state }
Passes place bytes (Err e) old new =
    Torn place (length bytes) old.state new.state × (new.spoiled ≡ true)

-- a write, by what the plan says of it
abbrev pub WritesUnder : {T E : Type 0}
    → Option How → ℕ → List ℕ → Result T E → Below → Below → Type 0
WritesUnder (Some how) place bytes result old new =
    IsErr result × LosesPlanned how place bytes old new
WritesUnder None place bytes result old new = Passes place bytes result old new

-- a device after so many bytes of a pattern were written, one by one
pub record Tore (place n : ℕ) (pattern : List ℕ) (old new : DeviceState) : Type 0 where
  pub size : new.size ≡ old.size
  pub row : new.bytes ≡ option_map (λ row. overwrite row place (repeated pattern n)) old.bytes
  pub power : new.power ≡ record old.power { due = new.power.due }
  pub forth : old.power.due ≡ Some [] → new.power.due ≡ Some []
  pub back : new.power.due ≡ Some [] → old.power.due ≡ Some []
