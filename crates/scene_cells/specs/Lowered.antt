-- What stands on a device after the records of its cell (this project's own).
use Rattle.std.specs.Prelude.{◌≡◌, ◌≤◌, ◌<◌, ◌+◌, ◌-◌, ◌^◌, ℕ, List, length, Some, IfSome, slice_get}
use Rattle.piv_model.specs.Entries.{Past}
use Rattle.nvm_device.specs.Device.{DeviceState}
use Rattle.nvm_device.specs.UnderPlan.{NeverLoses}
use Rattle.piv_rules.specs.Acts.{Records, entries}
use Rattle.piv_rules.specs.Legal.{IsLegal}
use Rattle.piv_rules.specs.Plans.{ArePlanned}
use Rattle.piv_rules.specs.Turns.{Runs}
use Rattle.block_store.specs.Blocks.{block_form}
use Rattle.block_store.specs.Devices.{Spells}
use Rattle.card_app.specs.Left.{Left}
use Rattle.card_cell.specs.declared.base.CellBase.{CellBase}
use Rattle.card_cell.specs.Holds.{base_of}
use Rattle.card_cell.specs.Losses.{loss_count}

-- The commands that lost power are at most as many as the losses that were planned and those by which the device's own
-- count rose; where it rose there is one.
pub record HaveCause (planned before now : ℕ) (H : Past) : Type 0 where
  pub most : now + planned < 2 ^ 64 - 1 → loss_count H ≤ (now - before) + planned
  pub some : now + planned < 2 ^ 64 - 1 → before < now → 1 ≤ loss_count H

-- The device after the records. Where it tells its bytes, these are a run of turns and their history is legal, and it
-- spells the memory that they left; whatever it tells, each loss has its cause.
pub record IsLeft (base : CellBase) (R : Records) (device : DeviceState) : Type 0 where
  pub size : 1114112 ≤ device.size
  pub runs : IfSome device.bytes (λ row. Runs (base_of base.start) R)
  pub legal : IfSome device.bytes (λ row. IsLegal (base_of base.start) (entries R))
  pub memory : IfSome device.bytes (λ row. Left (base_of base.start) R (λ m. Spells m device))
  pub losses : HaveCause (length base.plan) base.losses device.power.losses (entries R)
  -- a device that never loses power by itself lost the writes of the plan
  pub planned : IfSome device.bytes (λ row. NeverLoses device.power
      → ArePlanned block_form.put_cost (base_of base.start) base.plan (entries R))

-- so it is of each cell's device, for all records that the cell held
abbrev pub AreLeft : {C : Type 0} → (C → CellBase → Records → Type 0) → (C → DeviceState) → List C → Type 0
AreLeft {C} held state cells =
    (k : ℕ) (cell : C) (base : CellBase) (R : Records)
    → slice_get cells k ≡ Some cell → held cell base R → IsLeft base R (state cell)
