-- What a device under a plan shows of itself.
use Rattle.nvm_device.specs.declared.device.Nvm.{Ghosts}
use Rattle.nvm_device.specs.declared.fused.Fused.{Fused}
use Rattle.nvm_device.specs.Device.{DeviceState}
use Rattle.power_loss.specs.Plans.{PlanState}
use Rattle.nvm_device.specs.declared.loss.How.{How}
use Rattle.nvm_device.specs.UnderPlan.{Below}

-- the device that it passes writes on to
abbrev pub inner_of : {N : Type 0} {meaning : Ghosts N} → Fused N meaning → N
inner_of f = f.inner

-- the plan, from the next write on
abbrev pub plan_of : {N : Type 0} {meaning : Ghosts N} → Fused N meaning → PlanState How
plan_of f = f.plan

-- its state, and whether it has lost a write by itself
abbrev pub below_of : {N : Type 0} {meaning : Ghosts N} → (N → DeviceState) → Fused N meaning → Below
below_of state f = record { state = state f.inner; spoiled = f.spoiled }
