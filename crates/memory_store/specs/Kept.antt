-- What a store in memory keeps, told or untold.
use Rattle.std.specs.Prelude.{◌≡◌, ℕ, Option, Some, None}
use Rattle.power_loss.specs.Plans.{PlanState, planned_in, plan_after}
use Rattle.piv_model.specs.Memory.{Memory}
use Rattle.memory_store.specs.Told.{told}
use Rattle.memory_store.specs.declared.loss.Leaves.{Leaves}
use Rattle.memory_store.specs.declared.loss.Leaves.TheVariants.{Old, New}
use Rattle.memory_store.specs.declared.store.MemoryStore.{MemoryStore}

abbrev pub memory_of : MemoryStore → Memory
memory_of s = s.memory

-- that memory, where the store tells it
abbrev pub told_memory : MemoryStore → Option Memory
told_memory s = told s.told s.memory

-- its plan of losses, from the next write on
abbrev pub plan_of : MemoryStore → PlanState Leaves
plan_of s = s.plan

-- the memory behind a call that changes it, by the loss that came within it
abbrev pub left_by : Option Leaves → (Memory → Memory) → Memory → Memory
left_by None change m = change m
left_by (Some New) change m = change m
left_by (Some Old) change m = m

-- what a call of n writes makes of the memory, by the loss that the plan has among them, and of the plan
pub record KeepsMemory (n : ℕ) (change : Memory → Memory) (old new : MemoryStore) : Type 0 where
  pub memory : memory_of new ≡ left_by (planned_in n (plan_of old).to_come) change (memory_of old)
  pub plan : plan_of new ≡ plan_after n (plan_of old)
