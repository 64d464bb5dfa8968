-- What a store in memory owes as a store: later losses rise from now.
use Rattle.std.specs.Prelude.{◌≤◌, Bool, true, false, length}
use Rattle.std.proofs.Common.{arith}
use Rattle.std.proofs.lemmas.List.{length-map}
use Rattle.power_loss.specs.Due.{RisesFrom}
use Rattle.power_loss.specs.Power.{RisesWithin}
use Rattle.power_loss.specs.Plans.{PlanState, write_numbers}
use Rattle.power_loss.specs.declared.loss.Loss.{Loss}
use Rattle.memory_store.specs.declared.loss.Leaves.{Leaves}
use Rattle.memory_store.specs.Told.{told as told_if}

pub told_rises : (told : Bool) (plan : PlanState Leaves) → RisesFrom 0 (write_numbers plan.to_come) → length plan.to_come ≤ plan.span
    → RisesWithin plan.span (told_if told (write_numbers plan.to_come))
told_rises false plan rises within = tt
told_rises true plan rises within = (rises, omega (arith, length-map plan.to_come (λ (l : Loss Leaves). l.write)))
