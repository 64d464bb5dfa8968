-- What the device under a plan and the device in memory owe as devices.
use Rattle.std.specs.Prelude.{◌≡◌, ℕ, ◌-◌, ◌≤◌, Bool, true, false, List, [], ◌∷◌, length, replicate, Some, None}
use Rattle.std.specs.declared.option.Option.{Option}
use Rattle.std.proofs.Common.{arith, length-append}
use Rattle.std.proofs.lemmas.List.{length-map, length-replicate}
use Rattle.power_loss.specs.Due.{RisesFrom}
use Rattle.power_loss.specs.Power.{RisesWithin}
use Rattle.power_loss.specs.Plans.{PlanState, write_numbers}
use Rattle.power_loss.specs.declared.loss.Loss.{Loss}
use Rattle.nvm_device.specs.declared.loss.How.{How}
use Rattle.nvm_device.specs.Bytes.{zeros, filled_up}
use Rattle.nvm_device.specs.UnderPlan.{due_under}

pub due_under_rises : (spoiled : Bool) (plan : PlanState How) (told : Option (List ℕ))
    → RisesFrom 0 (write_numbers plan.to_come) → length plan.to_come ≤ plan.span
    → RisesWithin plan.span (due_under spoiled (write_numbers plan.to_come) told)
due_under_rises false plan (Some []) rises within =
    (rises, omega (arith, length-map plan.to_come (λ (l : Loss How). l.write)))
due_under_rises false plan (Some (first ∷ later)) rises within = tt
due_under_rises false plan None rises within = tt
due_under_rises true plan told rises within = tt

pub length-filled_up : (row : List ℕ) (size : ℕ) → length row ≤ size → length (filled_up row size) ≡ size
unfolding filled_up zeros
length-filled_up row size within =
    let zeros : List ℕ = replicate (size - length row) 0 in
    omega (arith, length-append row zeros, length-replicate {A = ℕ} (size - length row) 0)
