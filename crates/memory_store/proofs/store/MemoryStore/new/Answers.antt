use Rattle.std.proofs.Common.{subst, sym}
use Rattle.power_loss.specs.Due.{RisesFrom}
use Rattle.power_loss.specs.Plans.{PlanState, write_numbers}
use Rattle.piv_model.specs.Sound.{IsSound}
use Rattle.memory_store.specs.declared.loss.Leaves.{Leaves}
use Rattle.memory_store.proofs.store.MemoryStore.new.Goals as goal

pub invariant_of-result-clause-sound : goal.invariant_of-result-clause-sound
invariant_of-result-clause-sound c = subst IsSound (sym c.in_ok-memory.ensures) c.requires.spells.sound

pub invariant_of-result-clause-rises : goal.invariant_of-result-clause-rises
invariant_of-result-clause-rises c =
    subst (λ (plan : PlanState Leaves). RisesFrom 0 (write_numbers plan.to_come)) (sym c.new-2.ensures) c.requires.rises
