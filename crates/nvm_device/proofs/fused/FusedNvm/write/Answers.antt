use Rattle.std.proofs.Common.{◌≡◌, rules, length, Some, IfSome, false, true, sym}
use Rattle.power_loss.specs.Due.{is_due}
use Rattle.nvm_device.specs.UnderPlan.{LeavesAny, LeavesAsPlanned}
use Rattle.power_loss.specs.Plans.{planned_in}
use Rattle.nvm_device.proofs.OwnLosses.{lost-itself, never-before, never-planned}
use Rattle.nvm_device.proofs.Written.{lost_as_planned, lost_both, not_lost}
use Rattle.nvm_device.proofs.fused.FusedNvm.write.Goals as goal
use Rattle.nvm_device.proofs.fused.FusedNvm.write.Goals.{then-is_err, else-is_err}

pub invariant_of-self : goal.invariant_of-self
invariant_of-self g c =
    let old = c.args.self.now in
    let bytes = c.args.bytes.now in
    let s = g.N.Nvm.state old.inner in
    let t = g.N.Nvm.state c.lose.new.inner in
    record {
      rises = c.make.ensures.rises;
      within = c.make.ensures.within;
      loses = elim c.if-is_err.branch [
        | then-is_err w ↦
            let leaves : LeavesAny c.args.place (length bytes) s t = search rules in
            λ spoiled never. leaves.loses never
        | else-is_err w ↦
            let leaves : LeavesAsPlanned c.in-Some.how.now c.args.place bytes s t = search rules in
            rw w.self-is (λ spoiled never. old.loses spoiled (never-planned c.in-Some.how.now c.args.place bytes s t leaves never))
      ];
    }

pub invariant_of-self-in-Ok : goal.invariant_of-self-in-Ok
invariant_of-self-in-Ok g c =
    let old = c.args.self.now in
    record {
      rises = c.make-in-None.ensures.rises;
      within = c.make-in-None.ensures.within;
      loses = λ spoiled never. old.loses spoiled
          (never-before c.args.place c.args.bytes.now (g.N.Nvm.state old.inner) (g.N.Nvm.state c.write.new.self) c.in-Ok.ensures.ok (g.met.N.Nvm.due_rises old.inner) never);
    }

pub invariant_of-self-in-Err : goal.invariant_of-self-in-Err
invariant_of-self-in-Err g c =
    let old = c.args.self.now in
    let now : IfSome (g.N.Nvm.state old.inner).power.due (λ due. is_due 1 due ≡ true) = search rules in
    record {
      rises = c.make-in-None.ensures.rises;
      within = c.make-in-None.ensures.within;
      loses = λ spoiled never. lost-itself _ (g.N.Nvm.state old.inner).power (g.N.Nvm.state c.write.new.self).power c.in-Err.ensures.lost (g.met.N.Nvm.due_rises old.inner) now never;
    }

pub returns-in-Ok-clause-ok : goal.returns-in-Ok-clause-ok
returns-in-Ok-clause-ok g c =
    let old = c.args.self.now in
    let kept : IfSome (g.N.Nvm.state old.inner).power.due (λ due. is_due 1 due ≡ false) = search rules in
    not_lost old.plan c.make-in-None.new.self old.spoiled (g.N.Nvm.state old.inner) (g.N.Nvm.state c.write.new.self) c.args.place c.args.bytes.now c.make-in-None.ensures.plan old.within (sym c.in-None.ensures.planned) c.in-Ok.ensures.ok kept

pub returns-after-is_err-clause-lost : goal.returns-after-is_err-clause-lost
returns-after-is_err-clause-lost g c =
    let old = c.args.self.now in
    let s = g.N.Nvm.state old.inner in
    let t = g.N.Nvm.state c.lose.new.inner in
    let bytes = c.args.bytes.now in
    let planned : planned_in 1 old.plan.to_come ≡ Some c.in-Some.how.now = sym c.in-Some.ensures.planned in
    elim c.if-is_err.branch [
      | then-is_err w ↦
          let leaves : LeavesAny c.args.place (length bytes) s t = search rules in
          rw w.self-is (lost_both old.plan c.make.new.self old.spoiled s t c.args.place bytes c.make.ensures.plan old.within c.in-Some.how.now planned leaves)
      | else-is_err w ↦
          let leaves : LeavesAsPlanned c.in-Some.how.now c.args.place bytes s t = search rules in
          rw w.self-is (lost_as_planned old.plan c.make.new.self old.spoiled s t c.args.place bytes c.make.ensures.plan old.within c.in-Some.how.now planned leaves c.requires.range (g.met.N.Nvm.row_size old.inner))
    ]
