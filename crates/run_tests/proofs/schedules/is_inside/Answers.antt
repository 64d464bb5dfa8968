use Rattle.std.proofs.Common.{◌<◌, ℕ, All, List, subst}
use Rattle.std.proofs.lemmas.List.{take_all}
use Rattle.std.proofs.lemmas.List.Elements.{All-more}
use Rattle.run_tests.proofs.schedules.is_inside.Goals as goal

pub loop-k-preserved : goal.loop-k-preserved
loop-k-preserved c = All-more (λ k. k < 2) c.args.schedule.now c.loop-k.k-index 0 c.loop-k-test.true c.loop-k.invariant c.if-k-ge2.false

pub returns : goal.returns
returns c e = subst (λ (l : List ℕ). All (λ k. k < 2) l) (take_all c.loop-k.k-index c.args.schedule.now c.loop-k-test.false) c.loop-k.invariant
