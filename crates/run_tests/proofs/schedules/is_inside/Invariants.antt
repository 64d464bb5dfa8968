use Rattle.std.proofs.Common.{◌<◌, All, take}
use Rattle.run_tests.proofs.schedules.is_inside.Given as goal

abbrev pub invariant-loop-k : goal.invariant-loop-k
invariant-loop-k l = All (λ k. k < 2) (take l.k-index l.schedule)
