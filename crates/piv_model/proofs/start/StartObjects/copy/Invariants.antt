use Rattle.std.proofs.Common.{◌≡◌, take}
use Rattle.piv_model.proofs.start.StartObjects.copy.Given as goal

abbrev pub invariant-loop-k : goal.invariant-loop-k
invariant-loop-k l = l.copy ≡ take l.k l.self
