use Rattle.std.proofs.Common.{◌<◌, ◌≤◌, ℕ, IfSome}
use Rattle.twin_store.specs.Twins.{length_at}
use Rattle.twin_store.proofs.records.has_short.Given as goal

abbrev pub invariant-loop-place : goal.invariant-loop-place
invariant-loop-place g l = IfSome (g.N.Nvm.state l.nvm).bytes (λ row. (j : ℕ) → j < l.place → length_at row j ≤ 16384)
