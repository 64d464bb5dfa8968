use Rattle.std.proofs.Common.{◌≤◌, ◌<◌, IfSome}
use Rattle.cell_tests.proofs.calls.play.Given as goal

abbrev pub invariant-loop-row : goal.invariant-loop-row
invariant-loop-row g l = (1 ≤ g.P.Port.cards l.port) × IfSome l.handle (λ h. h.card < g.P.Port.cards l.port)
