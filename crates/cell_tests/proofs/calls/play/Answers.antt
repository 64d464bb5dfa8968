use Rattle.std.proofs.Common.{ℕ, ◌≤◌, ◌<◌, IfSome, sym, subst}
use Rattle.cell_tests.proofs.calls.play.Goals as goal

pub answered-requires : goal.answered-requires
answered-requires g c = c.in_ok-call.ensures.on (g.P.Port.cards c.loop-row.port) c.loop-row.invariant.0 c.loop-row.invariant.1

pub loop-row-preserved : goal.loop-row-preserved
loop-row-preserved g c = (
  subst (λ (n : ℕ). 1 ≤ n) (sym c.answered.ensures.cards) c.loop-row.invariant.0,
  subst (λ (n : ℕ). IfSome c.call_of.new.handle (λ h. h.card < n)) (sym c.answered.ensures.cards)
      (c.in_ok-call.ensures.kept (g.P.Port.cards c.loop-row.port) c.loop-row.invariant.1),
)
