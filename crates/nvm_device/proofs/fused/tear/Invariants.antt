use Rattle.nvm_device.specs.UnderPlan.{Tore}
use Rattle.nvm_device.proofs.fused.tear.Given as goal

abbrev pub invariant-loop-i : goal.invariant-loop-i
invariant-loop-i g l = Tore l.place l.i l.pattern (g.N.Nvm.state l.fn.inner) (g.N.Nvm.state l.inner)
