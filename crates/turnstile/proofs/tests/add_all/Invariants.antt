use Rattle.std.proofs.Common.{◌≡◌}
use Rattle.turnstile.specs.Known.{IsPassOf}
use Rattle.turnstile.proofs.tests.add_all.Given as goal

abbrev pub invariant-loop-i : goal.invariant-loop-i
invariant-loop-i g l = IsPassOf l.turnstile l.pass × (l.pass.is_first ≡ l.initial.pass.is_first) × (l.pass.out ≡ l.initial.pass.out)
