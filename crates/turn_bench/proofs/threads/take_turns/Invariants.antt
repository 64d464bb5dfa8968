use Rattle.std.proofs.Common.{◌≡◌}
use Rattle.turnstile.specs.Known.{IsPassOf}
use Rattle.turn_bench.proofs.threads.take_turns.Given as goal

abbrev pub invariant-loop-turn : goal.invariant-loop-turn
invariant-loop-turn g l = IsPassOf l.turnstile l.pass × (l.pass.is_first ≡ l.initial.pass.is_first) × (l.pass.out ≡ l.initial.pass.out)
