use Rattle.script_line.specs.Playable.{ArePlayable}
use Rattle.run_tests.proofs.schedules.script_of.Given as goal

abbrev pub invariant-lines : goal.invariant-lines
invariant-lines l = ArePlayable l.script.lines
