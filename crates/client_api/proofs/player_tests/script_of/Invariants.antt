use Rattle.script_line.specs.Playable.{ArePlayable}
use Rattle.client_api.proofs.player_tests.script_of.Given as goal

abbrev pub invariant-lines : goal.invariant-lines
invariant-lines l = ArePlayable l.script.lines
