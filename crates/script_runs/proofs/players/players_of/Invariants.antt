use Rattle.std.proofs.Common.{◌≡◌, take, map}
use Rattle.script_runs.specs.Progress.{begun}
use Rattle.script_runs.proofs.players.players_of.Given as goal

abbrev pub invariant-loop-script : goal.invariant-loop-script
invariant-loop-script l = l.players.items ≡ map (λ s. begun s.lines) (take l.script-index l.scripts)
