use Rattle.std.proofs.Common.{◌≡◌, ◌≤◌, map, length, vec_capacity}
use Rattle.script_runs.specs.Progress.{answers_of}
use Rattle.script_runs.proofs.players.answers_of.Given as goal

abbrev pub invariant-loop-player : goal.invariant-loop-player
invariant-loop-player l = record {
  handed : map (λ v. v.items) l.answers.items ≡ answers_of l.yielded;
  room : length l.fn.players.items ≤ vec_capacity l.answers;
}
