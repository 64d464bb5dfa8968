use Rattle.std.specs.Prelude.{vec_capacity}
use Rattle.std.proofs.Common.{◌≡◌, ◌≤◌, false, All, length, map}
use Rattle.threaded_runs.proofs.stood.part.Given as goal

abbrev pub invariant-loop-worker : goal.invariant-loop-worker
invariant-loop-worker g l = record {
  rows : map (λ v. v.items) l.rows.items ≡ map (λ w. w.passes.items) l.yielded;
  answers : map (λ v. v.items) l.answers.items ≡ map (λ w. w.player.answers) l.yielded;
  refused : l.any ≡ false → All (λ w. w.refused ≡ false) l.yielded;
  rows_room : length l.fn.workers.items ≤ vec_capacity l.rows;
  answers_room : length l.fn.workers.items ≤ vec_capacity l.answers;
}
