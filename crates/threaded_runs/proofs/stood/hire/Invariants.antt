use Rattle.std.specs.Prelude.{reverse, vec_capacity}
use Rattle.std.proofs.Common.{◌≡◌, ◌≤◌, ◌+◌, ◌++◌, length, map, vec_len}
use Rattle.threaded_runs.proofs.stood.hire.Given as goal

abbrev pub invariant-loop-player : goal.invariant-loop-player
invariant-loop-player g l = record {
  many : length l.rows.items ≡ length l.players.items;
  whole : l.fn.players.items ≡ l.players.items ++ map (λ w. w.player) (reverse l.workers.items);
  rows : map (λ v. v.items) l.fn.rows.items ≡ map (λ v. v.items) l.rows.items ++ map (λ w. w.passes.items) (reverse l.workers.items);
  room : length l.players.items + length l.workers.items ≤ vec_capacity l.workers;
}

abbrev pub decreases-loop-player : goal.decreases-loop-player
decreases-loop-player g l = vec_len l.players
