use Rattle.std.specs.Prelude.{reverse, vec_capacity}
use Rattle.std.proofs.Common.{◌≡◌, ◌≤◌, ◌+◌, ◌++◌, length, map, vec_len}
use Rattle.client_threads.specs.Held.{cell_of}
use Rattle.threaded_runs.proofs.cells.release.Given as goal

abbrev pub invariant-loop-cell : goal.invariant-loop-cell
invariant-loop-cell g l = record {
  whole : map (λ h. cell_of h) l.fn.held.items ≡ map (λ h. cell_of h) l.held.items ++ reverse l.room.items;
  room : length l.held.items + length l.room.items ≤ vec_capacity l.room;
}

abbrev pub decreases-loop-cell : goal.decreases-loop-cell
decreases-loop-cell g l = vec_len l.held
