use Rattle.std.specs.Prelude.{reverse, vec_capacity}
use Rattle.std.proofs.Common.{◌≡◌, ◌≤◌, ◌+◌, ◌++◌, length, map, vec_len}
use Rattle.client_threads.specs.Held.{cell_of}
use Rattle.threaded_runs.proofs.cells.hold.Given as goal

abbrev pub invariant-loop-cell : goal.invariant-loop-cell
invariant-loop-cell g l = record {
  whole : l.initial.cells.items ≡ l.cells.items ++ map (λ h. cell_of h) (reverse l.room.items);
  room : length l.cells.items + length l.room.items ≤ vec_capacity l.room;
  capacity : vec_capacity l.cells ≡ vec_capacity l.initial.cells;
}

abbrev pub decreases-loop-cell : goal.decreases-loop-cell
decreases-loop-cell g l = vec_len l.cells
