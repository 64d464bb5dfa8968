use Rattle.std.proofs.Common.{◌≡◌, ◌≤◌, map}
use Rattle.std.specs.List.{range_with_len}
use Rattle.std.specs.Vec.{vec_len, vec_capacity}
use Rattle.piv_model.specs.Starts.{value_at}
use Rattle.memory_store.proofs.memory.placed_objects.Given as goal

abbrev pub invariant-loop-place : goal.invariant-loop-place
invariant-loop-place l = record {
  placed : l.objects.items ≡ map (value_at l.start.objects) (range_with_len 0 l.place);
  number : vec_len l.objects ≡ l.place;
  room : 33 ≤ vec_capacity l.objects;
}
