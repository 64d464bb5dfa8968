use Rattle.std.proofs.Common.{◌≡◌, take}
use Rattle.scene_cells.proofs.bases.copy_objects.Given as goal

abbrev pub invariant-loop-k : goal.invariant-loop-k
invariant-loop-k l = l.copy ≡ take l.k l.objects
