use Rattle.std.proofs.Common.{◌≡◌, ◌≤◌, ◌*◌, take}
use Rattle.piv_model.specs.Memory.{blocks_used}
use Rattle.memory_store.proofs.memory.blocks_of_all.Given as goal

abbrev pub invariant-loop-value : goal.invariant-loop-value
invariant-loop-value l = record {
  sum : l.total ≡ blocks_used (take l.value-index l.objects);
  few : l.total ≤ 256 * l.value-index;
}
