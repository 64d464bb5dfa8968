use Rattle.std.proofs.Common.{◌≡◌, ◌<◌, ◌≤◌, ℕ, length, get_or}
use Rattle.block_store.specs.Writes.{free_below, IsLowest}
use Rattle.block_store.proofs.directory.lowest_free.Given as goal

abbrev pub invariant-loop-block : goal.invariant-loop-block
invariant-loop-block l = record {
  size : length l.chosen ≡ 256;
  found : l.found ≡ free_below l.used l.block;
  few : l.found ≤ l.count;
  low : (j : ℕ) → j < 256 → get_or l.chosen j 0 < 2048;
  lowest : (j : ℕ) → j < l.found → IsLowest l.used j (get_or l.chosen j 0);
}
