use Rattle.std.proofs.Common.{◌≡◌, ◌+◌, ◌<◌, ℕ, length}
use Rattle.block_store.specs.Blocks.{next_in}
use Rattle.block_store.proofs.laying.linked_directory.Given as goal

abbrev pub invariant-loop-block : goal.invariant-loop-block
invariant-loop-block l = record {
  size : length l.directory ≡ 4228;
  nexts : (b : ℕ) → b < l.block → next_in l.directory b ≡ b + 1;
}
