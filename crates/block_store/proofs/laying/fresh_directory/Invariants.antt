use Rattle.std.proofs.Common.{◌≡◌}
use Rattle.block_store.specs.Runs.{run, IsFresh}
use Rattle.block_store.proofs.laying.fresh_directory.Given as goal

abbrev pub invariant-loop-place : goal.invariant-loop-place
invariant-loop-place l = record {
  first : l.first ≡ run l.objects l.place;
  fresh : IsFresh l.objects l.place l.directory;
}
