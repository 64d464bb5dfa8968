use Rattle.std.proofs.Common.{◌≤◌}
use Rattle.block_store.proofs.Filled.{Followed}
use Rattle.block_store.proofs.reading.block_at.Given as goal

abbrev pub invariant-loop-i : goal.invariant-loop-i
invariant-loop-i l = record {
  few : l.block ≤ 65535;
  followed : Followed l.directory l.place l._i l.block;
}
