use Rattle.std.proofs.Common.{◌≡◌, length}
use Rattle.aes_bench.specs.Chain.{rekeyed}
use Rattle.aes_bench.proofs.chain.keys.Given as goal

abbrev pub invariant-loop-done : goal.invariant-loop-done
invariant-loop-done l = record {
  same : record { key = l.bytes; block = l.block } ≡ rekeyed l.fn.first_key l._done l.fn.first;
  size : length l.bytes ≡ 16;
}
