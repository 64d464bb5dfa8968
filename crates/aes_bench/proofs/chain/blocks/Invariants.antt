use Rattle.std.proofs.Common.{◌≡◌}
use Rattle.aes_bench.specs.Chain.{chained}
use Rattle.aes_bench.proofs.chain.blocks.Given as goal

abbrev pub invariant-loop-done : goal.invariant-loop-done
invariant-loop-done l = l.last ≡ chained l.key l._done l.fn.first
