use Rattle.std.proofs.Common.{◌+◌, ◌<◌, ℕ, List, refl, sym, ◌∙◌, ap, arith}
use Rattle.std.proofs.lemmas.List.{length-set}
use Rattle.block_store.proofs.Marks.{free_unmarked, free_none, zeros_low, low_more, lowest_more}
use Rattle.block_store.proofs.directory.lowest_free.Goals as goal

pub loop-block-init : goal.loop-block-init
loop-block-init c = record { size = refl; found = sym (free_none c.args.used.now); few = omega arith; low = λ j below. zeros_low 256 j; lowest = λ j below. absurd (omega arith) }

pub loop-block-preserved : goal.loop-block-preserved
loop-block-preserved c =
    let used = c.args.used.now in
    let chosen : List ℕ = c.loop-block.chosen in
    let found : ℕ = c.loop-block.found in
    let block : ℕ = c.loop-block.block in
    let inv = c.loop-block.invariant in
    let some : found < c.args.count = omega arith in
    let room : found < 256 = omega arith in
    record {
      size = length-set chosen found block ∙ inv.size;
      found = ap (λ n. n + 1) inv.found ∙ sym (free_unmarked used block c.if-used-block.false);
      few = omega arith;
      low = low_more chosen found block inv.size room c.loop-block-test.true inv.low;
      lowest = lowest_more used chosen found block inv.size room c.loop-block-test.true c.if-used-block.false inv.found inv.lowest;
    }
