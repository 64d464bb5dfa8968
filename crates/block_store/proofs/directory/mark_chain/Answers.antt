use Rattle.std.proofs.Common.{◌≡◌, ◌+◌, ◌-◌, ◌==◌, ◌||◌, ℕ, ◌∙◌, ap, arith}
use Rattle.block_store.specs.Blocks.{chain}
use Rattle.block_store.specs.Writes.{is_marked, is_in}
use Rattle.block_store.proofs.Marks.{along, marked_more, marked_none}
use Rattle.block_store.proofs.directory.mark_chain.Goals as goal
use Rattle.block_store.proofs.directory.mark_chain.Goals.{then-block-lt-MOST_BLOCKS, else-block-lt-MOST_BLOCKS}

pub loop-i-preserved : goal.loop-i-preserved
loop-i-preserved c = record {
  few = c.next_in-block.ensures.few;
  size = c.if-block-lt-MOST_BLOCKS.array_long;
  marks = λ b low.
      let d = c.args.directory.now in
      let used = c.loop-i.used in
      let block : ℕ = c.loop-i.block in
      let n : ℕ = c.args.count in
      let i : ℕ = c.loop-i._i in
      let size = c.loop-i.invariant.size in
      let is : is_marked c.if-block-lt-MOST_BLOCKS.used b ≡ ((block == b) || is_marked used b) = elim c.if-block-lt-MOST_BLOCKS.branch [
        | then-block-lt-MOST_BLOCKS w ↦ ap (λ u. is_marked u b) w.used-is ∙ marked_more used block b (let h = w.if-block-lt-MOST_BLOCKS.true in omega (arith, size, h))
        | else-block-lt-MOST_BLOCKS w ↦ ap (λ u. is_marked u b) w.used-is ∙ marked_none used block b (omega (arith, size, low)) (let h = w.if-block-lt-MOST_BLOCKS.false in omega (arith, size, h))
      ] in
      ap (λ k. is_marked c.if-block-lt-MOST_BLOCKS.used b || is_in b (chain d (n - (i + 1)) k)) c.next_in-block.ensures.next
      ∙ along d (is_marked used b) (is_marked c.if-block-lt-MOST_BLOCKS.used b) n i block b c.loop-i-test.true is ∙ c.loop-i.invariant.marks b low;
}
