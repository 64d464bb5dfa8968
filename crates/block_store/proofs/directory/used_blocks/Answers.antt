use Rattle.std.proofs.Common.{◌||◌, refl, ◌∙◌, ap}
use Rattle.block_store.specs.Writes.{is_marked, is_in}
use Rattle.block_store.proofs.Marks.{marked_suc, unmarked, chain_is_of}
use Rattle.block_store.proofs.directory.used_blocks.Goals as goal

pub loop-place-init : goal.loop-place-init
loop-place-init c = record { size = refl; marks = λ b low. unmarked c.args.directory.now b }

pub loop-place-preserved : goal.loop-place-preserved
loop-place-preserved c = record {
  size = c.type_inv.used;
  marks = λ b low.
      let d = c.args.directory.now in
      let same = chain_is_of d c.loop-place.place c.blocks-count.result c.length_in.result c.first_in.result c.blocks-count.ensures.blocks c.length_in.ensures.length c.first_in.ensures.first in
      marked_suc d (is_marked c.loop-place.used b) (is_marked c.mark_chain.new.used b) c.loop-place.place b (c.loop-place.invariant.marks b low)
      (c.mark_chain.ensures b low ∙ ap (λ xs. is_marked c.loop-place.used b || is_in b xs) same);
}
