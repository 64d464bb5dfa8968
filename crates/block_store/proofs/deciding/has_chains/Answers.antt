use Rattle.std.proofs.Common.{◌≡◌, ℕ, List, refl, arith}
use Rattle.block_store.specs.Blocks.{chain}
use Rattle.block_store.proofs.Marks.{chain_is_of}
use Rattle.block_store.proofs.Decided.{too_long, no_fit, all_chains, counts_none, counts_more, one_more_short, one_more_below}
use Rattle.block_store.proofs.deciding.has_chains.Goals as goal

pub loop-place-init : goal.loop-place-init
loop-place-init c = record { size = refl; short = λ j low. absurd (omega arith); below = λ j low. absurd (omega arith); counts = λ b low. counts_none c.args.directory.now b }

pub returns-then-n-gt-LONGEST_OBJECT : goal.returns-then-n-gt-LONGEST_OBJECT
returns-then-n-gt-LONGEST_OBJECT c = too_long c.args.budget c.loop-place.place c.args.directory.now c.loop-place-test.true (let long = c.if-n-gt-LONGEST_OBJECT.true in let is = c.length_in-n.ensures.length in omega (arith, long, is))

pub returns-then-not-fits : goal.returns-then-not-fits
returns-then-not-fits c =
    let d : List ℕ = c.args.directory.now in
    let k : ℕ = c.loop-place.place in
    let same = chain_is_of d k c.blocks-count.result c.length_in-n.result c.first_in-first.result c.blocks-count.ensures.blocks c.length_in-n.ensures.length c.first_in-first.ensures.first in
    no_fit c.args.budget k d c.loop-place.used (chain d c.blocks-count.result c.first_in-first.result) c.requires c.loop-place-test.true same c.loop-place.invariant.counts (λ fits. let yes = c.add_chain-fits.ensures.fits.1 fits in let no_fits = c.if-not-fits.true in cc)

pub loop-place-preserved : goal.loop-place-preserved
loop-place-preserved c =
    let d : List ℕ = c.args.directory.now in
    let k : ℕ = c.loop-place.place in
    let chain_k = chain d c.blocks-count.result c.first_in-first.result in
    let same = chain_is_of d k c.blocks-count.result c.length_in-n.result c.first_in-first.result c.blocks-count.ensures.blocks c.length_in-n.ensures.length c.first_in-first.ensures.first in
    record {
      size = c.add_chain-fits.array_long;
      short = one_more_short d k c.length_in-n.result c.length_in-n.ensures.length c.if-n-gt-LONGEST_OBJECT.false c.loop-place.invariant.short;
      below = one_more_below c.args.budget k d chain_k same (c.add_chain-fits.ensures.fits.0 c.if-not-fits.false).below c.loop-place.invariant.below;
      counts = λ b low. counts_more d c.loop-place.used c.add_chain-fits.new.used k b chain_k same (c.loop-place.invariant.counts b low) (c.add_chain-fits.ensures.counts c.if-not-fits.false b low);
    }

pub returns : goal.returns
returns c = let last : c.loop-place.place ≡ 33 = omega arith in all_chains c.args.budget c.args.directory.now c.loop-place.used c.loop-place.place last c.requires c.loop-place.invariant.short c.loop-place.invariant.below c.loop-place.invariant.counts
