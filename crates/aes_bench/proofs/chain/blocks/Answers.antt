use Rattle.std.proofs.Common.{refl, ap}
use Rattle.std.proofs.Math.Numerals.{add-one}
use Rattle.piv_model.specs.Cipher.{encipher}
use Rattle.aes_bench.specs.Chain.{chained}
use Rattle.aes_bench.proofs.chain.blocks.Goals as goal

pub loop-done-init : goal.loop-done-init
unfolding chained
loop-done-init c = refl

pub loop-done-preserved : goal.loop-done-preserved
unfolding chained
loop-done-preserved c = rw (add-one, c.encrypt-last.ensures) (ap (encipher c.args.key.now) c.loop-done.invariant)
