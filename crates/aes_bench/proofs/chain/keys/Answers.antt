use Rattle.std.proofs.Common.{◌≡◌, rules, refl, ap, ◌∙◌, length-set}
use Rattle.std.proofs.Math.Numerals.{add-one}
use Rattle.piv_model.specs.Cipher.{encipher}
use Rattle.aes_bench.specs.Chain.{Pair, next_key, rekeyed}
use Rattle.aes_bench.proofs.chain.keys.Goals as goal

pub loop-done-init : goal.loop-done-init
unfolding rekeyed
loop-done-init c = record { same = refl; size = search rules }

pub loop-done-preserved : goal.loop-done-preserved
unfolding rekeyed
loop-done-preserved c =
    let before : Pair = record { key = c.loop-done.bytes; block = c.loop-done.block } in
    let key : c.unwrap-key.result ≡ next_key before = search rules in
    let block : c.encrypt-block.result ≡ encipher (next_key before) c.loop-done.block = c.encrypt-block.ensures ∙ ap (λ k. encipher k c.loop-done.block) key in
    record {
      same = rw (add-one, ← c.loop-done.invariant.same, block) refl;
      size = rw length-set c.loop-done.invariant.size;
    }
