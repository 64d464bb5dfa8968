use Rattle.std.proofs.Common.{◌+◌, ◌*◌, ap, sym, ◌∙◌}
use Rattle.piv_model.specs.Cipher.{words}
use Rattle.aes_block.proofs.key.Key.expanded.Goals as goal

pub invariant_of-result : goal.invariant_of-result
invariant_of-result c = (
  c.requires.size,
  c.expand.ensures.all ∙ ap (λ key. words c.args.nk key (4 * (c.args.nk + 7))) (sym c.expand.ensures.key),
)
