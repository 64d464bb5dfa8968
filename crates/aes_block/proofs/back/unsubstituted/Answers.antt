use Rattle.std.proofs.Common.{[], ◌∷◌, ◌∙◌, ap}
use Rattle.piv_model.specs.Cipher.{sub_bytes}
use Rattle.aes_block.proofs.WordLemmas.{bytes_of-made}
use Rattle.aes_block.proofs.back.unsubstituted.Goals as goal

pub returns : goal.returns
unfolding sub_bytes
returns c =
    ap sub_bytes (bytes_of-made c.from_be_bytes.result c.unsub.type_inv c.unsub-2.type_inv c.unsub-3.type_inv c.unsub-4.type_inv c.from_be_bytes.ensures)
    ∙ (λ i. (c.unsub.ensures ∙ c.first.ensures) i ∷ (c.unsub-2.ensures ∙ c.second.ensures) i ∷ (c.unsub-3.ensures ∙ c.third.ensures) i ∷ (c.unsub-4.ensures ∙ c.fourth.ensures) i ∷ [])
