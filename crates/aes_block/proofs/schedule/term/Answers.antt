use Rattle.std.proofs.Common.{◌%◌, ◌∷◌, [], refl, ap, ◌∙◌, eq-eqb}
use Rattle.std.proofs.lemmas.Bool.{ne_eqb}
use Rattle.std.proofs.lemmas.Nat.{xor_of_8}
use Rattle.piv_model.specs.Field.{sub_byte}
use Rattle.piv_model.specs.Cipher.{add_bytes, sub_bytes, rotate_word, schedule_term}
use Rattle.aes_block.specs.Words.{bytes_of}
use Rattle.aes_block.proofs.WordLemmas.{bytes_of-made}
use Rattle.aes_block.proofs.WordsOfKeys.{rotated_term}
use Rattle.aes_block.proofs.schedule.term.Goals as goal
use Rattle.aes_block.proofs.schedule.term.Goals.{else-nk-eq8-via-then-nk-eq8+else-i-eq4, else-nk-eq8-via-else-nk-eq8}

pub returns-then-i-nk-eq0 : goal.returns-then-i-nk-eq0
unfolding schedule_term
returns-then-i-nk-eq0 c =
    rw (eq-eqb (c.args.i % c.args.nk) 0 c.if-i-nk-eq0.true)
    (bytes_of-made c.from_be_bytes.result (xor_of_8 c.sub.result c.power-constant.result c.sub.type_inv c.power-constant.type_inv) c.sub-then-i-nk-eq0.type_inv c.sub-then-i-nk-eq0-2.type_inv c.sub-then-i-nk-eq0-3.type_inv c.from_be_bytes.ensures
    ∙ rotated_term c.args.w c.power-constant.result (c.sub.ensures ∙ ap sub_byte c.second.ensures) (c.sub-then-i-nk-eq0.ensures ∙ ap sub_byte c.third.ensures) (c.sub-then-i-nk-eq0-2.ensures ∙ ap sub_byte c.fourth.ensures) (c.sub-then-i-nk-eq0-3.ensures ∙ ap sub_byte c.first.ensures)
    ∙ ap (λ p. add_bytes (sub_bytes (rotate_word (bytes_of c.args.w))) (p ∷ 0 ∷ 0 ∷ 0 ∷ [])) c.power-constant.ensures)

pub returns-then-i-eq4 : goal.returns-then-i-eq4
unfolding schedule_term sub_bytes
returns-then-i-eq4 c =
    rw (ne_eqb (c.args.i % c.args.nk) 0 c.if-i-nk-eq0.false, eq-eqb c.args.nk 8 c.if-nk-eq8.true, eq-eqb (c.args.i % 8) 4 c.if-i-eq4.true) c.substituted.ensures

pub returns-else-nk-eq8 : goal.returns-else-nk-eq8
unfolding schedule_term
returns-else-nk-eq8 c =
    elim c.else-nk-eq8.branch [
      | else-nk-eq8-via-then-nk-eq8+else-i-eq4 w ↦ rw (ne_eqb (c.args.i % c.args.nk) 0 c.if-i-nk-eq0.false, eq-eqb c.args.nk 8 w.if-nk-eq8.true, ne_eqb (c.args.i % 8) 4 w.if-i-eq4.false) refl
      | else-nk-eq8-via-else-nk-eq8 w ↦ rw (ne_eqb (c.args.i % c.args.nk) 0 c.if-i-nk-eq0.false, ne_eqb c.args.nk 8 w.if-nk-eq8.false) refl
    ]
