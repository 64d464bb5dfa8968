use Rattle.std.proofs.Common.{ap, ◌∙◌}
use Rattle.piv_model.specs.Field.{sub_byte}
use Rattle.aes_block.specs.Words.{multiples}
use Rattle.aes_block.proofs.Columns.{column_sum}
use Rattle.aes_block.proofs.forward.mixed.Goals as goal

pub returns : goal.returns
returns c =
    column_sum c.mix_0.result c.mix_1.result c.mix_2.result c.mix_3.result 2 3 1 1 _ _ _ _
    (c.mix_0.ensures ∙ ap (λ b. multiples 2 1 1 3 (sub_byte b)) c.first.ensures)
    (c.mix_1.ensures ∙ ap (λ b. multiples 3 2 1 1 (sub_byte b)) c.second.ensures)
    (c.mix_2.ensures ∙ ap (λ b. multiples 1 3 2 1 (sub_byte b)) c.third.ensures)
    (c.mix_3.ensures ∙ ap (λ b. multiples 1 1 3 2 (sub_byte b)) c.fourth.ensures)
