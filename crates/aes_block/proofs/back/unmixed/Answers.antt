use Rattle.std.proofs.Common.{ap, ◌∙◌}
use Rattle.aes_block.specs.Words.{multiples}
use Rattle.aes_block.proofs.Columns.{column_sum}
use Rattle.aes_block.proofs.back.unmixed.Goals as goal

pub returns : goal.returns
returns c =
    column_sum c.unmix_0.result c.unmix_1.result c.unmix_2.result c.unmix_3.result 14 11 13 9 _ _ _ _
    (c.unmix_0.ensures ∙ ap (multiples 14 9 13 11) c.first.ensures)
    (c.unmix_1.ensures ∙ ap (multiples 11 14 9 13) c.second.ensures)
    (c.unmix_2.ensures ∙ ap (multiples 13 11 14 9) c.third.ensures)
    (c.unmix_3.ensures ∙ ap (multiples 9 13 11 14) c.fourth.ensures)
