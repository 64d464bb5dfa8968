use Rattle.std.proofs.Common.{rules, ap, ◌∙◌}
use Rattle.piv_model.specs.Cipher.{mix_columns}
use Rattle.aes_block.proofs.WordLemmas.{sized, all_bytes_of-bytes}
use Rattle.aes_block.proofs.Columns.{unmixed_words}
use Rattle.aes_block.proofs.Matrix.{mix-unmix}
use Rattle.aes_block.proofs.back.unmixed_columns.Goals as goal

pub returns : goal.returns
returns c =
    let four = sized 4 c.args.s (search rules) in
    ap mix_columns (unmixed_words _ _ _ _ four c.unmixed.ensures c.unmixed-2.ensures c.unmixed-3.ensures c.unmixed-4.ensures)
    ∙ mix-unmix (all_bytes_of-bytes four)
