use Rattle.std.proofs.Common.{List, ℕ, rules, ap, ◌∙◌}
use Rattle.piv_model.specs.Cipher.{add_bytes}
use Rattle.aes_block.specs.Words.{all_bytes_of}
use Rattle.aes_block.proofs.WordLemmas.{nil, next, sized, all_bytes_of-xor}
use Rattle.aes_block.proofs.Columns.{last_columns}
use Rattle.aes_block.proofs.forward.last_round.Goals as goal

pub returns : goal.returns
returns c =
    all_bytes_of-xor (next (next (next (next nil)))) (sized 4 c.args.key (search rules))
    ∙ ap (λ (s : List ℕ). add_bytes s (all_bytes_of c.args.key)) (last_columns _ _ _ _ (sized 4 c.args.s (search rules)) c.substituted.ensures c.substituted-2.ensures c.substituted-3.ensures c.substituted-4.ensures)
