use Rattle.std.proofs.Common.{List, ℕ, rules, ap, ◌∙◌}
use Rattle.piv_model.specs.Cipher.{add_bytes}
use Rattle.aes_block.specs.Words.{all_bytes_of}
use Rattle.aes_block.proofs.WordLemmas.{nil, next, sized, all_bytes_of-xor}
use Rattle.aes_block.proofs.Columns.{round_columns}
use Rattle.aes_block.proofs.forward.mixed_round.Goals as goal

pub returns : goal.returns
returns c =
    all_bytes_of-xor (next (next (next (next nil)))) (sized 4 c.args.key (search rules))
    ∙ ap (λ (s : List ℕ). add_bytes s (all_bytes_of c.args.key)) (round_columns _ _ _ _ (sized 4 c.args.s (search rules)) c.mixed.ensures c.mixed-2.ensures c.mixed-3.ensures c.mixed-4.ensures)
