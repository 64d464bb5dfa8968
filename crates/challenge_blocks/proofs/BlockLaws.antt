-- Four words make a block.
use Rattle.std.proofs.Common.{◌≡◌, ◌+◌, ℕ, List, [], ◌∷◌, ◌∙◌}
use Rattle.std.specs.Prelude.{slice_index_or}
use Rattle.rand_chacha.specs.ChaCha.{ChaCha}
use Rattle.piv_rules.specs.RandomBlocks.{word_bytes, block_from}
use Rattle.challenge_blocks.specs.Blocks.{IsAt}

spread : List ℕ → List ℕ → List ℕ → List ℕ → List ℕ
spread a b c d =
    slice_index_or a 0 0 ∷ slice_index_or a 1 0 ∷ slice_index_or a 2 0 ∷ slice_index_or a 3 0
    ∷ slice_index_or b 0 0 ∷ slice_index_or b 1 0 ∷ slice_index_or b 2 0 ∷ slice_index_or b 3 0
    ∷ slice_index_or c 0 0 ∷ slice_index_or c 1 0 ∷ slice_index_or c 2 0 ∷ slice_index_or c 3 0
    ∷ slice_index_or d 0 0 ∷ slice_index_or d 1 0 ∷ slice_index_or d 2 0 ∷ slice_index_or d 3 0 ∷ []

pub four-words : (key : List ℕ) (n : ℕ) (a b c d : List ℕ) → a ≡ word_bytes key n → b ≡ word_bytes key (n + 1) → c ≡ word_bytes key (n + 2) → d ≡ word_bytes key (n + 3)
    → (slice_index_or a 0 0 ∷ slice_index_or a 1 0 ∷ slice_index_or a 2 0 ∷ slice_index_or a 3 0
    ∷ slice_index_or b 0 0 ∷ slice_index_or b 1 0 ∷ slice_index_or b 2 0 ∷ slice_index_or b 3 0
    ∷ slice_index_or c 0 0 ∷ slice_index_or c 1 0 ∷ slice_index_or c 2 0 ∷ slice_index_or c 3 0
    ∷ slice_index_or d 0 0 ∷ slice_index_or d 1 0 ∷ slice_index_or d 2 0 ∷ slice_index_or d 3 0 ∷ []) ≡ block_from key n
unfolding spread block_from
four-words key n a b c d p q r s = (λ j. spread (p j) (q j) (r j) (s j))

pub at-place : (g : ChaCha) (key : List ℕ) (m n : ℕ) → IsAt key m g → m ≡ n → IsAt key n g
at-place g key m n is same = is ∙ (λ j. record { key = key; stream = 0; word_pos = same j })
