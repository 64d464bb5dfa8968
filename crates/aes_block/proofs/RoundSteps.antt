-- The rounds over words, from one to the next.
use Rattle.std.proofs.Common.{◌≡◌, ℕ, zero, suc, ◌<◌, ◌≤◌, ◌+◌, ◌*◌, List, [], ◌∷◌, length, take, get_or, slice_index, refl, sym, ap, ◌∙◌, arith}
use Rattle.std.proofs.lemmas.List.{get_or-take, length-take-le}
use Rattle.std.proofs.Math.Numerals.{add-one}
use Rattle.piv_model.specs.Cipher.{add_bytes, sub_bytes, shift_rows, mix_columns, round_key, state_after, all_rounds}
use Rattle.aes_block.specs.Words.{bytes_of, all_bytes_of, each_bytes_of}

each_at : (ws : List ℕ) (j : ℕ) → j < length ws → get_or (each_bytes_of ws) j [] ≡ bytes_of (slice_index ws j)
unfolding each_bytes_of
each_at [] j h = absurd (omega arith)
each_at (w ∷ ws) zero h = refl
each_at (w ∷ ws) (suc j) h = each_at ws j (omega arith)

-- a word of the first n
pub word_at : (n : ℕ) (ws : List ℕ) (j : ℕ) → n ≤ length ws → j < n → get_or (each_bytes_of (take n ws)) j [] ≡ bytes_of (slice_index ws j)
word_at n ws j long h =
    let whole = length-take-le n ws long in
    each_at (take n ws) j (omega arith) ∙ ap bytes_of (get_or-take n ws j 0 h)

-- four words are a round key
pub round_key_of : (n : ℕ) (ws : List ℕ) (k : ℕ) → n ≤ length ws → 4 * k + 3 < n
    → all_bytes_of (slice_index ws (4 * k) ∷ slice_index ws (4 * k + 1) ∷ slice_index ws (4 * k + 2) ∷ slice_index ws (4 * k + 3) ∷ []) ≡ round_key (each_bytes_of (take n ws)) k
unfolding all_bytes_of round_key
round_key_of n ws k long h =
    rw (word_at n ws (4 * k) long (omega arith), word_at n ws (4 * k + 1) long (omega arith), word_at n ws (4 * k + 2) long (omega arith), word_at n ws (4 * k + 3) long (omega arith)) refl

pub state-next : (ws : List (List ℕ)) (x : List ℕ) (r : ℕ)
    → state_after ws x (r + 1) ≡ add_bytes (mix_columns (shift_rows (sub_bytes (state_after ws x r)))) (round_key ws (r + 1))
unfolding state_after
state-next ws x r = rw add-one refl

pub state-first : (ws : List (List ℕ)) (x : List ℕ) → state_after ws x 0 ≡ add_bytes x (round_key ws 0)
unfolding state_after
state-first ws x = refl

pub all_rounds-last : (nk : ℕ) (ws : List (List ℕ)) (x : List ℕ)
    → all_rounds nk ws x ≡ add_bytes (shift_rows (sub_bytes (state_after ws x (nk + 5)))) (round_key ws (nk + 6))
unfolding all_rounds
all_rounds-last nk ws x = refl

-- a round that is undone leads back to where it came from
pub undo_step : (ws : List (List ℕ)) (x s k mixed unmixed earlier : List ℕ) (r n : ℕ) → n ≡ r + 1 → k ≡ round_key ws n → add_bytes (add_bytes s k) k ≡ s
    → mixed ≡ add_bytes s k → mix_columns unmixed ≡ mixed → shift_rows (sub_bytes earlier) ≡ unmixed
    → state_after ws x r ≡ earlier → state_after ws x n ≡ s
undo_step ws x s k mixed unmixed earlier r n next key twice added mix sub at =
    ap (state_after ws x) next ∙ state-next ws x r
    ∙ (λ i. add_bytes (mix_columns (shift_rows (sub_bytes (at i)))) ((sym (key ∙ ap (round_key ws) next)) i))
    ∙ ap (λ y. add_bytes (mix_columns y) k) sub ∙ ap (λ y. add_bytes y k) (mix ∙ added) ∙ twice

-- the last round, likewise
pub undo_last : (nk : ℕ) (ws : List (List ℕ)) (x s k added earlier : List ℕ) → k ≡ round_key ws (nk + 6) → add_bytes (add_bytes s k) k ≡ s
    → added ≡ add_bytes s k → shift_rows (sub_bytes earlier) ≡ added
    → state_after ws x (nk + 5) ≡ earlier → all_rounds nk ws x ≡ s
undo_last nk ws x s k added earlier key twice sum sub at =
    all_rounds-last nk ws x
    ∙ (λ i. add_bytes (shift_rows (sub_bytes (at i))) ((sym key) i))
    ∙ ap (λ y. add_bytes y k) (sub ∙ sum) ∙ twice
