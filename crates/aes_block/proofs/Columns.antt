-- Columns by four words, one from each byte.
use Rattle.std.proofs.Common.{◌≡◌, ℕ, List, [], ◌∷◌, ◌++◌, slice_index, ◌∙◌}
use Rattle.std.specs.Int.Bits.{bit_xor}
use Rattle.piv_model.specs.Field.{sub_byte}
use Rattle.piv_model.specs.Cipher.{add_bytes, sub_bytes, shift_rows, row_times, circulant, each_column, mix_columns}
use Rattle.aes_block.specs.Words.{first, second, third, fourth, bytes_of, all_bytes_of, multiples}
use Rattle.aes_block.proofs.WordLemmas.{Sized, nil, next, bytes_of-xor, joined}

-- a matrix times a column is the sum of what its bytes add
pub column_sum : (w x y z p q r t a b c d : ℕ) → bytes_of w ≡ multiples p t r q a → bytes_of x ≡ multiples q p t r b
    → bytes_of y ≡ multiples r q p t c → bytes_of z ≡ multiples t r q p d
    → bytes_of (bit_xor (bit_xor w x) (bit_xor y z)) ≡ circulant p q r t a b c d []
unfolding add_bytes row_times
column_sum w x y z p q r t a b c d hw hx hy hz =
    bytes_of-xor (bit_xor w x) (bit_xor y z)
    ∙ (λ i. add_bytes (bytes_of-xor w x i) (bytes_of-xor y z i))
    ∙ (λ i. add_bytes (add_bytes (hw i) (hx i)) (add_bytes (hy i) (hz i)))

-- the four columns of a round before its key
pub round_columns : {s : List ℕ} (w x y z : ℕ) → Sized 4 s
    → bytes_of w ≡ circulant 2 3 1 1 (sub_byte (first (slice_index s 0))) (sub_byte (second (slice_index s 1))) (sub_byte (third (slice_index s 2))) (sub_byte (fourth (slice_index s 3))) []
    → bytes_of x ≡ circulant 2 3 1 1 (sub_byte (first (slice_index s 1))) (sub_byte (second (slice_index s 2))) (sub_byte (third (slice_index s 3))) (sub_byte (fourth (slice_index s 0))) []
    → bytes_of y ≡ circulant 2 3 1 1 (sub_byte (first (slice_index s 2))) (sub_byte (second (slice_index s 3))) (sub_byte (third (slice_index s 0))) (sub_byte (fourth (slice_index s 1))) []
    → bytes_of z ≡ circulant 2 3 1 1 (sub_byte (first (slice_index s 3))) (sub_byte (second (slice_index s 0))) (sub_byte (third (slice_index s 1))) (sub_byte (fourth (slice_index s 2))) []
    → all_bytes_of (w ∷ x ∷ y ∷ z ∷ []) ≡ mix_columns (shift_rows (sub_bytes (all_bytes_of s)))
unfolding all_bytes_of sub_bytes each_column
round_columns w x y z (next (next (next (next nil)))) hw hx hy hz = joined w x y z hw hx hy hz

-- those of the last round
pub last_columns : {s : List ℕ} (w x y z : ℕ) → Sized 4 s
    → bytes_of w ≡ sub_byte (first (slice_index s 0)) ∷ sub_byte (second (slice_index s 1)) ∷ sub_byte (third (slice_index s 2)) ∷ sub_byte (fourth (slice_index s 3)) ∷ []
    → bytes_of x ≡ sub_byte (first (slice_index s 1)) ∷ sub_byte (second (slice_index s 2)) ∷ sub_byte (third (slice_index s 3)) ∷ sub_byte (fourth (slice_index s 0)) ∷ []
    → bytes_of y ≡ sub_byte (first (slice_index s 2)) ∷ sub_byte (second (slice_index s 3)) ∷ sub_byte (third (slice_index s 0)) ∷ sub_byte (fourth (slice_index s 1)) ∷ []
    → bytes_of z ≡ sub_byte (first (slice_index s 3)) ∷ sub_byte (second (slice_index s 0)) ∷ sub_byte (third (slice_index s 1)) ∷ sub_byte (fourth (slice_index s 2)) ∷ []
    → all_bytes_of (w ∷ x ∷ y ∷ z ∷ []) ≡ shift_rows (sub_bytes (all_bytes_of s))
unfolding all_bytes_of sub_bytes
last_columns w x y z (next (next (next (next nil)))) hw hx hy hz = joined w x y z hw hx hy hz

-- rows that are turned back and taken out of the S-box
pub earlier_columns : {s : List ℕ} (w x y z : ℕ) → Sized 4 s
    → sub_bytes (bytes_of w) ≡ first (slice_index s 0) ∷ second (slice_index s 3) ∷ third (slice_index s 2) ∷ fourth (slice_index s 1) ∷ []
    → sub_bytes (bytes_of x) ≡ first (slice_index s 1) ∷ second (slice_index s 0) ∷ third (slice_index s 3) ∷ fourth (slice_index s 2) ∷ []
    → sub_bytes (bytes_of y) ≡ first (slice_index s 2) ∷ second (slice_index s 1) ∷ third (slice_index s 0) ∷ fourth (slice_index s 3) ∷ []
    → sub_bytes (bytes_of z) ≡ first (slice_index s 3) ∷ second (slice_index s 2) ∷ third (slice_index s 1) ∷ fourth (slice_index s 0) ∷ []
    → shift_rows (sub_bytes (all_bytes_of (w ∷ x ∷ y ∷ z ∷ []))) ≡ all_bytes_of s
unfolding all_bytes_of sub_bytes
earlier_columns w x y z (next (next (next (next nil)))) hw hx hy hz =
    λ i. shift_rows (hw i ++ (hx i ++ (hy i ++ hz i)))

-- a matrix times each of four columns
pub unmixed_words : {s : List ℕ} (w x y z : ℕ) → Sized 4 s
    → bytes_of w ≡ circulant 14 11 13 9 (first (slice_index s 0)) (second (slice_index s 0)) (third (slice_index s 0)) (fourth (slice_index s 0)) []
    → bytes_of x ≡ circulant 14 11 13 9 (first (slice_index s 1)) (second (slice_index s 1)) (third (slice_index s 1)) (fourth (slice_index s 1)) []
    → bytes_of y ≡ circulant 14 11 13 9 (first (slice_index s 2)) (second (slice_index s 2)) (third (slice_index s 2)) (fourth (slice_index s 2)) []
    → bytes_of z ≡ circulant 14 11 13 9 (first (slice_index s 3)) (second (slice_index s 3)) (third (slice_index s 3)) (fourth (slice_index s 3)) []
    → all_bytes_of (w ∷ x ∷ y ∷ z ∷ []) ≡ each_column 14 11 13 9 (all_bytes_of s)
unfolding all_bytes_of each_column
unmixed_words w x y z (next (next (next (next nil)))) hw hx hy hz = joined w x y z hw hx hy hz
