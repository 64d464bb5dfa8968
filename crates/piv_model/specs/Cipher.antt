-- AES on lists of bytes (FIPS 197, section 5). A state is 16 bytes, column by column: row r of
-- column c is at place 4 c + r. A word is four bytes, and nk is the length of a key in words.
use Rattle.std.specs.Prelude.{◌≡◌, ℕ, zero, suc, ◌+◌, ◌-◌, ◌*◌, ◌/◌, ◌%◌, ◌<◌, ◌==◌, ◌&&◌, ◌⊎◌, nat_lt, if◌then◌else◌, List, [], ◌∷◌, ◌++◌, length, All, slice_index, slice_index_or, bit_xor}
use Rattle.piv_model.specs.Field.{mul, power_x, sub_byte}

-- a block is 16 bytes
pub record IsBlock (x : List ℕ) : Type 0 where
  pub size : length x ≡ 16
  pub bytes : All (λ b. b < 256) x

-- a key is 16, 24 or 32 bytes
pub record IsKey (key : List ℕ) : Type 0 where
  pub size : (length key ≡ 16) ⊎ (length key ≡ 24) ⊎ (length key ≡ 32)
  pub bytes : All (λ b. b < 256) key

-- the sum of two lists of bytes, place by place (5.1.4)
unfoldable pub add_bytes : List ℕ → List ℕ → List ℕ
add_bytes (a ∷ xs) (b ∷ ys) = bit_xor a b ∷ add_bytes xs ys
add_bytes _ _ = []

-- each byte through the S-box (5.1.1)
unfoldable pub sub_bytes : List ℕ → List ℕ
sub_bytes [] = []
sub_bytes (b ∷ bs) = sub_byte b ∷ sub_bytes bs

-- row r rotated left by r (5.1.2): place 4 c + r takes place 4 (c + r) + r, columns modulo 4
abbrev pub shift_rows : List ℕ → List ℕ
shift_rows s =
    slice_index s 0 ∷ slice_index s 5 ∷ slice_index s 10 ∷ slice_index s 15
    ∷ slice_index s 4 ∷ slice_index s 9 ∷ slice_index s 14 ∷ slice_index s 3
    ∷ slice_index s 8 ∷ slice_index s 13 ∷ slice_index s 2 ∷ slice_index s 7
    ∷ slice_index s 12 ∷ slice_index s 1 ∷ slice_index s 6 ∷ slice_index s 11 ∷ []

-- a row p q r t of a matrix times a column a b c d
unfoldable pub row_times : ℕ → ℕ → ℕ → ℕ → ℕ → ℕ → ℕ → ℕ → ℕ
row_times p q r t a b c d = bit_xor (bit_xor (mul p a) (mul q b)) (bit_xor (mul r c) (mul t d))

-- the circulant matrix with first row p q r t times a column, before the rest
abbrev pub circulant : ℕ → ℕ → ℕ → ℕ → ℕ → ℕ → ℕ → ℕ → List ℕ → List ℕ
circulant p q r t a b c d rest =
    row_times p q r t a b c d ∷ row_times t p q r a b c d ∷ row_times r t p q a b c d
    ∷ row_times q r t p a b c d ∷ rest

-- that matrix times each column
unfoldable pub each_column : ℕ → ℕ → ℕ → ℕ → List ℕ → List ℕ
each_column p q r t (a ∷ b ∷ c ∷ d ∷ rest) = circulant p q r t a b c d (each_column p q r t rest)
each_column p q r t _ = []

-- the columns mixed (5.1.3)
abbrev pub mix_columns : List ℕ → List ℕ
mix_columns s = each_column 2 3 1 1 s

-- ---- the key schedule (5.2)

-- rotated left by one byte
abbrev pub rotate_word : List ℕ → List ℕ
rotate_word w = slice_index w 1 ∷ slice_index w 2 ∷ slice_index w 3 ∷ slice_index w 0 ∷ []

-- what is added to word i - nk to make word i, from the word w before it
unfoldable pub schedule_term : ℕ → ℕ → List ℕ → List ℕ
schedule_term nk i w =
    let constant = power_x (i / nk - 1) ∷ 0 ∷ 0 ∷ 0 ∷ [] in
    if i % nk == 0 then add_bytes (sub_bytes (rotate_word w)) constant
    else if nk == 8 && i % 8 == 4 then sub_bytes w
    else w

-- word i of a key
abbrev pub key_word : List ℕ → ℕ → List ℕ
key_word key i =
    slice_index key (4 * i) ∷ slice_index key (4 * i + 1) ∷ slice_index key (4 * i + 2)
    ∷ slice_index key (4 * i + 3) ∷ []

-- word i of a list of words
abbrev pub word : List (List ℕ) → ℕ → List ℕ
word ws i = slice_index_or ws i []

-- word i, after the words before it
unfoldable pub next_word : ℕ → List ℕ → ℕ → List (List ℕ) → List ℕ
next_word nk key i before =
    if nat_lt i nk then key_word key i
    else add_bytes (word before (i - nk)) (schedule_term nk i (word before (i - 1)))

-- the first n words
unfoldable pub words : ℕ → List ℕ → ℕ → List (List ℕ)
words nk key zero = []
words nk key (suc i) = let before = words nk key i in before ++ next_word nk key i before ∷ []

-- round key k is words 4 k to 4 k + 3
unfoldable pub round_key : List (List ℕ) → ℕ → List ℕ
round_key ws k = word ws (4 * k) ++ word ws (4 * k + 1) ++ word ws (4 * k + 2) ++ word ws (4 * k + 3)

-- ---- the cipher (5.1)

-- the state after round r under the words ws, none of these rounds being the last
unfoldable pub state_after : List (List ℕ) → List ℕ → ℕ → List ℕ
state_after ws x zero = add_bytes x (round_key ws 0)
state_after ws x (suc r) =
    add_bytes (mix_columns (shift_rows (sub_bytes (state_after ws x r)))) (round_key ws (suc r))

-- all rounds; the last, round nk + 6, doesn't mix the columns
unfoldable pub all_rounds : ℕ → List (List ℕ) → List ℕ → List ℕ
all_rounds nk ws x =
    add_bytes (shift_rows (sub_bytes (state_after ws x (nk + 5)))) (round_key ws (nk + 6))

-- E: the block x under the key
unfoldable pub encipher : List ℕ → List ℕ → List ℕ
encipher key x = let nk = length key / 4 in all_rounds nk (words nk key (4 * (nk + 7))) x

-- D: x is the block that the key enciphers to y (there is exactly one, as aes_block's laws say)
pub record Deciphers (key y x : List ℕ) : Type 0 where
  pub block : IsBlock x
  pub back : encipher key x ≡ y
