-- Words of 32 bits as four bytes, the high byte first, and blocks and keys as lists of words.
use Rattle.std.specs.Prelude.{ℕ, ◌+◌, ◌*◌, ◌/◌, ◌%◌, take, List, [], ◌∷◌}
use Rattle.piv_model.specs.Field.{mul}

-- the four bytes of a word
abbrev pub first : ℕ → ℕ
first w = w / 0x1000000 % 256

abbrev pub second : ℕ → ℕ
second w = w / 0x10000 % 256

abbrev pub third : ℕ → ℕ
third w = w / 0x100 % 256

abbrev pub fourth : ℕ → ℕ
fourth w = w % 256

-- a word as its bytes
abbrev pub bytes_of : ℕ → List ℕ
bytes_of w = first w ∷ second w ∷ third w ∷ fourth w ∷ []

-- the bytes of several words, one after the other
unfoldable pub all_bytes_of : List ℕ → List ℕ
all_bytes_of [] = []
all_bytes_of (w ∷ ws) = first w ∷ second w ∷ third w ∷ fourth w ∷ all_bytes_of ws

-- each word as its bytes
unfoldable pub each_bytes_of : List ℕ → List (List ℕ)
each_bytes_of [] = []
each_bytes_of (w ∷ ws) = bytes_of w ∷ each_bytes_of ws

-- the first 4 (nk + 7) words as bytes: the schedule of a key of nk words
abbrev pub schedule_of : ℕ → List ℕ → List (List ℕ)
schedule_of nk ws = each_bytes_of (take (4 * (nk + 7)) ws)

-- four products of one byte: what the byte adds to a column that a matrix is applied to
abbrev pub multiples : ℕ → ℕ → ℕ → ℕ → ℕ → List ℕ
multiples p q r t b = mul p b ∷ mul q b ∷ mul r b ∷ mul t b ∷ []
