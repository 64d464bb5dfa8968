-- The status words that carry a number (ISO/IEC 7816-4).
use Rattle.std.specs.Prelude.{ℕ, ◌+◌, ◌==◌, nat_lt, if◌then◌else◌}

-- 63 CX: the verification failed, X tries are left
abbrev pub tries_word : ℕ → ℕ
tries_word left = 0x63C0 + left

-- the word of a piece: 90 00 with the last one, else 61 XX, XX being the bytes left, or 00 for 256 and more
abbrev pub piece_word : ℕ → ℕ
piece_word left = if left == 0 then 0x9000 else if nat_lt left 256 then 0x6100 + left else 0x6100
