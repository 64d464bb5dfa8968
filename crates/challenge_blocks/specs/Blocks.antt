-- A generator of random words at a place of its key stream.
use Rattle.std.specs.Prelude.{◌≡◌, ℕ, List}
use Rattle.rand_chacha.specs.ChaCha.{ChaCha}

-- no more blocks than these are said to be right
abbrev pub most_blocks : ℕ
most_blocks = 16777216

-- its next word is this one of the key stream
abbrev pub IsAt : List ℕ → ℕ → ChaCha → Type 0
IsAt key n rng = rng ≡ record { key = key; stream = 0; word_pos = n }
