-- The random blocks of a card: four words of ChaCha20 to a block, each with its low byte first (RFC 8439; the
-- generator's seed is the card's random bytes).
use Rattle.std.specs.Prelude.{ℕ, ◌+◌, ◌*◌, Bool, false, List, ◌++◌, count_by, is_some}
use Rattle.std.specs.Int.{w32, to_le_bytes}
use Rattle.rand_chacha.specs.ChaCha.{word_at, key_of}
use Rattle.piv_model.specs.Entries.{CardEntry, Past, Call}
use Rattle.piv_model.specs.Base.{Base}

-- the bytes of the word at a place of a key stream
abbrev pub word_bytes : List ℕ → ℕ → List ℕ
word_bytes key place = to_le_bytes w32 (word_at 10 key 0 place)

-- the 16 bytes from a place on
unfoldable pub block_from : List ℕ → ℕ → List ℕ
block_from key place =
    word_bytes key place ++ word_bytes key (place + 1) ++ word_bytes key (place + 2) ++ word_bytes key (place + 3)

-- block n of a seed
abbrev pub random_block : List ℕ → ℕ → List ℕ
random_block seed n = block_from (key_of seed) (4 * n)

-- the Calls that bear a block
abbrev pub draws : CardEntry → Bool
draws (Call c k word block) = is_some block
draws _ = false

abbrev pub draws_count : Past → ℕ
draws_count H = count_by draws H

-- the next block of the card
abbrev pub next_block : Base → Past → List ℕ
next_block B H = random_block B.random (draws_count H)
