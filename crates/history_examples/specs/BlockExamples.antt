-- Worked examples of the random blocks of the plain card, whose random bytes are zeros: the words of ChaCha20 in their order. The
-- values are those of openssl, and of RFC 8439, A.1, test vectors 1 and 2.
use Rattle.std.specs.Prelude.{◌≡◌, ℕ, List, [], ◌∷◌, replicate}
use Rattle.piv_model.specs.ApplicationNames.{full_aid}
use Rattle.piv_rules.specs.Answers.{piv_template}
use Rattle.piv_rules.specs.RandomBlocks.{random_block}
use Rattle.history_examples.specs.Examples.{plain, start, replies, select, ask_challenge, with_data, first_block}

abbrev pub second_block : List ℕ
second_block =
    0xBD ∷ 0xD2 ∷ 0x19 ∷ 0xB8 ∷ 0xA0 ∷ 0x8D ∷ 0xED ∷ 0x1A
    ∷ 0xA8 ∷ 0x36 ∷ 0xEF ∷ 0xCC ∷ 0x8B ∷ 0x77 ∷ 0x0D ∷ 0xC7 ∷ []

-- the first of the next sixty-four bytes
abbrev pub fifth_block : List ℕ
fifth_block =
    0x9F ∷ 0x07 ∷ 0xE7 ∷ 0xBE ∷ 0x55 ∷ 0x51 ∷ 0x38 ∷ 0x7A
    ∷ 0x98 ∷ 0xBA ∷ 0x97 ∷ 0x7C ∷ 0x73 ∷ 0x2D ∷ 0x08 ∷ 0x0D ∷ []

abbrev pub FifthBlock : Type 0
FifthBlock = random_block (replicate 32 0) 4 ≡ fifth_block

-- two requests one after the other bear the first two blocks
abbrev pub ChallengesGoOn : Type 0
ChallengesGoOn = replies plain start (select full_aid ∷ ask_challenge ∷ ask_challenge ∷ [])
    ≡ with_data piv_template ∷ with_data (0x7C ∷ 0x12 ∷ 0x81 ∷ 0x10 ∷ first_block) ∷ with_data (0x7C ∷ 0x12 ∷ 0x81 ∷ 0x10 ∷ second_block) ∷ []
