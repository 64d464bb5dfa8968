-- Worked examples of the room of a card, of the memories that a card can have, and of the rules of its objects (SP 800-73-4 part 1,
-- data objects and access rules; SP 800-78-4 for the keys; the budget in blocks of 64 bytes is this project's own).
use Rattle.std.specs.Prelude.{◌≡◌, ℕ, Bool, true, false, List, [], ◌∷◌, length, replicate, filter}
use Rattle.std.specs.List.{range_with_len}
use Rattle.piv_model.specs.declared.kinds.Interface.{Interface}
use Rattle.piv_model.specs.declared.kinds.Interface.TheVariants.{Contact, Contactless}
use Rattle.piv_model.specs.declared.kinds.Rule.{Rule}
use Rattle.piv_model.specs.declared.kinds.Rule.TheVariants as rule
use Rattle.piv_model.specs.Memory.{Memory, fits}
use Rattle.piv_model.specs.Objects.{read_rule_of}
use Rattle.piv_model.specs.PlainCard.{plain_memory}
use Rattle.piv_model.specs.Sound.{IsSound, is_limited, is_card_key}

-- the plain card has three blocks in use; beside them one more block holds 64 bytes, and what a value replaces is counted too
abbrev pub with_budget : ℕ → Memory
with_budget blocks = record plain_memory { budget = blocks }

abbrev pub RoomIsExact : Type 0
RoomIsExact =
    (fits (with_budget 3) [] ≡ true)
    × (fits (with_budget 3) (0x55 ∷ []) ≡ false)
    × (fits (with_budget 4) (0x55 ∷ []) ≡ true)
    × (fits (with_budget 4) (replicate 64 0x55) ≡ true)
    × (fits (with_budget 4) (replicate 65 0x55) ≡ false)
    × (fits (with_budget 5) (replicate 65 0x55) ≡ true)

-- the longest value has 16,384 bytes
abbrev pub LongestValue : Type 0
LongestValue =
    ((v : List ℕ) → length v ≡ 16384 → fits plain_memory v ≡ true)
    × ((v : List ℕ) → length v ≡ 16385 → fits plain_memory v ≡ false)

-- a limit is 1 to 15, and the tries are at most it; a key of AES-128, AES-192 and AES-256 has 16, 24 and 32 bytes
abbrev pub counts : ℕ → ℕ → Bool
counts limit tries = is_limited (record { limit = limit; tries = tries; secret = [] })

abbrev pub has_size : ℕ → ℕ → Bool
has_size algorithm size = is_card_key (record { algorithm = algorithm; key = replicate size 0x55 })

abbrev pub LimitsOfCounters : Type 0
LimitsOfCounters =
    (counts 0 0 ≡ false) × (counts 1 1 ≡ true) × (counts 15 15 ≡ true) × (counts 16 15 ≡ false) × (counts 3 0 ≡ true) × (counts 3 4 ≡ false)

abbrev pub SizesOfKeys : Type 0
SizesOfKeys =
    (has_size 0x08 16 ≡ true) × (has_size 0x0A 24 ≡ true) × (has_size 0x0C 32 ≡ true)
    × (has_size 0x08 24 ≡ false) × (has_size 0x0A 16 ≡ false) × (has_size 0x0C 24 ≡ false) × (has_size 0x03 16 ≡ false)

-- no card has a memory with an empty budget, with fewer blocks than are in use, with more than 2,048 blocks, with a PIN of five
-- digits, or with an object too few or too many
abbrev pub five_digit_pin : Memory
five_digit_pin = record plain_memory { pin = record plain_memory.pin { secret = 0x31 ∷ 0x32 ∷ 0x33 ∷ 0x34 ∷ 0x35 ∷ 0xFF ∷ 0xFF ∷ 0xFF ∷ [] } }

abbrev pub UnsoundMemories : Type 0
UnsoundMemories =
    ¬ (IsSound (with_budget 0)) × ¬ (IsSound (with_budget 2)) × ¬ (IsSound (with_budget 2049))
    × ¬ (IsSound five_digit_pin) × ¬ (IsSound (record plain_memory { objects = replicate 32 [] }))
    × ¬ (IsSound (record plain_memory { objects = replicate 34 [] }))

-- on contact the fingerprints, the facial image, the printed information and the iris images ask for a PIN, and all else is free; on
-- contactless the CHUID, the certificate for card authentication and the Discovery Object are free, and no PIN opens another
abbrev pub asks_pin : Rule → Bool
asks_pin rule.Pin = true
asks_pin _ = false

abbrev pub is_free : Rule → Bool
is_free rule.Always = true
is_free _ = false

abbrev pub places_of : (Rule → Bool) → Interface → List ℕ
places_of is interface = filter (λ place. is (read_rule_of place interface)) (range_with_len 0 33)

abbrev pub RulesOfObjects : Type 0
RulesOfObjects =
    (places_of asks_pin Contact ≡ 3 ∷ 5 ∷ 9 ∷ 32 ∷ [])
    × (length (places_of is_free Contact) ≡ 29)
    × (places_of is_free Contactless ≡ 1 ∷ 6 ∷ 10 ∷ [])
    × (places_of asks_pin Contactless ≡ [])
