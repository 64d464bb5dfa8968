-- The status words that the card sends (ISO/IEC 7816-4), as numbers, and the tests on them.
use Rattle.std.specs.Prelude.{ℕ, Bool, ◌&&◌, ◌==◌, nat_le, [], ◌∷◌}
use Rattle.std.specs.List.{list_any}

-- 90 00: success
abbrev pub is_granted : ℕ → Bool
is_granted word = word == 0x9000

-- 63 C0 to 63 CF: the verification failed, X tries are left
abbrev pub is_mismatched : ℕ → Bool
is_mismatched word = nat_le 0x63C0 word && nat_le word 0x63CF

-- the words of an APDU that is refused before its command is executed
abbrev pub is_framing_word : ℕ → Bool
is_framing_word w =
    list_any (λ x. x == w) (0x6700 ∷ 0x6881 ∷ 0x6882 ∷ 0x6883 ∷ 0x6985 ∷ 0x6A86 ∷ 0x6E00 ∷ [])
