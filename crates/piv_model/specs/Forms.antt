-- The forms of secrets and of the Discovery Object (SP 800-73-4 part 1, the Discovery Object; part 2, VERIFY, CHANGE
-- REFERENCE DATA and RESET RETRY COUNTER).
use Rattle.std.specs.Prelude.{ℕ, Bool, ◌&&◌, ◌||◌, ◌==◌, nat_le, List, [], ◌∷◌, ◌++◌, length, take, drop, slice_index}
use Rattle.std.specs.List.{list_all}
use Rattle.std.specs.Str.{bytes_eq}
use Rattle.piv_model.specs.declared.kinds.RefId.{RefId}
use Rattle.piv_model.specs.declared.kinds.RefId.TheVariants.{Pin, Puk, GlobalPin}
use Rattle.piv_model.specs.ApplicationNames.{full_aid}

-- a PIN: 6 to 8 digits, filled up to 8 bytes with FF
abbrev pub is_digit : ℕ → Bool
is_digit b = nat_le 0x30 b && nat_le b 0x39

abbrev pub is_digit_or_fill : ℕ → Bool
is_digit_or_fill b = is_digit b || (b == 0xFF)

unfoldable pub is_pin : List ℕ → Bool
is_pin p =
    (length p == 8) && list_all is_digit (take 6 p) && list_all is_digit_or_fill (drop 6 p)
    && (is_digit (slice_index p 6) || (slice_index p 7 == 0xFF))

-- a PUK: any 8 bytes
abbrev pub is_puk : List ℕ → Bool
is_puk p = length p == 8

-- a value of this reference
abbrev pub is_secret : RefId → List ℕ → Bool
is_secret Pin p = is_pin p
is_secret GlobalPin p = is_pin p
is_secret Puk p = is_puk p

-- the old and the new value of a reference
abbrev pub is_pair : RefId → List ℕ → Bool
is_pair r bytes = (length bytes == 16) && is_secret r (take 8 bytes) && is_secret r (drop 8 bytes)

-- a PUK and a new PIN
abbrev pub is_puk_and_pin : List ℕ → Bool
is_puk_and_pin bytes = (length bytes == 16) && is_pin (drop 8 bytes)

-- the Discovery Object: the full name under 4F, and under 5F2F a PIN usage policy, which is 40 00, or, on a card with a
-- Global PIN, 60 10 or 60 20
abbrev pub discovery_head : List ℕ
discovery_head = 0x4F ∷ 0x0B ∷ full_aid ++ 0x5F ∷ 0x2F ∷ 0x02 ∷ []

abbrev pub is_policy : Bool → List ℕ → Bool
is_policy has_global p =
    bytes_eq p (0x40 ∷ 0x00 ∷ [])
    || (has_global && (bytes_eq p (0x60 ∷ 0x10 ∷ []) || bytes_eq p (0x60 ∷ 0x20 ∷ [])))

unfoldable pub is_discovery : Bool → List ℕ → Bool
is_discovery has_global v = bytes_eq (take 16 v) discovery_head && is_policy has_global (drop 16 v)
