-- Elements of BER-TLV with definite lengths, after ISO/IEC 7816-4: what they are, apart from any
-- reading, and the shortest spelling of each.
use Rattle.std.specs.Prelude.{◌≡◌, ◌≢◌, ℕ, ◌+◌, ◌*◌, ◌/◌, ◌%◌, ◌<◌, ◌≤◌, zero, suc, nat_lt, if◌then◌else◌, List, [], ◌∷◌, ◌++◌, length, Option, Some, None, option_map, option_and_then}
use Rattle.std.specs.Result.{result_ok}
use Rattle.ber_tlv.specs.Reading.{parts_at}

-- an element without where it lies in memory; its tag's bytes are one number, the highest first
pub record Element : Type 0 where
  pub tag : ℕ
  pub value : List ℕ

abbrev pub element : ℕ → List ℕ → Element
element tag value = record { tag = tag; value = value }

-- A tag is one byte. Where the low five bits of that are all ones, one or two more bytes follow, of
-- which the last has its top bit clear.
abbrev pub IsTag : List ℕ → ℕ → Type 0
IsTag (a ∷ []) tag = (a % 32 ≢ 31) × (tag ≡ a)
IsTag (a ∷ b ∷ []) tag = (a % 32 ≡ 31) × (b < 0x80) × (tag ≡ 0x100 * a + b)
IsTag (a ∷ b ∷ c ∷ []) tag =
    (a % 32 ≡ 31) × (0x80 ≤ b) × (c < 0x80) × (tag ≡ 0x100 * (0x100 * a + b) + c)
IsTag _ tag = ⊥

-- A length is one byte to 7F, or 81, 82 or 83 and one, two or three bytes, the highest first.
abbrev pub IsLength : List ℕ → ℕ → Type 0
IsLength (a ∷ []) n = (a < 0x80) × (n ≡ a)
IsLength (form ∷ a ∷ []) n = (form ≡ 0x81) × (n ≡ a)
IsLength (form ∷ a ∷ b ∷ []) n = (form ≡ 0x82) × (n ≡ 0x100 * a + b)
IsLength (form ∷ a ∷ b ∷ c ∷ []) n = (form ≡ 0x83) × (n ≡ 0x100 * (0x100 * a + b) + c)
IsLength _ n = ⊥

-- These bytes are the element: its tag, a length of any form, and the value of that length.
pub record IsElement (bytes : List ℕ) (e : Element) : Type 0 where
  pub tag : List ℕ
  pub len : List ℕ
  pub is_tag : IsTag tag e.tag
  pub is_length : IsLength len (length e.value)
  pub most : length e.value ≤ 65535
  pub whole : bytes ≡ tag ++ len ++ e.value

-- The bytes begin with the element, and this follows it.
pub record BeginsWith (bytes : List ℕ) (e : Element) (rest : List ℕ) : Type 0 where
  pub front : List ℕ
  pub is_element : IsElement front e
  pub whole : bytes ≡ front ++ rest

-- The bytes are these elements, one after the other.
abbrev pub AreElements : List ℕ → List Element → Type 0
AreElements bytes [] = bytes ≡ []
AreElements bytes (e ∷ es) = (rest : List ℕ) × BeginsWith bytes e rest × AreElements rest es

-- ---- reading

-- the element that the bytes begin with, and what follows it
abbrev pub element_at : List ℕ → Option (Element × List ℕ)
element_at bytes = option_map (λ x. (element x.0.0 x.0.1, x.1)) (result_ok (parts_at bytes))

-- the elements one after the other; `most` bounds their number
abbrev pub read_elements : ℕ → List ℕ → Option (List Element)
read_elements most [] = Some []
read_elements zero (b ∷ bytes) = None
read_elements (suc most) (b ∷ bytes) =
    option_and_then (λ x. option_map (λ es. x.0 ∷ es) (read_elements most x.1)) (element_at (b ∷ bytes))

-- the elements that the bytes are
unfoldable pub elements_of : List ℕ → Option (List Element)
elements_of bytes = read_elements (length bytes) bytes

-- ---- spelling

-- the bytes of a tag, as many as its number has
abbrev pub tag_bytes : ℕ → List ℕ
tag_bytes tag =
    if nat_lt tag 0x100 then tag ∷ []
    else if nat_lt tag 0x10000 then (tag / 0x100) ∷ (tag % 0x100) ∷ []
    else (tag / 0x10000) ∷ (tag / 0x100 % 0x100) ∷ (tag % 0x100) ∷ []

-- the shortest form of a length
abbrev pub length_bytes : ℕ → List ℕ
length_bytes n =
    if nat_lt n 0x80 then n ∷ []
    else if nat_lt n 0x100 then 0x81 ∷ n ∷ []
    else 0x82 ∷ (n / 0x100) ∷ (n % 0x100) ∷ []

-- the beginning of an element: its tag and its length
unfoldable pub header_of : ℕ → ℕ → List ℕ
header_of tag n = tag_bytes tag ++ length_bytes n

-- the element with the shortest length
abbrev pub spell : ℕ → List ℕ → List ℕ
spell tag value = header_of tag (length value) ++ value

-- the number of a tag: its bytes, at most three, are a tag
abbrev pub IsTagNumber : ℕ → Type 0
IsTagNumber tag = (tag < 0x1000000) × IsTag (tag_bytes tag) tag
