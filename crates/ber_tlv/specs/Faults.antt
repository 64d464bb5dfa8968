-- Where no element begins, and what is wrong first in the order tag, length, value
-- (ISO/IEC 7816-4, with tags of at most three bytes and lengths of at most 65,535).
use Rattle.std.specs.Prelude.{◌≡◌, ◌≢◌, ℕ, ◌%◌, ◌<◌, ◌≤◌, ◌⊎◌, List, [], ◌∷◌, ◌++◌, length}
use Rattle.ber_tlv.specs.declared.fault.TlvKind.{TlvKind}
use Rattle.ber_tlv.specs.declared.fault.TlvKind.TheVariants.{TagLong, LengthBad, Short}
use Rattle.ber_tlv.specs.Elements.{Element, IsTag, IsLength, BeginsWith}

-- No element begins there.
abbrev pub NoneBegins : List ℕ → Type 0
NoneBegins bytes = (e : Element) (rest : List ℕ) → ¬ BeginsWith bytes e rest

-- A third byte of the tag has its top bit set.
abbrev pub HasLongTag : List ℕ → Type 0
HasLongTag (a ∷ b ∷ c ∷ _) = (a % 32 ≡ 31) × (0x80 ≤ b) × (0x80 ≤ c)
HasLongTag _ = ⊥

-- The first byte of a length is 80 or above 83.
abbrev pub HasBadForm : List ℕ → Type 0
HasBadForm [] = ⊥
HasBadForm (form ∷ _) = (form ≡ 0x80) ⊎ (0x83 < form)

-- A length above 65,535 stands there.
pub record IsTooLong (bytes : List ℕ) : Type 0 where
  pub len : List ℕ
  pub number : ℕ
  pub rest : List ℕ
  pub is_length : IsLength len number
  pub over : 65535 < number
  pub whole : bytes ≡ len ++ rest

-- Behind a tag stands a length that isn't admitted.
pub record HasBadLength (bytes : List ℕ) : Type 0 where
  pub tag : List ℕ
  pub number : ℕ
  pub rest : List ℕ
  pub is_tag : IsTag tag number
  pub is_bad : HasBadForm rest ⊎ IsTooLong rest
  pub whole : bytes ≡ tag ++ rest

-- With the missing bytes they would be a tag, a length and a value of that length.
pub record Lacks (bytes : List ℕ) : Type 0 where
  pub missing : List ℕ
  pub some_missing : missing ≢ []
  pub tag : List ℕ
  pub number : ℕ
  pub len : List ℕ
  pub value : List ℕ
  pub is_tag : IsTag tag number
  pub is_length : IsLength len (length value)
  pub whole : bytes ++ missing ≡ tag ++ len ++ value

-- Bytes are missing: some are there, others are lacking, and no bad length stands there.
pub record IsCutShort (bytes : List ℕ) : Type 0 where
  pub some : bytes ≢ []
  pub lacks : Lacks bytes
  pub len : ¬ HasBadLength bytes

abbrev pub IsFault : TlvKind → List ℕ → Type 0
IsFault TagLong bytes = HasLongTag bytes
IsFault LengthBad bytes = HasBadLength bytes
IsFault Short bytes = IsCutShort bytes
