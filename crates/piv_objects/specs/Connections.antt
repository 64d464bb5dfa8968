-- The connection description (SP 800-73-4 part 3, pivConnect).
use Rattle.std.specs.Prelude.{◌==◌, ◌&&◌, ◌||◌, nat_le, Bool, ℕ, ◌≤◌, List, [], ◌∷◌, length}
use Rattle.std.specs.List.{AllPass}
use Rattle.ber_tlv.specs.Elements.{element, AreElements}

-- an ASCII letter or digit, - or _
abbrev pub is_name_byte : ℕ → Bool
is_name_byte b =
    (nat_le 0x30 b && nat_le b 0x39) || (nat_le 0x41 b && nat_le b 0x5A)
    || (nat_le 0x61 b && nat_le b 0x7A) || b == 0x2D || b == 0x5F

-- A name has 1 to 32 of these.
pub record IsName (name : List ℕ) : Type 0 where
  pub some : 1 ≤ length name
  pub most : length name ≤ 32
  pub each : AllPass is_name_byte name

-- One element 7F21 that holds one element 81, the name of a reader.
pub record IsConnectionDescription (bytes name : List ℕ) : Type 0 where
  pub inside : List ℕ
  pub template : AreElements bytes (element 0x7F21 inside ∷ [])
  pub reader : AreElements inside (element 0x81 name ∷ [])
  pub is_name : IsName name
