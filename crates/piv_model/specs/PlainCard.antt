-- The plain card, on which `piv apdu` runs: a PIN, a PUK, two keys of AES-128, three objects, and 32 zero bytes for its
-- random bytes (this project's own).
use Rattle.std.specs.Prelude.{ℕ, List, [], ◌∷◌, ◌++◌, replicate, None}
use Rattle.piv_model.specs.Memory.{Memory}
use Rattle.piv_model.specs.Base.{Base}
use Rattle.piv_model.specs.Forms.{discovery_head}
use Rattle.piv_model.specs.Objects.{discovery_place}

abbrev pub plain_pin : List ℕ
plain_pin = 0x31 ∷ 0x32 ∷ 0x33 ∷ 0x34 ∷ 0x35 ∷ 0x36 ∷ 0xFF ∷ 0xFF ∷ []

abbrev pub plain_puk : List ℕ
plain_puk = 0x31 ∷ 0x32 ∷ 0x33 ∷ 0x34 ∷ 0x35 ∷ 0x36 ∷ 0x37 ∷ 0x38 ∷ []

abbrev pub plain_admin_key : List ℕ
plain_admin_key =
    0x10 ∷ 0x11 ∷ 0x12 ∷ 0x13 ∷ 0x14 ∷ 0x15 ∷ 0x16 ∷ 0x17
    ∷ 0x18 ∷ 0x19 ∷ 0x1A ∷ 0x1B ∷ 0x1C ∷ 0x1D ∷ 0x1E ∷ 0x1F ∷ []

abbrev pub plain_card_key : List ℕ
plain_card_key =
    0x00 ∷ 0x01 ∷ 0x02 ∷ 0x03 ∷ 0x04 ∷ 0x05 ∷ 0x06 ∷ 0x07
    ∷ 0x08 ∷ 0x09 ∷ 0x0A ∷ 0x0B ∷ 0x0C ∷ 0x0D ∷ 0x0E ∷ 0x0F ∷ []

-- such a key in the 32 bytes of a start, filled up with zeros
abbrev pub filled_up : List ℕ → List ℕ
filled_up key = key ++ replicate 16 0

-- the CHUID, the printed information and the Discovery Object
abbrev pub plain_chuid : List ℕ
plain_chuid = 0x3E ∷ 0x00 ∷ 0xFE ∷ 0x00 ∷ []

abbrev pub plain_printed : List ℕ
plain_printed = 0x01 ∷ 0x02 ∷ 0x41 ∷ 0x42 ∷ 0xFE ∷ 0x00 ∷ []

abbrev pub plain_discovery : List ℕ
plain_discovery = discovery_head ++ 0x40 ∷ 0x00 ∷ []

-- its objects by their places, in the order in which they are added
abbrev pub plain_pairs : List (ℕ × List ℕ)
plain_pairs = (1, plain_chuid) ∷ (9, plain_printed) ∷ (discovery_place, plain_discovery) ∷ []

-- the objects at their places 0 to 32
abbrev pub plain_objects : List (List ℕ)
plain_objects =
    [] ∷ plain_chuid ∷ [] ∷ [] ∷ [] ∷ [] ∷ [] ∷ [] ∷ [] ∷ plain_printed ∷ plain_discovery ∷ replicate 22 []

unfoldable pub plain_memory : Memory
plain_memory = record {
  pin = record { limit = 3; tries = 3; secret = plain_pin };
  puk = record { limit = 3; tries = 3; secret = plain_puk };
  global = None;
  admin = record { algorithm = 0x08; key = plain_admin_key };
  card_auth = record { algorithm = 0x08; key = plain_card_key };
  budget = 2048;
  objects = plain_objects;
}

abbrev pub plain_base : Base
plain_base = record { memory = plain_memory; random = replicate 32 0 }
