-- The first 256 bytes of a device that keeps a card's memory (this project's own): a mark, a version byte, the budget, the
-- twin record of the references, and two keys. Numbers of two bytes are big-endian.
use Rattle.std.specs.Prelude.{ℕ, ◌+◌, ◌*◌, ◌%◌, ◌==◌, Bool, true, false, if◌then◌else◌, List, [], ◌∷◌, ◌++◌, replicate, Option, Some, None, slice_index}
use Rattle.nvm_device.specs.Bytes.{bytes_at}
use Rattle.nvm_slots.specs.Slots.{record_of}
use Rattle.nvm_slots.specs.declared.twin.Twin.{Twin}
use Rattle.piv_model.specs.Memory.{Memory, Reference, CardKey}
use Rattle.piv_model.specs.Sound.{key_size}

-- two bytes, the higher first
abbrev pub number_in : List ℕ → ℕ → ℕ
number_in part at = 256 * slice_index part at + slice_index part (at + 1)

-- the version byte: odd is layout 1, even is layout 2
abbrev pub is_first : List ℕ → Bool
is_first front = slice_index front 4 % 2 == 1

-- the references of layout 1, and those of layout 2, which has a Global PIN too
abbrev pub references_twin : Bool → Twin
references_twin true = record { selector = 8; slot = 9 ∷ 29 ∷ []; size = 20 }
references_twin false = record { selector = 115; slot = 116 ∷ 146 ∷ []; size = 30 }

-- the record, in layout 1 with ten zero bytes in place of a Global PIN
abbrev pub padded : Bool → List ℕ → List ℕ
padded true bytes = bytes ++ replicate 10 0
padded false bytes = bytes

-- what is read of the first 256 bytes
pub record Header : Type 0 where
  pub front : List ℕ
  pub references : List ℕ
  pub keys : List ℕ

abbrev pub references_in : Bool → List ℕ → List ℕ
references_in first row = padded first (record_of (references_twin first) row)

abbrev pub header_by : Bool → List ℕ → Header
header_by first row = record { front = bytes_at row 0 8; references = references_in first row; keys = bytes_at row 49 66 }

unfoldable pub header_of : List ℕ → Header
header_of row = header_by (is_first (bytes_at row 0 8)) row

abbrev pub reference_in : List ℕ → ℕ → Reference
reference_in part at = record { limit = slice_index part at; tries = slice_index part (at + 1); secret = bytes_at part (at + 2) 8 }

-- a limit of 0 means none, and then nothing behind it is read
abbrev pub global_in : List ℕ → Option Reference
global_in part = if slice_index part 20 == 0 then None else Some (reference_in part 20)

abbrev pub key_in : List ℕ → ℕ → CardKey
key_in part at = record { algorithm = slice_index part at; key = bytes_at part (at + 1) (key_size (slice_index part at)) }

-- the references that these bytes spell, in place of those of a memory
abbrev pub with_references : List ℕ → Memory → Memory
with_references bytes m = record m { pin = reference_in bytes 0; puk = reference_in bytes 10; global = global_in bytes }

-- the memory that a head spells, with these objects
abbrev pub memory_in : Header → List (List ℕ) → Memory
memory_in head objects = record {
  pin = reference_in head.references 0;
  puk = reference_in head.references 10;
  global = global_in head.references;
  admin = key_in head.keys 0;
  card_auth = key_in head.keys 33;
  budget = number_in head.front 6;
  objects = objects;
}

-- a Global PIN with a full counter; a limit of 0 means none
abbrev pub full_global : ℕ → List ℕ → Option Reference
full_global limit secret = if limit == 0 then None else Some (record { limit = limit; tries = limit; secret = secret })

abbrev pub with_global : Option Reference → Memory → Memory
with_global global m = record m { global = global }
