-- What a device holds after personalising: all else first, the mark last.
use Rattle.std.specs.Prelude.{◌≡◌, ℕ, ◌/◌, ◌%◌, ◌≤◌, Bool, true, false, if◌then◌else◌, List, [], ◌∷◌, length, map, take, Some, IsTrue}
use Rattle.std.specs.List.{range_with_len}
use Rattle.nvm_device.specs.Device.{DeviceState}
use Rattle.nvm_slots.specs.Slots.{Leaves}
use Rattle.nvm_slots.specs.Laying.{Area, Piece, FrontKept}
use Rattle.piv_model.specs.declared.start.Start.{Start}
use Rattle.piv_model.specs.Memory.{blocks_used}
use Rattle.piv_model.specs.Starts.{value_at, memory_of_start}
use Rattle.card_image.specs.Forms.{Form}
use Rattle.card_image.specs.Header.{reference_in, global_in}
use Rattle.card_image.specs.Images.{memory_of, IsImage, layout_of}
use Rattle.card_image.specs.Looking.{IsBlank}

-- behind the mark, and behind the first 256 bytes
abbrev pub header_area : Area
header_area = record { front = 4; size = 256 }

abbrev pub objects_area : Area
objects_area = record { front = 256; size = 1114112 }

-- the values of all places
unfoldable pub values : List (ℕ × List ℕ) → List (List ℕ)
values objects = map (value_at objects) (range_with_len 0 33)

pub record LaidObjects (form : Form) (pairs : List (ℕ × List ℕ)) (old new : List ℕ) : Type 0 where
  pub kept : FrontKept objects_area old new
  pub are : (budget : ℕ) → blocks_used (values pairs) ≤ budget → budget ≤ 2048 → IsTrue (form.are_objects budget new)
  pub objects : form.objects_of new ≡ values pairs

-- a device after writes of which none was lost
pub record Done (R : List ℕ → List ℕ → Type 0) (old new : DeviceState) : Type 0 where
  pub left : Leaves R old new
  pub same : new.power ≡ record old.power { due = new.power.due }
  pub due : old.power.due ≡ Some [] → new.power.due ≡ Some []

-- thirty bytes that spell the references of a start
pub record SpellsReferences (start : Start) (bytes : List ℕ) : Type 0 where
  pub size : length bytes ≡ 30
  pub pin : reference_in bytes 0 ≡ (memory_of_start start).pin
  pub puk : reference_in bytes 10 ≡ (memory_of_start start).puk
  pub global : global_in bytes ≡ (memory_of_start start).global

-- what is laid of a start's header, the last piece first: version and budget, the keys, and selector and slot 0 of the
-- references, which stand in front of the keys in layout 1 and behind them in layout 2
abbrev pub front_pieces : ℕ → Start → List Piece
front_pieces version start =
    (6, start.budget / 256 ∷ start.budget % 256 ∷ []) ∷ (4, version ∷ []) ∷ []

abbrev pub key_pieces : Start → List Piece → List Piece
key_pieces start pieces =
    (83, start.card_auth.bytes) ∷ (82, start.card_auth.algorithm ∷ [])
    ∷ (50, start.admin.bytes) ∷ (49, start.admin.algorithm ∷ []) ∷ pieces

abbrev pub header_pieces : Bool → Start → List ℕ → List Piece
header_pieces true start references =
    key_pieces start ((9, take 20 references) ∷ (8, 0 ∷ []) ∷ front_pieces 1 start)
header_pieces false start references =
    (116, references) ∷ (115, 0 ∷ []) ∷ key_pieces start (front_pieces 2 start)

-- the place behind these pieces
abbrev pub header_end : Bool → ℕ
header_end first = if first then 115 else 146

-- the start's keys have their lengths
pub record HasLengths (start : Start) : Type 0 where
  pub admin : length start.admin.bytes ≡ 32
  pub card_auth : length start.card_auth.bytes ≡ 32

-- a row that was blank stands for no memory but the start's
abbrev pub NoOther : Form → Start → List ℕ → List ℕ → Type 0
NoOther form start old new = IsBlank old → IsImage form new → memory_of form new ≡ memory_of_start start

-- a row stands for the start's memory, in layout 1 or 2
pub record Personal (form : Form) (first : Bool) (start : Start) (old new : List ℕ) : Type 0 where
  pub image : IsImage form new
  pub memory : memory_of form new ≡ memory_of_start start
  pub layout : layout_of new ≡ (if first then 1 else 2)
