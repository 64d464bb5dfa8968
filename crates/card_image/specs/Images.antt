-- The row of bytes of a store on a device, and the memory that it stands for.
use Rattle.std.specs.Prelude.{◌≡◌, ◌⊎◌, ℕ, ◌≤◌, false, if◌then◌else◌, List, [], length, slice_index_or, slice_set, IsTrue, IfSome, None}
use Rattle.std.specs.Option.{option_map}
use Rattle.nvm_device.specs.Bytes.{bytes_at}
use Rattle.nvm_device.specs.Device.{DeviceState}
use Rattle.piv_model.specs.Memory.{Memory}
use Rattle.piv_model.specs.Sound.{IsSound}
use Rattle.piv_model.specs.Stores.{StoreState}
use Rattle.card_image.specs.Header.{header_of, memory_in, number_in, with_references, is_first, global_in}
use Rattle.card_image.specs.Forms.{Form, StandsBehind}

abbrev pub memory_of : Form → List ℕ → Memory
memory_of form row = memory_in (header_of row) (form.objects_of row)

-- the object of a place
abbrev pub object_in : Form → List ℕ → ℕ → List ℕ
object_in form row place = slice_index_or (form.objects_of row) place []

abbrev pub budget_of : List ℕ → ℕ
budget_of row = number_in (header_of row).front 6

-- a row that keeps objects within its budget
pub record KeepsObjects (form : Form) (row : List ℕ) : Type 0 where
  pub few : budget_of row ≤ 2048
  pub are : IsTrue (form.are_objects (budget_of row) row)

-- a row that stands for a memory
pub record IsImage (form : Form) (row : List ℕ) : Type 0 where
  pub size : 1114112 ≤ length row
  pub mark : bytes_at (header_of row).front 0 4 ≡ form.mark
  pub objects : KeepsObjects form row
  pub sound : IsSound (memory_of form row)

-- what is so of a row that keeps objects, where the device tells its row
abbrev pub IfKeeps : Form → DeviceState → (List ℕ → Type 0) → Type 0
IfKeeps form s P = IfSome s.bytes (λ row. KeepsObjects form row → P row)

-- what a store on a device means
abbrev pub store_state : Form → DeviceState → StoreState
store_state form s = record { mem = option_map (memory_of form) s.bytes; power = s.power }

-- the references that a row spells are those of these bytes, and all else stands
pub record HasReferences (bytes old new : List ℕ) : Type 0 where
  pub stands : StandsBehind old new
  pub mark : bytes_at (header_of new).front 0 4 ≡ bytes_at (header_of old).front 0 4
  pub budget : budget_of new ≡ budget_of old
  pub references : (objects : List (List ℕ)) → memory_in (header_of new) objects ≡ with_references bytes (memory_in (header_of old) objects)

-- those, or the old ones
pub record MayHaveReferences (bytes old new : List ℕ) : Type 0 where
  pub stands : StandsBehind old new
  pub mark : bytes_at (header_of new).front 0 4 ≡ bytes_at (header_of old).front 0 4
  pub budget : budget_of new ≡ budget_of old
  pub references : ((objects : List (List ℕ)) → memory_in (header_of new) objects ≡ memory_in (header_of old) objects)
      ⊎ ((objects : List (List ℕ)) → memory_in (header_of new) objects ≡ with_references bytes (memory_in (header_of old) objects))

-- bytes that spell no Global PIN where the layout has none
abbrev pub FitsLayout : List ℕ → List ℕ → Type 0
FitsLayout bytes row = IsTrue (is_first (header_of row).front) → global_in bytes ≡ None

-- the object of a place is this, and the head stands
pub record HasObject (form : Form) (place : ℕ) (value old new : List ℕ) : Type 0 where
  pub size : length new ≡ length old
  pub head : header_of new ≡ header_of old
  pub are : IsTrue (form.are_objects (budget_of old) new)
  pub objects : form.objects_of new ≡ slice_set (form.objects_of old) place value

-- the objects stand, or the object of a place is this
pub record MayHaveObject (form : Form) (place : ℕ) (value old new : List ℕ) : Type 0 where
  pub size : length new ≡ length old
  pub head : header_of new ≡ header_of old
  pub are : IsTrue (form.are_objects (budget_of old) new)
  pub objects : (form.objects_of new ≡ form.objects_of old) ⊎ (form.objects_of new ≡ slice_set (form.objects_of old) place value)

-- the layout is the second one now, with these references
pub record Migrated (bytes old new : List ℕ) : Type 0 where
  pub has : HasReferences bytes old new
  pub second : is_first (header_of new).front ≡ false

-- the number of the layout that the version byte names
abbrev pub layout_of : List ℕ → ℕ
layout_of row = if is_first (header_of row).front then 1 else 2

-- A store means what its device's row spells, and that row stands for a memory.
pub record StandsOn (form : Form) (device : DeviceState) (store : StoreState) : Type 0 where
  pub size : 1114112 ≤ device.size
  pub state : store ≡ store_state form device
  pub image : IfSome device.bytes (λ row. IsImage form row)

-- the keys of a memory, by their bytes
pub record HasKeys (own card : List ℕ) (m : Memory) : Type 0 where
  pub admin : m.admin.key ≡ own
  pub card_auth : m.card_auth.key ≡ card
