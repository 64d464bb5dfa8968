-- A twin record, this project's own form: a selector byte and two slots, one of them live. A
-- replacement fills the other slot and then writes the selector. So the selector names a whole
-- record, whatever a loss of power leaves in either range.
use Rattle.std.specs.Prelude.{◌≡◌, ◌⊎◌, ℕ, ◌+◌, ◌-◌, ◌<◌, ◌≤◌, ◌%◌, List, length, slice_index}
use Rattle.power_loss.specs.Told.{Each}
use Rattle.power_loss.specs.Power.{power_after, LostIn}
use Rattle.nvm_device.specs.Bytes.{bytes_at, AreApart}
use Rattle.nvm_device.specs.Device.{DeviceState}
use Rattle.nvm_slots.specs.declared.twin.Twin.{Twin}

abbrev pub slot_of : Twin → ℕ → ℕ
slot_of twin which = slice_index twin.slot which

-- Only the last bit of the selector counts: a write that was lost may leave any byte there.
abbrev pub live : Twin → List ℕ → ℕ
live twin row = slice_index row twin.selector % 2

-- the first n bytes of the live slot
abbrev pub live_bytes : Twin → ℕ → List ℕ → List ℕ
live_bytes twin n row = bytes_at row (slot_of twin (live twin row)) n

-- the whole live record
abbrev pub record_of : Twin → List ℕ → List ℕ
record_of twin row = live_bytes twin twin.size row

-- the record's ranges lie in a row of this size
pub record IsRecordIn (size : ℕ) (twin : Twin) : Type 0 where
  pub selector_in : twin.selector < size
  pub first_in : slot_of twin 0 + twin.size ≤ size
  pub second_in : slot_of twin 1 + twin.size ≤ size

-- they have no place in common
pub record IsDisjoint (twin : Twin) : Type 0 where
  pub slots_apart : AreApart (slot_of twin 0) twin.size (slot_of twin 1) twin.size
  pub first_apart : AreApart twin.selector 1 (slot_of twin 0) twin.size
  pub second_apart : AreApart twin.selector 1 (slot_of twin 1) twin.size

-- a range that the record has no place in
pub record IsOutside (twin : Twin) (at n : ℕ) : Type 0 where
  pub selector : AreApart twin.selector 1 at n
  pub first : AreApart (slot_of twin 0) twin.size at n
  pub second : AreApart (slot_of twin 1) twin.size at n

-- all bytes outside of the record stand
pub record KeepsOutside (twin : Twin) (old new : List ℕ) : Type 0 where
  pub size : length new ≡ length old
  pub outside : (at n : ℕ) → at + n ≤ length old → IsOutside twin at n
      → bytes_at new at n ≡ bytes_at old at n

-- the live slot begins with these bytes, and the other slot holds the old record
pub record Replaced (twin : Twin) (bytes old new : List ℕ) : Type 0 where
  pub kept : KeepsOutside twin old new
  pub begins : live_bytes twin (length bytes) new ≡ bytes
  -- 0 or 1, whatever stood there
  pub selector : slice_index new twin.selector ≡ 1 - live twin old
  pub old_stands : bytes_at new (slot_of twin (live twin old)) twin.size ≡ record_of twin old

-- the old or the new record is live
pub record ReplacedOrNot (twin : Twin) (bytes old new : List ℕ) : Type 0 where
  pub kept : KeepsOutside twin old new
  pub which :
      (record_of twin new ≡ record_of twin old) ⊎ (live_bytes twin (length bytes) new ≡ bytes)

-- a device of the same size, and a row that stands so to the one before
pub record Leaves (R : List ℕ → List ℕ → Type 0) (old new : DeviceState) : Type 0 where
  pub size : new.size ≡ old.size
  pub bytes : Each R old.bytes new.bytes

-- a call of n writes of which none was lost
pub record Kept (n : ℕ) (R : List ℕ → List ℕ → Type 0) (old new : DeviceState) : Type 0 where
  pub left : Leaves R old new
  pub power : new.power ≡ power_after n old.power

-- a call of n writes of which one was lost
abbrev pub Cut : ℕ → (List ℕ → List ℕ → Type 0) → DeviceState → DeviceState → Type 0
Cut n R old new = LostIn n (Leaves R old new) old.power new.power
