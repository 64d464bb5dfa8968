-- A memory that a card can have stays one, whatever a store does to it.
use Rattle.std.specs.Prelude.{◌≡◌, ℕ, true, List, length, is_some, IsTrue}
use Rattle.piv_model.specs.declared.kinds.RefId.{RefId}
use Rattle.piv_model.specs.Forms.{is_pin, is_secret}
use Rattle.piv_model.specs.Memory.{Memory, fits}
use Rattle.piv_model.specs.Changes.{change_reference, one_less, full, renewed, unblocked, with_object}
use Rattle.piv_model.specs.Sound.{IsSound, may_stand}
use Rattle.piv_model.specs.Base.{Base, is_valid}

abbrev pub SpendingKeepsSound : Type 0
SpendingKeepsSound = (r : RefId) (m : Memory) → IsSound m → IsSound (change_reference r one_less m)

abbrev pub FillingKeepsSound : Type 0
FillingKeepsSound = (r : RefId) (m : Memory) → IsSound m → IsSound (change_reference r full m)

-- a new value that has its form
abbrev pub RenewingKeepsSound : Type 0
RenewingKeepsSound = (r : RefId) (n : List ℕ) (m : Memory) → IsTrue (is_secret r n) → IsSound m
    → IsSound (change_reference r (renewed n) m)

abbrev pub UnblockingKeepsSound : Type 0
UnblockingKeepsSound = (n : List ℕ) (m : Memory) → IsTrue (is_pin n) → IsSound m → IsSound (unblocked n m)

-- a value that has room, and its form
abbrev pub PuttingKeepsSound : Type 0
PuttingKeepsSound = (place : ℕ) (v : List ℕ) (m : Memory) → fits m v ≡ true → IsTrue (may_stand (is_some m.global) place v)
    → IsSound m → IsSound (with_object place v m)

-- a card that begins with such a memory and 32 random bytes is valid
abbrev pub SoundIsValid : Type 0
SoundIsValid = (B : Base) → IsSound B.memory → length B.random ≡ 32 → IsTrue (is_valid B)
