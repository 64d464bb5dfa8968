-- Bytes that are laid on a device, each piece behind those before it, while the bytes in front of
-- them stand.
use Rattle.std.specs.Prelude.{◌≡◌, ℕ, ◌+◌, ◌≤◌, List, [], ◌∷◌, length, Some, ⊤}
use Rattle.power_loss.specs.Power.{PowerLost}
use Rattle.nvm_device.specs.Bytes.{bytes_at}
use Rattle.nvm_device.specs.Device.{DeviceState}
use Rattle.nvm_slots.specs.Slots.{Leaves}

-- bytes and the place where they stand
abbrev pub Piece : Type 0
Piece = ℕ × List ℕ

abbrev pub Holds : List Piece → List ℕ → Type 0
Holds [] row = ⊤
Holds (p ∷ pieces) row = (bytes_at row p.0 (length p.1) ≡ p.1) × Holds pieces row

abbrev pub LieBelow : List Piece → ℕ → Type 0
LieBelow [] end = ⊤
LieBelow (p ∷ pieces) end = (p.0 + length p.1 ≤ end) × LieBelow pieces end

-- where pieces are laid: behind the first `front` bytes, and below `size`
pub record Area : Type 0 where
  pub front : ℕ
  pub size : ℕ

-- the front stands
pub record FrontKept (area : Area) (old new : List ℕ) : Type 0 where
  pub size : length new ≡ length old
  pub front : bytes_at new 0 area.front ≡ bytes_at old 0 area.front

-- these pieces stand, all of them below this place, and so does the front
pub record Laid (area : Area) (pieces : List Piece) (end : ℕ) (old new : List ℕ) : Type 0 where
  pub enough : area.size ≤ length old
  pub kept : FrontKept area old new
  pub below : LieBelow pieces end
  pub holds : Holds pieces new

-- a device after writes of which none was lost
pub record Laying (area : Area) (pieces : List Piece) (end : ℕ) (old new : DeviceState)
    : Type 0 where
  pub left : Leaves (Laid area pieces end) old new
  pub same : new.power ≡ record old.power { due = new.power.due }
  pub due : old.power.due ≡ Some [] → new.power.due ≡ Some []

-- a device that lost one of them
abbrev pub Fell : (List ℕ → List ℕ → Type 0) → DeviceState → DeviceState → Type 0
Fell R old new = PowerLost new.power.due (Leaves R old new) old.power new.power

-- whatever was laid before, these bytes stand behind it now
abbrev pub LaysMore : ℕ → List ℕ → DeviceState → DeviceState → Type 0
LaysMore place bytes old new =
    (area : Area) (pieces : List Piece) (end : ℕ) (s : DeviceState)
    → area.front ≤ place → place + length bytes ≤ area.size → end ≤ place
    → Laying area pieces end s old
    → Laying area ((place, bytes) ∷ pieces) (place + length bytes) s new

-- whatever was laid before, the front stands, and the device lost a write
abbrev pub LaysNoMore : ℕ → ℕ → DeviceState → DeviceState → Type 0
LaysNoMore place n old new =
    (area : Area) (pieces : List Piece) (end : ℕ) (s : DeviceState)
    → area.front ≤ place → place + n ≤ area.size
    → Laying area pieces end s old → Fell (FrontKept area) s new
