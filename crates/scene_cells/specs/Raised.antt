-- The cells of a scene's cards: what each began with, and what became of its device (this project's own).
use Rattle.std.specs.Prelude.{◌≡◌, ◌⊎◌, ◌<◌, ◌^◌, ℕ, true, false, List, [], ◌∷◌, length, Some, IfSome, slice_get}
use Rattle.power_loss.specs.declared.loss.Loss.{Loss}
use Rattle.power_loss.specs.Plans.{write_numbers}
use Rattle.piv_model.specs.declared.start.Start.{Start}
use Rattle.piv_model.specs.declared.store.Store.{Ghosts}
use Rattle.piv_model.specs.Starts.{memory_of_start}
use Rattle.nvm_device.specs.declared.loss.How.{How}
use Rattle.nvm_device.specs.Device.{DeviceState}
use Rattle.card_image.specs.Images.{memory_of}
use Rattle.card_image.specs.Laying.{Done, Personal}
use Rattle.block_store.specs.Blocks.{block_form}
use Rattle.block_store.specs.Devices.{IsFaulted, OthersStand}
use Rattle.scene_cards.specs.CardValues.{CardValue}
use Rattle.card_cell.specs.declared.base.CellBase.{CellBase}
use Rattle.card_cell.specs.declared.cell.CardCell.{CardCell}
use Rattle.card_cell.specs.Cells.{CellStandsFor, store_in}
use Rattle.card_cell.specs.Holds.{base_of, IsHeld}
use Rattle.scene_cells.specs.declared.fault.RunFault.{RunFault}
use Rattle.scene_cells.specs.declared.fault.RunFault.TheVariants.{Device}

-- ---- what cells began with

-- of these turns, on a device that had lost power so often
abbrev pub cell_base : Start → List (Loss How) → ℕ → ℕ → CellBase
cell_base start plan turns lost = record { start = start; turns = turns; plan = write_numbers plan; losses = lost }

-- those of all cards, each with its device's losses
abbrev pub cell_bases : ℕ → List CardValue → List ℕ → List CellBase
cell_bases turns [] losses = []
cell_bases turns (card ∷ cards) [] = []
cell_bases turns (card ∷ cards) (lost ∷ losses) =
    cell_base card.start card.plan turns lost ∷ cell_bases turns cards losses

-- ---- cells

-- a device was personalised with what a card begins with
abbrev pub IsPersonal : Start → DeviceState → DeviceState → Type 0
IsPersonal start before now = Done (Personal block_form false start) before now

-- a new cell of these random bytes and turns, over a device under a plan
pub record IsCellOf {S T : Type 0} {meaning : Ghosts S T} (random plan : List ℕ) (turns : ℕ)
    (device : DeviceState) (cell : CardCell S T meaning) : Type 0 where
  pub on : (store_in cell).power.on ≡ true
  pub due : device.power.due ≡ Some [] → (store_in cell).power.due ≡ Some plan
  pub held : (base : CellBase) → base.start.random ≡ random → base.turns ≡ turns → base.plan ≡ plan
      → base.losses ≡ device.power.losses → base.losses < 2 ^ 64
      → IfSome device.bytes (λ row. memory_of block_form row ≡ memory_of_start base.start)
      → IsHeld block_form.put_cost cell base []
  pub told : IfSome device.bytes (λ row. (store_in cell).mem ≡ Some (memory_of block_form row))

-- The cell of a card on a device that told this before: it stands for the card and no record, and the card's plan is
-- its own. Where the device tells that it never loses power, the plan is told.
pub record IsRaised {S T : Type 0} {meaning : Ghosts S T} (start : Start) (plan : List (Loss How)) (turns lost : ℕ)
    (before : DeviceState) (cell : CardCell S T meaning) : Type 0 where
  pub count : lost ≡ before.power.losses
  pub on : (store_in cell).power.on ≡ true
  pub due : before.power.due ≡ Some [] → (store_in cell).power.due ≡ Some (write_numbers plan)
  pub held : IsHeld block_form.put_cost cell (cell_base start plan turns lost) []
  pub stands : IfSome before.bytes (λ row. CellStandsFor cell (base_of start) [])

-- a cell for each card, on the device that stood in its place
pub record AreRaised {N S T : Type 0} {meaning : Ghosts S T} (state : N → DeviceState) (device : CardCell S T meaning → N)
    (turns : ℕ) (cards : List CardValue) (old : List N) (losses : List ℕ) (cells : List (CardCell S T meaning)) : Type 0 where
  pub many : length cells ≡ length cards
  pub counts : length losses ≡ length cards
  pub each : (k : ℕ) (card : CardValue) (before : N) (lost : ℕ) (cell : CardCell S T meaning)
      → slice_get cards k ≡ Some card → slice_get old k ≡ Some before → slice_get losses k ≡ Some lost
      → slice_get cells k ≡ Some cell
      → IsRaised card.start card.plan turns lost (state before) cell
      × IsPersonal card.start (state before) (state (device cell))

-- ---- no cells

-- a device was left alone, or personalised
abbrev pub IsSpared : Start → DeviceState → DeviceState → Type 0
IsSpared start before now = (now ≡ before) ⊎ IsPersonal start before now

-- the device of a card when there are no cells: by a fault of devices it may have lost power while it was personalised
abbrev pub IsBack : RunFault → Start → DeviceState → DeviceState → Type 0
IsBack fault start before now =
    IsSpared start before now ⊎ ((fault ≡ Device) × IsFaulted (memory_of_start start) before now)

-- a device of these cards lost power while it was personalised
pub record HasFault {N : Type 0} (state : N → DeviceState) (cards : List CardValue) (old new : List N) : Type 0 where
  pub place : ℕ
  pub card : CardValue
  pub before : N
  pub now : N
  pub card_is : slice_get cards place ≡ Some card
  pub before_is : slice_get old place ≡ Some before
  pub now_is : slice_get new place ≡ Some now
  pub faulted : IsFaulted (memory_of_start card.start) (state before) (state now)

-- all devices are in their places, and those beyond the cards' as they were
pub record AreBack {N : Type 0} (state : N → DeviceState) (cards : List CardValue) (fault : RunFault) (old new : List N)
    : Type 0 where
  pub stand : OthersStand (length cards) old new
  pub each : (k : ℕ) (card : CardValue) (before now : N)
      → slice_get cards k ≡ Some card → slice_get old k ≡ Some before → slice_get new k ≡ Some now
      → IsBack fault card.start (state before) (state now)
  pub cause : fault ≡ Device → HasFault state cards old new
