-- What a run of a scene made of its cards, and of their devices (this project's own).
use Rattle.std.specs.Prelude.{◌≡◌, ℕ, List, length, map, Some, slice_get}
use Rattle.piv_model.specs.Entries.{Past}
use Rattle.script_line.specs.Scripts.{ScriptData}
use Rattle.nvm_device.specs.Device.{DeviceState}
use Rattle.piv_rules.specs.Acts.{Records, entries}
use Rattle.block_store.specs.Devices.{OthersStand}
use Rattle.scene_cards.specs.CardValues.{CardValue}
use Rattle.piv_scene.specs.SceneValues.{SceneValue}
use Rattle.card_cell.specs.declared.base.CellBase.{CellBase}
use Rattle.script_runs.specs.Runs.{Scripts}
use Rattle.scene_cells.specs.Lowered.{IsLeft}
use Rattle.scene_cells.specs.Raised.{cell_base}
use Rattle.scene_cells.specs.Turns.{scene_turns}

-- the lines of each script
abbrev pub lines_of : List ScriptData → Scripts
lines_of scripts = map (λ s. s.lines) scripts

-- each of these cards has so many turns
abbrev pub HaveTurns : ℕ → List CellBase → Type 0
HaveTurns turns bases = (k : ℕ) (base : CellBase) → slice_get bases k ≡ Some base → base.turns ≡ turns

-- the history of each card is that of its records, and its device is left by them over its base
pub record AreLeftBy {N : Type 0} (state : N → DeviceState) (bases : List CellBase) (devices : List N)
    (histories : List Past) (records : ℕ → Records) : Type 0 where
  pub many : length histories ≡ length bases
  pub each : (k : ℕ) (base : CellBase) (now : N) (H : Past)
      → slice_get bases k ≡ Some base → slice_get devices k ≡ Some now → slice_get histories k ≡ Some H
      → (H ≡ entries (records k)) × IsLeft base (records k) (state now)

-- A card's history is that of its records, and its device, which told this before and tells that now, is left by them.
pub record CardRan (card : CardValue) (turns : ℕ) (before now : DeviceState) (H : Past) (R : Records) : Type 0 where
  pub history : H ≡ entries R
  pub left : IsLeft (cell_base card.start card.plan turns before.power.losses) R now

-- each card on the device in its place, and the other devices as they were
pub record CardsRan {N : Type 0} (state : N → DeviceState) (scene : SceneValue) (old new : List N)
    (histories : List Past) (records : ℕ → Records) : Type 0 where
  pub many : length histories ≡ length scene.cards
  pub cards : (k : ℕ) (card : CardValue) (before now : N) (H : Past)
      → slice_get scene.cards k ≡ Some card → slice_get old k ≡ Some before → slice_get new k ≡ Some now
      → slice_get histories k ≡ Some H
      → CardRan card (scene_turns scene.scripts) (state before) (state now) H (records k)
  pub others : OthersStand (length scene.cards) old new
