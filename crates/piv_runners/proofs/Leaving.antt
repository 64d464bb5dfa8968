-- What stands on the devices after a run in threads.
use Rattle.std.proofs.Common.{◌≡◌, ℕ, List, [], ◌++◌, length, map, Result, Ok, IfOk, subst}
use Rattle.piv_model.specs.declared.answers.ApiAnswer.{ApiAnswer}
use Rattle.piv_model.specs.declared.store.Store.{Ghosts}
use Rattle.piv_model.specs.Entries.{Past}
use Rattle.nvm_device.specs.Device.{DeviceState}
use Rattle.piv_rules.specs.Acts.{Records}
use Rattle.block_store.specs.Blocks.{block_form}
use Rattle.block_store.specs.Devices.{OthersStand}
use Rattle.client_api.specs.Playing.{Move}
use Rattle.piv_scene.specs.SceneValues.{SceneValue}
use Rattle.card_cell.specs.declared.base.CellBase.{CellBase}
use Rattle.card_cell.specs.declared.cell.CardCell.{CardCell}
use Rattle.card_cell.specs.Cells.{history_of}
use Rattle.card_cell.specs.Holds.{IsHeld}
use Rattle.scene_cells.specs.Lowered.{AreLeft}
use Rattle.scene_cells.specs.Raised.{AreRaised, cell_bases}
use Rattle.scene_cells.specs.Turns.{scene_turns}
use Rattle.scene_runs.proofs.Standing.{are-left-by, cards-ran}
use Rattle.piv_runners.specs.Played.{AreLeftTogether, PlayedOver}
use Rattle.piv_runners.specs.Together.{RanTogether}

-- what holds of a value that was given
pub known : {A E : Type 0} (P : A → Type 0) (r : Result A E) (a : A) → r ≡ Ok a → IfOk r P → P a
known {A} {E} P r a is holds = subst (λ (x : Result A E). IfOk x P) is holds

-- cells that were played on were taken down
pub left-together : {N S T : Type 0} {meaning : Ghosts S T} (state : N → DeviceState) (device : CardCell S T meaning → N) (scene : SceneValue) (bases : List CellBase)
    (cells : List (CardCell S T meaning)) (answers : List (List ApiAnswer)) (records : ℕ → Records) (shares : ℕ → List Move)
    → PlayedOver scene bases cells answers records shares
    → AreLeft (λ cell base R. IsHeld block_form.put_cost cell base R) (λ cell. state (device cell)) cells
    → (devices rest : List N) (histories : List Past) → devices ≡ map device cells ++ rest → histories ≡ map (λ cell. history_of cell) cells ++ []
    → AreLeftTogether state scene bases devices answers histories records shares
left-together state device scene bases cells answers records shares played left devices rest histories devices_are histories_are = record {
  scripts = played.scripts;
  cards = are-left-by state device bases cells records played.held left devices rest histories devices_are histories_are;
}

-- the cells were those of the scene's cards
pub ran-together : {N S T : Type 0} {meaning : Ghosts S T} (state : N → DeviceState) (device : CardCell S T meaning → N) (scene : SceneValue)
    (before new : List N) (losses : List ℕ) (raised : List (CardCell S T meaning)) (answers : List (List ApiAnswer)) (histories : List Past)
    (records : ℕ → Records) (shares : ℕ → List Move)
    → AreRaised state device (scene_turns scene.scripts) scene.cards before losses raised
    → AreLeftTogether state scene (cell_bases (scene_turns scene.scripts) scene.cards losses) new answers histories records shares
    → OthersStand (length scene.cards) before new → RanTogether state scene before new answers histories records shares
ran-together state device scene before new losses raised answers histories records shares were left others = record {
  shared = left.scripts.shared;
  never_full = left.scripts.never_full;
  cards = cards-ran state device scene before new losses raised histories records were left.cards others;
}
