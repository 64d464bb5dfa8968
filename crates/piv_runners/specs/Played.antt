-- What scripts in threads did on the cells of a scene, and what these left (this project's own).
use Rattle.std.specs.Prelude.{◌<◌, ℕ, List, length}
use Rattle.piv_model.specs.declared.answers.ApiAnswer.{ApiAnswer}
use Rattle.piv_model.specs.declared.store.Store.{Ghosts}
use Rattle.piv_model.specs.Entries.{Past}
use Rattle.nvm_device.specs.Device.{DeviceState}
use Rattle.piv_rules.specs.Acts.{Records}
use Rattle.block_store.specs.Blocks.{block_form}
use Rattle.client_api.specs.Playing.{Move}
use Rattle.piv_scene.specs.SceneValues.{SceneValue}
use Rattle.scene_readers.specs.SceneNames.{names_of}
use Rattle.card_cell.specs.declared.base.CellBase.{CellBase}
use Rattle.card_cell.specs.declared.cell.CardCell.{CardCell}
use Rattle.script_runs.specs.Shares.{SharesOut}
use Rattle.script_runs.specs.Turns.{NeverFull}
use Rattle.cell_port.specs.Owned.{HoldAll}
use Rattle.scene_runs.specs.CardRuns.{AreLeftBy, lines_of}

-- the scripts have shared out the records of all cards, each plays its share to its end, and no turn was answered Full
pub record ScriptsShared (scene : SceneValue) (answers : List (List ApiAnswer)) (records : ℕ → Records)
    (shares : ℕ → List Move) : Type 0 where
  pub shared : SharesOut (names_of scene.cards) (lines_of scene.scripts) answers records shares
  pub never_full : (k : ℕ) → k < length scene.scripts → NeverFull (shares k)

-- each cell holds the records of its card
pub record PlayedOver {S T : Type 0} {meaning : Ghosts S T} (scene : SceneValue) (bases : List CellBase)
    (cells : List (CardCell S T meaning)) (answers : List (List ApiAnswer)) (records : ℕ → Records)
    (shares : ℕ → List Move) : Type 0 where
  pub scripts : ScriptsShared scene answers records shares
  pub held : HoldAll block_form.put_cost cells bases records

-- the cards and their devices are left by their records
pub record AreLeftTogether {N : Type 0} (state : N → DeviceState) (scene : SceneValue) (bases : List CellBase)
    (devices : List N) (answers : List (List ApiAnswer)) (histories : List Past) (records : ℕ → Records)
    (shares : ℕ → List Move) : Type 0 where
  pub scripts : ScriptsShared scene answers records shares
  pub cards : AreLeftBy state bases devices histories records
