-- What the scripts did on the cells of a scene, and what these left (this project's own).
use Rattle.std.specs.Prelude.{◌≡◌, ℕ, Bool, true, List, Some, IfSome, slice_get}
use Rattle.piv_model.specs.declared.answers.ApiAnswer.{ApiAnswer}
use Rattle.piv_model.specs.declared.store.Store.{Ghosts}
use Rattle.piv_model.specs.Entries.{Past}
use Rattle.nvm_device.specs.Device.{DeviceState}
use Rattle.piv_rules.specs.Acts.{entries}
use Rattle.piv_rules.specs.Plans.{ArePlanned}
use Rattle.block_store.specs.Blocks.{block_form}
use Rattle.client_api.specs.Ports.{records_of}
use Rattle.piv_scene.specs.SceneValues.{SceneValue}
use Rattle.card_cell.specs.declared.base.CellBase.{CellBase}
use Rattle.card_cell.specs.declared.cell.CardCell.{CardCell}
use Rattle.card_cell.specs.Holds.{base_of}
use Rattle.script_runs.specs.Runs.{Run, log_of}
use Rattle.cell_port.specs.Owned.{HoldAll, TellAs}
use Rattle.scene_runs.specs.CardRuns.{AreLeftBy}
use Rattle.piv_bench.specs.Benched.{ScriptsRan}

-- the scripts ran, each cell holds the records of its card, and its store tells when losses are due where it did so
pub record PlayedOn {S T : Type 0} {meaning : Ghosts S T} (scene : SceneValue) (answers : List (List ApiAnswer))
    (bases : List CellBase) (tells : List Bool) (cells : List (CardCell S T meaning)) (run : Run) : Type 0 where
  pub scripts : ScriptsRan scene answers run
  pub held : HoldAll block_form.put_cost cells bases (λ k. records_of k (log_of run))
  pub told : TellAs tells cells

-- The scripts ran, and the cards and their devices are left by that. Where a card's store told when losses are due,
-- they were those of the plan.
pub record AreLeftAsPlanned {N : Type 0} (state : N → DeviceState) (scene : SceneValue) (bases : List CellBase)
    (tells : List Bool) (devices : List N) (answers : List (List ApiAnswer)) (histories : List Past)
    (run : Run) : Type 0 where
  pub scripts : ScriptsRan scene answers run
  pub cards : AreLeftBy state bases devices histories (λ k. records_of k (log_of run))
  pub planned : (k : ℕ) (base : CellBase) (now : N)
      → slice_get bases k ≡ Some base → slice_get tells k ≡ Some true → slice_get devices k ≡ Some now
      → IfSome (state now).bytes (λ row.
      ArePlanned block_form.put_cost (base_of base.start) base.plan (entries (records_of k (log_of run))))
