-- What a run of a scene did: its scripts, its cards, and the devices of these (this project's own).
use Rattle.std.specs.Prelude.{◌≡◌, ℕ, List, [], length, Some, IfSome, slice_get}
use Rattle.power_loss.specs.Plans.{write_numbers}
use Rattle.piv_model.specs.declared.answers.ApiAnswer.{ApiAnswer}
use Rattle.piv_model.specs.Entries.{Past}
use Rattle.nvm_device.specs.Device.{DeviceState}
use Rattle.piv_rules.specs.Acts.{entries}
use Rattle.piv_rules.specs.Plans.{ArePlanned}
use Rattle.block_store.specs.Blocks.{block_form}
use Rattle.client_api.specs.Ports.{ArePlaces, AreInside, records_of}
use Rattle.scene_cards.specs.CardValues.{CardValue}
use Rattle.piv_scene.specs.SceneValues.{SceneValue}
use Rattle.scene_readers.specs.SceneNames.{names_of}
use Rattle.card_cell.specs.Holds.{base_of}
use Rattle.script_runs.specs.Runs.{Answered, Run, Scheduled, log_of}
use Rattle.script_runs.specs.Turns.{NeverFull, moves_in}
use Rattle.scene_runs.specs.CardRuns.{CardsRan, lines_of}

-- The scripts made their steps in the order of the schedule and then in rounds, each to its end, and have these
-- answers; no turn was answered Full; and each turn stands at the next place of its card, which is one of the scene's.
pub record ScriptsRan (scene : SceneValue) (answers : List (List ApiAnswer)) (run : Run) : Type 0 where
  pub scheduled : Scheduled (names_of scene.cards) (lines_of scene.scripts) scene.schedule run
  pub answered : Answered (lines_of scene.scripts) answers run
  pub never_full : NeverFull (moves_in run)
  pub places : ArePlaces (log_of run)
  pub inside : AreInside (length scene.cards) (log_of run)

-- the scripts, each card on the device in its place, and the other devices
pub record Benched {N : Type 0} (state : N → DeviceState) (scene : SceneValue) (old new : List N)
    (answers : List (List ApiAnswer)) (histories : List Past) (run : Run) : Type 0 where
  pub scripts : ScriptsRan scene answers run
  pub cards : CardsRan state scene old new histories (λ k. records_of k (log_of run))
  -- a card's device that told that it never loses power lost the writes of the card's plan
  pub planned : (k : ℕ) (card : CardValue) (before now : N)
      → slice_get scene.cards k ≡ Some card → slice_get old k ≡ Some before → slice_get new k ≡ Some now
      → (state before).power.due ≡ Some [] → IfSome (state now).bytes (λ row. ArePlanned block_form.put_cost
      (base_of card.start) (write_numbers card.plan) (entries (records_of k (log_of run))))
