-- What a run of a scene did whose scripts ran in threads of their own (this project's own).
use Rattle.std.specs.Prelude.{◌<◌, ℕ, List, length}
use Rattle.piv_model.specs.declared.answers.ApiAnswer.{ApiAnswer}
use Rattle.piv_model.specs.Entries.{Past}
use Rattle.nvm_device.specs.Device.{DeviceState}
use Rattle.piv_rules.specs.Acts.{Records}
use Rattle.client_api.specs.Playing.{Move}
use Rattle.piv_scene.specs.SceneValues.{SceneValue}
use Rattle.scene_readers.specs.SceneNames.{names_of}
use Rattle.script_runs.specs.Shares.{SharesOut}
use Rattle.script_runs.specs.Turns.{NeverFull}
use Rattle.scene_runs.specs.CardRuns.{CardsRan, lines_of}

-- The scripts of a scene that ran in threads: they have shared out the records of all cards, each plays its share to
-- its end and has these answers, and no turn was answered Full; and what became of the cards and their devices.
pub record RanTogether {N : Type 0} (state : N → DeviceState) (scene : SceneValue) (old new : List N)
    (answers : List (List ApiAnswer)) (histories : List Past) (records : ℕ → Records) (shares : ℕ → List Move)
    : Type 0 where
  pub shared : SharesOut (names_of scene.cards) (lines_of scene.scripts) answers records shares
  pub never_full : (k : ℕ) → k < length scene.scripts → NeverFull (shares k)
  pub cards : CardsRan state scene old new histories records
