-- Laws of runs (this project's own).
use Rattle.std.specs.Prelude.{List}
use Rattle.piv_model.specs.declared.answers.ApiAnswer.{ApiAnswer}
use Rattle.client_api.specs.Ports.{records_of}
use Rattle.piv_scene.specs.SceneValues.{SceneValue}
use Rattle.scene_readers.specs.SceneNames.{names_of}
use Rattle.script_runs.specs.Runs.{Run, log_of, moves_of}
use Rattle.script_runs.specs.Shares.{SharesOut}
use Rattle.scene_runs.specs.CardRuns.{lines_of}
use Rattle.piv_bench.specs.Benched.{ScriptsRan}

-- a run of a scene's scripts is a sharing-out of the records of its cards
abbrev pub RunsShareOut : Type 0
RunsShareOut =
    (scene : SceneValue) (answers : List (List ApiAnswer)) (run : Run) → ScriptsRan scene answers run
    → SharesOut (names_of scene.cards) (lines_of scene.scripts) answers
    (λ card. records_of card (log_of run)) (λ k. moves_of k run)
