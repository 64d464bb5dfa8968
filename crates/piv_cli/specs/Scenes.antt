-- What `bench`, `run` and `make` do: a scene is run on devices, and a text of its run is written (this project's own).
use Rattle.std.specs.Prelude.{◌≡◌, ℕ, ◌+◌, List, [], ◌∷◌, Option, Some, IfSome, Ok}
use Rattle.piv_model.specs.declared.answers.ApiAnswer.{ApiAnswer}
use Rattle.piv_model.specs.Entries.{Past}
use Rattle.nvm_device.specs.Device.{DeviceState}
use Rattle.piv_rules.specs.Acts.{Records}
use Rattle.client_api.specs.Playing.{Move}
use Rattle.piv_scene.specs.GeneratedScene.{generated_scene}
use Rattle.piv_scene.specs.Outcomes.{outcome}
use Rattle.piv_scene.specs.SceneValues.{SceneValue}
use Rattle.script_runs.specs.Runs.{Run}
use Rattle.run_text.specs.RunTexts.{run_text}
use Rattle.run_text.specs.Summaries.{summary_text}
use Rattle.piv_bench.specs.Benched.{Benched}
use Rattle.piv_runners.specs.Together.{RanTogether}

-- ---- how a scene is run, with these answers and histories

-- step by step, in the order of its schedule
abbrev pub RanBySchedule : {N : Type 0} → (N → DeviceState) → List N → List N → SceneValue → List (List ApiAnswer)
    → List Past → Type 0
RanBySchedule state old new scene answers histories = (run : Run) × Benched state scene old new answers histories run

-- each script in a thread of its own
abbrev pub RanInThreads : {N : Type 0} → (N → DeviceState) → List N → List N → SceneValue → List (List ApiAnswer)
    → List Past → Type 0
RanInThreads state old new scene answers histories =
    (records : ℕ → Records) × (shares : ℕ → List Move)
    × RanTogether state scene old new answers histories records shares

-- ---- what is written

-- the bytes that a source has left, where it tells them, are those of this scene
abbrev pub SaysScene : Option (List ℕ) → SceneValue → Type 0
SaysScene left scene = IfSome left (λ bytes. outcome bytes ≡ Ok scene)

-- an input was answered with this output: it was read to its end, its scene was run so, and this is the text of the run
pub record SceneAnswered (Ran : SceneValue → List (List ApiAnswer) → List Past → Type 0)
    (left left_now : Option (List ℕ)) (out : List ℕ) : Type 0 where
  pub scene : SceneValue
  pub answers : List (List ApiAnswer)
  pub histories : List Past
  pub read : SaysScene left scene
  pub at_end : IfSome left (λ bytes. left_now ≡ Some [])
  pub ran : Ran scene answers histories
  pub text : out ≡ run_text scene answers histories

-- the scene that was made was run, and this is the summary of its card's history
pub record IsSummary {N : Type 0} (state : N → DeviceState) (n number : ℕ) (old new : List N) (out : List ℕ)
    : Type 0 where
  pub answers : List (List ApiAnswer)
  pub history : Past
  pub ran : RanBySchedule state old new (generated_scene n number) answers (history ∷ [])
  pub text : out ≡ summary_text (n + 8) history
