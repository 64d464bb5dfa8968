-- Laws of runs (this project's own).
use Rattle.std.specs.Prelude.{◌≡◌, ◌<◌, ℕ, List, length, Some, slice_get}
use Rattle.piv_model.specs.declared.answers.ApiAnswer.{ApiAnswer}
use Rattle.script_line.specs.declared.line.Line.{Line}
use Rattle.piv_rules.specs.Acts.{Records}
use Rattle.client_api.specs.Ports.{records_of, ArePlaces}
use Rattle.client_api.specs.Readers.{Names}
use Rattle.client_api.specs.Playing.{Move, Plays}
use Rattle.script_runs.specs.Runs.{Answered, Run, Scheduled, Scripts, log_of, moves_of}
use Rattle.script_runs.specs.Turns.{AllPlayable, FullHasCause, HasTurns, NeverFull, all_turns}
use Rattle.script_runs.specs.Shares.{IsTaker, SharesOut, UsesItsOwn, share_of}

-- a scheduled run is a sharing-out of the records of its cards
abbrev pub ScheduledRunsShareOut : Type 0
ScheduledRunsShareOut =
    (names : Names) (scripts : Scripts) (schedule : List ℕ) (answers : List (List ApiAnswer)) (run : Run)
    → Scheduled names scripts schedule run → Answered scripts answers run → ArePlaces (log_of run)
    → SharesOut names scripts answers (λ card. records_of card (log_of run)) (λ k. moves_of k run)

-- a script's handles come from its own connects alone
abbrev pub ScriptsUseTheirOwn : Type 0
ScriptsUseTheirOwn =
    (names : Names) (lines : List Line) (moves : List Move) → Plays names lines moves → UsesItsOwn (share_of moves)

-- where the shares have all records of the cards, and the cards turns for all lines, no turn is answered Full
abbrev pub SharesNeverFill : Type 0
SharesNeverFill =
    (names : Names) (scripts : Scripts) (records : ℕ → Records) (shares : ℕ → List Move) (cards : ℕ) (turns : ℕ → ℕ)
    → AllPlayable scripts
    → ((k : ℕ) (lines : List Line) → slice_get scripts k ≡ Some lines → Plays names lines (shares k))
    → ((card place : ℕ) → place < length (records card) → (k : ℕ) × IsTaker (length scripts) shares card place k)
    → HasTurns cards turns (all_turns scripts)
    → (k : ℕ) → k < length scripts → FullHasCause cards (λ card. length (records card)) turns (shares k)
    → NeverFull (shares k)
