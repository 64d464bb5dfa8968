-- The scheduled run of scripts: the steps of all scripts in one list, the newest first (this project's own).
use Rattle.std.specs.Prelude.{◌≡◌, ◌⊎◌, ◌==◌, ℕ, zero, suc, List, [], ◌∷◌, ◌++◌, length, reverse, Some, slice_get, if◌then◌else◌}
use Rattle.piv_model.specs.declared.answers.ApiAnswer.{ApiAnswer}
use Rattle.script_line.specs.declared.line.Line.{Line}
use Rattle.client_api.specs.Ports.{Log, IsAbove}
use Rattle.client_api.specs.Readers.{Names}
use Rattle.client_api.specs.Playing.{Move, playing, Plays, with_own}

-- a step, and the place of the script that made it
pub record Turn : Type 0 where
  pub script : ℕ
  pub move : Move

abbrev pub Run : Type 0
Run = List Turn

-- the steps of one script
abbrev pub moves_of : ℕ → Run → List Move
moves_of k [] = []
moves_of k (t ∷ run) = if t.script == k then t.move ∷ moves_of k run else moves_of k run

-- the own records of all scripts, each with its card and its place
abbrev pub log_of : Run → Log
log_of [] = []
log_of (t ∷ run) = with_own t.move.had (log_of run)

-- the places of each card's records rise
abbrev pub AreRising : Log → Type 0
AreRising [] = Unit {0}
AreRising (o ∷ log) = AreRising log × IsAbove o.card o.place log

-- ---- the scripts

-- each by its lines
abbrev pub Scripts : Type 0
Scripts = List (List Line)

-- a script has an answer for each line
abbrev pub HasEnded : List Line → List Move → Type 0
HasEnded lines moves = length (playing lines moves).answers ≡ length lines

abbrev pub AllEnded : Scripts → Run → Type 0
AllEnded scripts run =
    (k : ℕ) (lines : List Line) → slice_get scripts k ≡ Some lines → HasEnded lines (moves_of k run)

-- each script plays its steps
abbrev pub AllPlay : Names → Scripts → Run → Type 0
AllPlay names scripts run =
    (k : ℕ) (lines : List Line) → slice_get scripts k ≡ Some lines → Plays names lines (moves_of k run)

-- the answers are those of the scripts, in their order
pub record Answered (scripts : Scripts) (answers : List (List ApiAnswer)) (run : Run) : Type 0 where
  pub many : length answers ≡ length scripts
  pub each : (k : ℕ) (lines : List Line) → slice_get scripts k ≡ Some lines
      → slice_get answers k ≡ Some (playing lines (moves_of k run)).answers

-- ---- the order of the steps

-- the scripts that were named, the newest first, made one step each; a script that had ended made none
abbrev pub Follows : Scripts → List ℕ → Run → Type 0
Follows scripts [] run = run ≡ []
Follows scripts (k ∷ order) run =
    (lines : List Line) × (slice_get scripts k ≡ Some lines)
    × ((HasEnded lines (moves_of k run) × Follows scripts order run)
    ⊎ ((m : Move) × (before : Run) × (run ≡ record { script = k; move = m } ∷ before) × Follows scripts order before))

-- each script once, in their order from the first on; the newest name is the first
abbrev pub round : ℕ → List ℕ
round zero = []
round (suc count) = count ∷ round count

abbrev pub rounds : ℕ → ℕ → List ℕ
rounds count zero = []
rounds count (suc times) = round count ++ rounds count times

-- the run follows the schedule and then goes round until all scripts have ended
pub record Scheduled (names : Names) (scripts : Scripts) (schedule : List ℕ) (run : Run) : Type 0 where
  pub times : ℕ
  pub follows : Follows scripts (rounds (length scripts) times ++ reverse schedule) run
  pub plays : AllPlay names scripts run
  pub ended : AllEnded scripts run
