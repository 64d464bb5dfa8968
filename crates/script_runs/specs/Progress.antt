-- What the players and the port stand for, in the middle of the scheduled run (this project's own).
use Rattle.std.specs.Prelude.{◌≡◌, ◌∷◌, ◌++◌, ℕ, ◌<◌, [], Bool, List, length, map, None, Some, slice_get, sum_by, MatchBool}
use Rattle.std.specs.Bool.{OnFalse}
use Rattle.piv_model.specs.declared.answers.ApiAnswer.{ApiAnswer}
use Rattle.script_line.specs.declared.line.Line.{Line}
use Rattle.client_api.specs.Ports.{Log}
use Rattle.client_api.specs.Readers.{Names}
use Rattle.client_api.specs.Playing.{playing}
use Rattle.client_api.specs.Players.{Played, IsPlaying, IsReady, steps_left}
use Rattle.script_runs.specs.Runs.{AllEnded, AllPlay, Answered, AreRising, Follows, HasEnded, Run, Scheduled, Scripts, log_of, moves_of, rounds}
use Rattle.script_runs.specs.Turns.{AllPlayable, all_turns, HasTurns, OwnsAll, moves_in, FullHasCause, NeverFull}

-- ---- players

-- a player at the beginning of a script
abbrev pub begun : List Line → Played
begun lines = record { lines = lines; answers = []; handles = []; call = None }

abbrev pub scripts_of : List Played → Scripts
scripts_of players = map (λ p. p.lines) players

abbrev pub answers_of : List Played → List (List ApiAnswer)
answers_of players = map (λ p. p.answers) players

abbrev pub AreBegun : List Played → Type 0
AreBegun players = players ≡ map begun (scripts_of players)

abbrev pub AllReady : ℕ → List Played → Type 0
AllReady cards players = (k : ℕ) (p : Played) → slice_get players k ≡ Some p → IsReady cards p

-- the steps that the players have left
abbrev pub all_left : List Played → ℕ
all_left players = sum_by steps_left players

-- ---- the run so far

-- a port after a run: its own records are those of the run
pub record PortAt (now : Log → Type 0) (cards : ℕ) (seen turns : ℕ → ℕ) (run : Run) : Type 0 where
  pub stands : now (log_of run)
  pub rises : AreRising (log_of run)
  pub full : FullHasCause cards seen turns (moves_in run)

-- the players are where the run has brought their scripts, in the order of these names
pub record StandFor (names : Names) (scripts : Scripts) (order : List ℕ) (players : List Played) (run : Run) : Type 0 where
  pub theirs : scripts_of players ≡ scripts
  pub follows : Follows scripts order run
  pub plays : AllPlay names scripts run
  pub playing_on : (k : ℕ) (p : Played) → slice_get players k ≡ Some p → IsPlaying p (playing p.lines (moves_of k run))

-- a run that goes on by the steps of these names
abbrev pub GoesOn : Names → Scripts → List ℕ → List Played → (Run → Type 0) → Type 0
GoesOn names scripts order players port = (run : Run) × StandFor names scripts order players run × port run

-- a step of script k, or none where it had ended
abbrev pub StepOne : Bool → Names → Scripts → ℕ → List ℕ → List Played → (Run → Type 0) → Run → Type 0
StepOne more names scripts k order players port run =
    MatchBool more (GoesOn names scripts (k ∷ order) players port)
    (StandFor names scripts (k ∷ order) players run × port run
    × ((lines : List Line) → slice_get scripts k ≡ Some lines → HasEnded lines (moves_of k run)))

-- the scripts before place n have ended
abbrev pub EndedBelow : Scripts → ℕ → Run → Type 0
EndedBelow scripts n run =
    (k : ℕ) (lines : List Line) → k < n → slice_get scripts k ≡ Some lines → HasEnded lines (moves_of k run)

-- a round of all scripts; false where all had ended
abbrev pub Rounded : Bool → Names → Scripts → List ℕ → List Played → (Run → Type 0) → Type 0
Rounded more names scripts order players port =
    (run : Run) × StandFor names scripts order players run × port run × OnFalse more (AllEnded scripts run)

-- rounds of all scripts until all have ended
abbrev pub EndsIn : Names → Scripts → List ℕ → List Played → (Run → Type 0) → Type 0
EndsIn names scripts order players port =
    (times : ℕ) × (run : Run) × StandFor names scripts (rounds (length scripts) times ++ order) players run × port run
    × AllEnded scripts run

-- ---- the whole run

-- the cards of the port have no other records than its own, and turns for all lines
pub record HasRoom (stands : Log → Type 0) (cards : ℕ) (seen turns : ℕ → ℕ) (scripts : Scripts) : Type 0 where
  pub owns : OwnsAll stands seen
  pub turns_of : HasTurns cards turns (all_turns scripts)
  pub playable : AllPlayable scripts

-- the scheduled run, the answers that the players have of it, and the port after it
pub record Ran (names : Names) (scripts : Scripts) (schedule : List ℕ) (players : List Played) (port : Run → Type 0) (room : Type 0) (run : Run) : Type 0 where
  pub scheduled : Scheduled names scripts schedule run
  pub answered : Answered scripts (answers_of players) run
  pub port_at : port run
  pub never_full : room → NeverFull (moves_in run)
