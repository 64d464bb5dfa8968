-- A script in a thread (this project's own).
use Rattle.std.specs.Prelude.{◌≡◌, Bool, false, List, length}
use Rattle.turnstile_rows.specs.Rows.{ArePassesOf}
use Rattle.script_line.specs.declared.line.Line.{Line}
use Rattle.client_api.specs.Readers.{Names}
use Rattle.client_api.specs.Playing.{Move}
use Rattle.client_api.specs.Players.{Played}
use Rattle.script_runs.specs.Alone.{PlaysAlone}
use Rattle.script_runs.specs.Progress.{begun}
use Rattle.client_threads.specs.Passes.{CellGate, CellPass, AreStill, StandsOwn, seen_at, turns_at}

-- its player is at the beginning, and it has the passes that were dealt
pub record IsHired (dealt : List CellPass) (player : Played) (passes : List CellPass) : Type 0 where
  pub begins : player ≡ begun player.lines
  pub passes_are : passes ≡ dealt

-- the script was played to its end by these steps, and what its passes own are the records of the steps
abbrev pub PlayedOver : Names → List CellGate → List Line → Played → List CellPass → List Move → Type 0
PlayedOver names gates lines player passes moves =
    PlaysAlone names lines player (StandsOwn passes) (length gates) (seen_at passes) (turns_at gates) moves

-- the passes come back, and unless memory was refused the script was played to its end
pub record HasPlayed (names : Names) (gates : List CellGate) (dealt : List CellPass) (lines : List Line)
    (player : Played) (passes : List CellPass) (refused : Bool) : Type 0 where
  pub own : ArePassesOf gates passes
  pub still : AreStill dealt passes
  pub played : refused ≡ false → (moves : List Move) × PlayedOver names gates lines player passes moves
