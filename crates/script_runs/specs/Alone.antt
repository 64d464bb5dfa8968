-- A script that is played by itself (this project's own).
use Rattle.std.specs.Prelude.{◌≡◌, ℕ, List}
use Rattle.script_line.specs.declared.line.Line.{Line}
use Rattle.client_api.specs.Ports.{Log}
use Rattle.client_api.specs.Readers.{Names}
use Rattle.client_api.specs.Playing.{Move, playing, Plays}
use Rattle.client_api.specs.Players.{Played}
use Rattle.script_runs.specs.Runs.{AreRising, HasEnded}
use Rattle.script_runs.specs.Turns.{FullHasCause}
use Rattle.script_runs.specs.Shares.{share_of}

-- The script was played to its end by these steps, over a port that stood for no records before: it stands for those of
-- the steps, whose places on each card rise.
pub record PlaysAlone (names : Names) (lines : List Line) (player : Played) (now : Log → Type 0) (cards : ℕ) (seen turns : ℕ → ℕ) (moves : List Move) : Type 0 where
  pub plays : Plays names lines moves
  pub ended : HasEnded lines moves
  pub answered : player.answers ≡ (playing lines moves).answers
  pub stands : now (share_of moves)
  pub rises : AreRising (share_of moves)
  pub full : FullHasCause cards seen turns moves
