-- What the passes have after all scripts were played (this project's own).
use Rattle.std.specs.Prelude.{◌≡◌, ℕ, List, length, map, Some, slice_get}
use Rattle.turnstile_rows.specs.Gathered.{HasAll}
use Rattle.piv_model.specs.declared.answers.ApiAnswer.{ApiAnswer}
use Rattle.script_line.specs.declared.line.Line.{Line}
use Rattle.client_api.specs.Readers.{Names}
use Rattle.client_api.specs.Playing.{Move}
use Rattle.client_api.specs.Players.{Played}
use Rattle.script_runs.specs.Runs.{Scripts}
use Rattle.client_threads.specs.Passes.{CellGate, CellPass}
use Rattle.threaded_runs.specs.Workers.{PlayedOver}

-- Each script was played to its end over a row of passes, and has these answers. The first pass of each card has what
-- all rows have
pub record AreShared (names : Names) (scripts : Scripts) (gates : List CellGate) (firsts : List CellPass)
    (answers : List (List ApiAnswer)) : Type 0 where
  pub rows : List (List CellPass)
  pub players : List Played
  pub shares : List (List Move)
  pub rows_many : length rows ≡ length scripts
  pub players_many : length players ≡ length scripts
  pub shares_many : length shares ≡ length scripts
  pub row_long : (k : ℕ) (row : List CellPass) → slice_get rows k ≡ Some row → length row ≡ length gates
  pub plays : (k : ℕ) (lines : List Line) (player : Played) (row : List CellPass) (moves : List Move)
      → slice_get scripts k ≡ Some lines → slice_get players k ≡ Some player → slice_get rows k ≡ Some row
      → slice_get shares k ≡ Some moves → PlayedOver names gates lines player row moves
  pub answered : answers ≡ map (λ p. p.answers) players
  pub gathered : (card : ℕ) (first : CellPass) → slice_get firsts card ≡ Some first → HasAll rows card first
