-- A run of scripts in threads (this project's own).
use Rattle.std.specs.Prelude.{◌<◌, ℕ, List, length, Option, Some, None, slice_get}
use Rattle.piv_model.specs.declared.store.Store.{Ghosts}
use Rattle.piv_model.specs.declared.answers.ApiAnswer.{ApiAnswer}
use Rattle.piv_rules.specs.Acts.{Records}
use Rattle.client_api.specs.Readers.{Names}
use Rattle.client_api.specs.Playing.{Move}
use Rattle.card_cell.specs.declared.base.CellBase.{CellBase}
use Rattle.card_cell.specs.declared.cell.CardCell.{CardCell}
use Rattle.script_runs.specs.Runs.{Scripts}
use Rattle.script_runs.specs.Shares.{SharesOut}
use Rattle.script_runs.specs.Turns.{AllPlayable, HasTurns, NeverFull, all_turns}
use Rattle.cell_port.specs.Owned.{HoldAll}

-- the turns of a card
abbrev pub turns_with : Option CellBase → ℕ
turns_with None = 0
turns_with (Some base) = base.turns

abbrev pub card_turns : List CellBase → ℕ → ℕ
card_turns bases card = turns_with (slice_get bases card)

-- Each cell holds the records of its card, which the scripts have shared out among them. Where each card has turns for
-- all lines, no turn was answered Full
pub record RanAtOnce {S T : Type 0} {meaning : Ghosts S T} (put_cost : ℕ → ℕ) (names : Names) (scripts : Scripts)
    (bases : List CellBase) (cells : List (CardCell S T meaning)) (answers : List (List ApiAnswer))
    (records : ℕ → Records) (shares : ℕ → List Move) : Type 0 where
  pub held : HoldAll put_cost cells bases records
  pub shared : SharesOut names scripts answers records shares
  pub never_full : AllPlayable scripts → HasTurns (length bases) (card_turns bases) (all_turns scripts)
      → (k : ℕ) → k < length scripts → NeverFull (shares k)

-- so there are records and shares
abbrev pub HasRun : {S T : Type 0} {meaning : Ghosts S T} → (ℕ → ℕ) → Names → Scripts → List CellBase
    → List (CardCell S T meaning) → List (List ApiAnswer) → Type 0
HasRun put_cost names scripts bases cells answers =
    (records : ℕ → Records) × (shares : ℕ → List Move)
    × RanAtOnce put_cost names scripts bases cells answers records shares

-- the cells hold some records, after a run that was refused memory
abbrev pub StillHold : {S T : Type 0} {meaning : Ghosts S T} → (ℕ → ℕ) → List CellBase
    → List (CardCell S T meaning) → Type 0
StillHold put_cost bases cells = (records : ℕ → Records) × HoldAll put_cost cells bases records
