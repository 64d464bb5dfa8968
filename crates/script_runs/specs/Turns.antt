-- How many turns the scripts of a run make at most, and when no turn is answered Full (this project's own).
use Rattle.std.specs.Prelude.{◌≡◌, ℕ, ◌≤◌, ◌<◌, List, [], ◌∷◌, length, map, sum_by, Some, slice_get}
use Rattle.script_line.specs.declared.line.Line.{Line}
use Rattle.script_line.specs.Playable.{ArePlayable}
use Rattle.client_api.specs.Ports.{Log, records_of}
use Rattle.client_api.specs.Playing.{Had, NoTurn, Took, Filled, Move}
use Rattle.client_api.specs.Players.{line_turns}
use Rattle.script_runs.specs.Runs.{Run, Scripts}

-- the turns of all lines of all scripts at most
abbrev pub script_turns : List Line → ℕ
script_turns lines = sum_by line_turns lines

abbrev pub all_turns : Scripts → ℕ
all_turns scripts = sum_by script_turns scripts

abbrev pub AllPlayable : Scripts → Type 0
AllPlayable scripts = (k : ℕ) (lines : List Line) → slice_get scripts k ≡ Some lines → ArePlayable lines

-- the cards have these turns
abbrev pub HasTurns : ℕ → (ℕ → ℕ) → ℕ → Type 0
HasTurns cards turns most = (card : ℕ) → card < cards → most ≤ turns card

-- the port's own records are all that its cards have
abbrev pub OwnsAll : (Log → Type 0) → (ℕ → ℕ) → Type 0
OwnsAll stands seen = (log : Log) (card : ℕ) → stands log → seen card ≤ length (records_of card log)

-- ---- turns that were answered Full

abbrev pub WhereFilled : Had → Type 0 → Type 0
WhereFilled NoTurn cause = Unit {0}
WhereFilled (Took own) cause = Unit {0}
WhereFilled Filled cause = cause

abbrev pub moves_in : Run → List Move
moves_in run = map (λ t. t.move) run

-- a turn was answered Full only where all turns of its card are seen
abbrev pub FullHasCause : ℕ → (ℕ → ℕ) → (ℕ → ℕ) → List Move → Type 0
FullHasCause cards seen turns [] = Unit {0}
FullHasCause cards seen turns (m ∷ moves) =
    FullHasCause cards seen turns moves
    × WhereFilled m.had ((card : ℕ) × (card < cards) × (turns card ≤ seen card))

-- no turn was
abbrev pub NeverFull : List Move → Type 0
NeverFull [] = Unit {0}
NeverFull (m ∷ moves) = NeverFull moves × WhereFilled m.had ⊥
