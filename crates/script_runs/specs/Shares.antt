-- A sharing-out of a run: which records of the cards each script has made (this project's own).
use Rattle.std.specs.Prelude.{◌≡◌, ◌⊎◌, ℕ, ◌<◌, List, [], ◌∷◌, length, reverse, IfSome, Option, Some, None, slice_get}
use Rattle.piv_model.specs.declared.answers.ApiAnswer.{ApiAnswer}
use Rattle.script_line.specs.declared.line.Line.{Line}
use Rattle.piv_rules.specs.Acts.{CardAct, CardRecord, Records}
use Rattle.piv_rules.specs.Acts as acts
use Rattle.client_api.specs.Ports.{Log}
use Rattle.client_api.specs.Readers.{Names}
use Rattle.client_api.specs.Playing.{Move, playing, Plays, with_own}
use Rattle.script_runs.specs.Runs.{AreRising, HasEnded, Scripts}

-- the share of a script: the own records of its steps, the newest first
abbrev pub share_of : List Move → Log
share_of [] = []
share_of (m ∷ moves) = with_own m.had (share_of moves)

-- a card's record at a place, counted from the oldest
abbrev pub record_at : Records → ℕ → Option CardRecord
record_at records place = slice_get (reverse records) place

-- each own record is the one at its place of its card
abbrev pub AreThere : (ℕ → Records) → Log → Type 0
AreThere records [] = Unit {0}
AreThere records (o ∷ log) = AreThere records log × (record_at (records o.card) o.place ≡ Some o.did)

-- this place of this card is in a share
abbrev pub Has : Log → ℕ → ℕ → Type 0
Has [] card place = ⊥
Has (o ∷ log) card place = ((o.card ≡ card) × (o.place ≡ place)) ⊎ Has log card place

-- ---- the connections of a script

-- the connection that an act names
abbrev pub connection_of : CardAct → Option ℕ
connection_of (acts.Disconnect c) = Some c
connection_of (acts.Exchange c epoch bytes) = Some c
connection_of _ = None

-- a connect among these records opened this connection of this card
abbrev pub HasOpened : Log → ℕ → ℕ → Type 0
HasOpened [] card c = ⊥
HasOpened (o ∷ log) card c =
    ((o.card ≡ card) × (epoch : ℕ) × (o.did.answer ≡ acts.Connected c epoch)) ⊎ HasOpened log card c

-- each record that names a connection stands behind the connect that opened it
abbrev pub UsesItsOwn : Log → Type 0
UsesItsOwn [] = Unit {0}
UsesItsOwn (o ∷ log) = UsesItsOwn log × IfSome (connection_of o.did.act) (HasOpened log o.card)

-- ---- shares

-- a script plays its share to its end, and has these answers of it
pub record PlaysOut (names : Names) (lines : List Line) (answers : List ApiAnswer) (records : ℕ → Records) (moves : List Move) : Type 0 where
  pub plays : Plays names lines moves
  pub ended : HasEnded lines moves
  pub answered : answers ≡ (playing lines moves).answers
  pub rises : AreRising (share_of moves)
  pub are_there : AreThere records (share_of moves)
  pub uses_its_own : UsesItsOwn (share_of moves)

-- the script whose share has a place
pub record IsTaker (count : ℕ) (shares : ℕ → List Move) (card place k : ℕ) : Type 0 where
  pub is_script : k < count
  pub has : Has (share_of (shares k)) card place

-- each script plays its share to its end, and each place of each card is in exactly one script's share
pub record SharesOut (names : Names) (scripts : Scripts) (answers : List (List ApiAnswer)) (records : ℕ → Records) (shares : ℕ → List Move) : Type 0 where
  pub many : length answers ≡ length scripts
  pub each : (k : ℕ) (lines : List Line) (given : List ApiAnswer)
      → slice_get scripts k ≡ Some lines → slice_get answers k ≡ Some given
      → PlaysOut names lines given records (shares k)
  pub one_taker : (card place : ℕ) → place < length (records card)
      → (k : ℕ) × IsTaker (length scripts) shares card place k
      × ((j : ℕ) → IsTaker (length scripts) shares card place j → j ≡ k)
