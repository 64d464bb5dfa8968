-- Laws of the tables (this project's own).
use Rattle.std.specs.Prelude.{◌≡◌, ℕ, ◌<◌, List, length, Some, IsSome}
use Rattle.script_line.specs.declared.line.Line.{Line}
use Rattle.script_line.specs.Playable.{IsPlayable}
use Rattle.client_api.specs.Calls.{Asked, Call, Replies, sends}
use Rattle.client_api.specs.Steps.{most_turns}
use Rattle.client_api.specs.Readers.{Names}
use Rattle.client_api.specs.Playing.{NamedHandle, IsCall, wanted}
use Rattle.client_api.specs.Players.{AreHandlesOn, AreNamesOn, line_turns}

-- a call that has a further turn has had fewer than its turns
abbrev pub CallsEnd : Type 0
CallsEnd = (call : Call) (replies : Replies) → IsSome (sends call replies) → length replies < most_turns call

-- and fewer than those of its line
abbrev pub LinesEnd : Type 0
LinesEnd =
    (names : Names) (handles : List NamedHandle) (line : Line) (call : Call) (replies : Replies)
    → IsPlayable line → IsCall (wanted names handles line) call → IsSome (sends call replies)
    → length replies < line_turns line

-- a line has one call
abbrev pub LinesHaveOneCall : Type 0
LinesHaveOneCall =
    (names : Names) (handles : List NamedHandle) (line : Line) (a b : Call)
    → IsCall (wanted names handles line) a → IsCall (wanted names handles line) b → a ≡ b

-- the acts of a line's call are on the cards of the readers and the handles
abbrev pub CallsStayOnCards : Type 0
CallsStayOnCards =
    (cards : ℕ) (names : Names) (handles : List NamedHandle) (line : Line) (call : Call) (replies : Replies) (x : Asked)
    → AreNamesOn cards names → AreHandlesOn cards handles → IsCall (wanted names handles line) call
    → sends call replies ≡ Some x → x.card < cards
