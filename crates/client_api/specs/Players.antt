-- What a player stands for, and what a step of it does (this project's own).
use Rattle.std.specs.Prelude.{◌≡◌, ℕ, ◌+◌, ◌<◌, ◌≤◌, suc, Bool, true, List, [], ◌∷◌, ◌++◌, length, drop, Option, Some, None, IsSome, IfSome, MatchOption, MatchBool, slice_get}
use Rattle.std.specs.List.{AllByRecursion}
use Rattle.piv_model.specs.declared.answers.ApiAnswer.{ApiAnswer}
use Rattle.script_line.specs.declared.line.Line.{Line}
use Rattle.script_line.specs.declared.line.Line.TheVariants as line
use Rattle.client_api.specs.declared.call.Step.{Step}
use Rattle.client_api.specs.declared.call.Step.TheVariants as step
use Rattle.client_api.specs.Calls.{Call, Asked, sends}
use Rattle.client_api.specs.Machine.{Going, start}
use Rattle.client_api.specs.Steps.{IsAt, IsOn, left}
use Rattle.client_api.specs.Makers.{LogsIn}
use Rattle.client_api.specs.Ports.{Log, IsAbove}
use Rattle.client_api.specs.Readers.{Names, AreReadersOn}
use Rattle.client_api.specs.Playing.{NamedHandle, kept, name_of, Wanted, Is, ALogin, IsCall, wanted, Playing, Had, NoTurn, Took, Filled, Move, moved, Fits, with_own}

-- a player: its lines, its answers and handles so far, and the call in progress
pub record Played : Type 0 where
  pub lines : List Line
  pub answers : List ApiAnswer
  pub handles : List NamedHandle
  pub call : Option Going

-- ---- what it stands for

-- the call in progress is that of the script's line, whatever readers there are, and has a further turn
pub record IsBusy (lines : List Line) (at : Playing) (going : Going) : Type 0 where
  pub line : Line
  pub line_is : slice_get lines (length at.answers) ≡ Some line
  pub call : Call
  pub of_line : (names : Names) → IsCall (wanted names at.handles line) call
  pub is_at : IsAt going call at.replies
  pub more : IsSome (sends call at.replies)

pub record IsPlaying (p : Played) (at : Playing) : Type 0 where
  pub answers : p.answers ≡ at.answers
  pub handles : p.handles ≡ at.handles
  pub call : MatchOption p.call (at.replies ≡ []) (λ going. IsBusy p.lines at going)

-- ---- the cards that it may turn to are the port's

abbrev pub AreHandlesOn : ℕ → List NamedHandle → Type 0
AreHandlesOn cards handles = AllByRecursion (λ x. x.handle.card < cards) handles

pub record IsReady (cards : ℕ) (p : Played) : Type 0 where
  pub handles : AreHandlesOn cards p.handles
  pub call : IfSome p.call (IsOn cards)

pub record AreNamesOn (cards : ℕ) (names : Names) : Type 0 where
  pub readers : AreReadersOn cards names.readers
  pub cards_named : AllByRecursion (λ c. c.card < cards) names.cards

-- ---- a step

-- what a step with an own record adds: its place is above all earlier ones of its card
abbrev pub IsNewest : Had → Log → Type 0
IsNewest NoTurn log = Unit {0}
IsNewest (Took own) log = IsAbove own.card own.place log
IsNewest Filled log = Unit {0}

-- a turn was answered Full only where all turns of its card are seen
abbrev pub HasCause : (ℕ → ℕ) → (ℕ → ℕ) → Had → Option Asked → Type 0
HasCause seen turns NoTurn asked = Unit {0}
HasCause seen turns (Took own) asked = Unit {0}
HasCause seen turns Filled None = Unit {0}
HasCause seen turns Filled (Some x) = seen x.card ≡ turns x.card

-- the player plays on by a step that fits
pub record Moved (names : Names) (at : Playing) (new : Played) (now : Log → Type 0) (seen turns : ℕ → ℕ) (log : Log) (m : Move) : Type 0 where
  pub fits : Fits names new.lines at m
  pub plays : IsPlaying new (moved new.lines at m)
  pub stands : now (with_own m.had log)
  pub newest : IsNewest m.had log
  pub cause : HasCause seen turns m.had (sends m.call at.replies)

-- true: a step; false: the script had ended, and nothing was done
abbrev pub PlayerStepped : Bool → Names → Playing → Played → (Log → Type 0) → (ℕ → ℕ) → (ℕ → ℕ) → Log → Type 0
PlayerStepped more names at new now seen turns log =
    MatchBool more ((m : Move) × Moved names at new now seen turns log m)
    ((length at.answers ≡ length new.lines) × IsPlaying new at × now log)

-- ---- how many steps are left

-- the turns of a line at most
abbrev pub line_turns : Line → ℕ
line_turns (line.Login h auth) = 8
line_turns (line.Logout h) = 3
line_turns (line.Get h oid) = 65
line_turns (line.PutHex h oid value) = 65
line_turns (line.PutFill h oid size fill) = 65
line_turns (line.Admin h algorithm key) = 2
line_turns line.Version = 0
line_turns line.Generate = 0
line_turns line.Secure = 0
line_turns _ = 1

-- one more than its turns for each line
abbrev pub steps_of : List Line → ℕ
steps_of [] = 0
steps_of (l ∷ lines) = suc (line_turns l) + steps_of lines

-- those of the lines after the next one
abbrev pub steps_later : Played → ℕ
steps_later p = steps_of (drop (suc (length p.answers)) p.lines)

abbrev pub steps_with : Option Going → Played → ℕ
steps_with None p = steps_of (drop (length p.answers) p.lines)
steps_with (Some going) p = suc (left going) + steps_later p

abbrev pub steps_left : Played → ℕ
steps_left p = steps_with p.call p

-- ---- for the code

-- a call that was made for a line
abbrev pub Starts : Wanted → Going → Type 0
Starts (Is made) going = going ≡ start made
Starts (ALogin h auth) going = (call : Call) × LogsIn h auth call × (going ≡ start call)

-- the call of the next line, as far as it is
pub record IsNext (names : Names) (p : Played) (at : Playing) (going : Going) : Type 0 where
  pub line : Line
  pub line_is : slice_get p.lines (length at.answers) ≡ Some line
  pub call : Call
  pub of_line : IsCall (wanted names at.handles line) call
  pub is_at : IsAt going call at.replies

-- the name of the handle of the next line
abbrev pub line_name : Option Line → List ℕ
line_name None = []
line_name (Some line) = name_of line

-- a player after a step of its call
abbrev pub closed : Played → Going → Step → Played
closed p going step.More = record p { call = Some going }
closed p going (step.Done answer handle) = record p {
  answers = p.answers ++ answer ∷ [];
  handles = kept p.handles (line_name (slice_get p.lines (length p.answers))) handle;
  call = None;
}
