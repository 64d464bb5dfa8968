-- How a script is played: its lines' calls, one after the other, and each call's replies (this project's own).
use Rattle.std.specs.Prelude.{◌≡◌, ℕ, List, [], ◌∷◌, ◌++◌, length, Option, Some, None, is_some, IsSome, slice_get, if◌then◌else◌, replicate}
use Rattle.std.specs.Str.{bytes_eq}
use Rattle.piv_model.specs.declared.kinds.Interface.{Interface}
use Rattle.piv_model.specs.declared.answers.ApiAnswer.{ApiAnswer}
use Rattle.piv_model.specs.declared.answers.ApiAnswer.TheVariants as api
use Rattle.script_line.specs.declared.line.Line.{Line}
use Rattle.script_line.specs.declared.line.Line.TheVariants as line
use Rattle.piv_rules.specs.Acts.{CardAct}
use Rattle.piv_rules.specs.Acts as acts
use Rattle.client_api.specs.Calls.{Handle, Call, Decided, Disconnect, Select, LogOut, Crypt, Admin, Transmit, Switch, Replies, sends}
use Rattle.client_api.specs.Answers.{api_answer, handle_after}
use Rattle.client_api.specs.Makers.{LogsIn, connect_to, get_of, put_of}
use Rattle.client_api.specs.Ports.{Own, Log}
use Rattle.client_api.specs.Readers.{Names, reader_of, card_of}

-- ---- the handles of a script

pub record NamedHandle : Type 0 where
  pub name : List ℕ
  pub handle : Handle

-- the newest handle under a name; the newest one is the first
abbrev pub handle_named : List NamedHandle → List ℕ → Option Handle
handle_named [] name = None
handle_named (x ∷ handles) name = if bytes_eq x.name name then Some x.handle else handle_named handles name

-- a handle that a call hands back takes the place of the older one; a connect that fails hands back none
abbrev pub kept : List NamedHandle → List ℕ → Option Handle → List NamedHandle
kept handles name None = handles
kept handles name (Some h) = record { name = name; handle = h } ∷ handles

-- the name of a line's handle
abbrev pub name_of : Line → List ℕ
name_of (line.Connect h reader shared) = h
name_of (line.Disconnect h) = h
name_of (line.Select h aid) = h
name_of (line.Login h auth) = h
name_of (line.Logout h) = h
name_of (line.Get h oid) = h
name_of (line.PutHex h oid value) = h
name_of (line.PutFill h oid size fill) = h
name_of (line.Crypt h algorithm key input) = h
name_of (line.Admin h algorithm key) = h
name_of (line.Apdu h bytes) = h
name_of _ = []

-- ---- the calls of lines

-- what a line asks for: a call, or a login by authenticators that are still to be read
pub data Wanted : Type 0 where
  Is : Call → Wanted
  ALogin : Handle → List ℕ → Wanted

-- a reset of a reader, and an act on the card of a name
abbrev pub reset_of : Option (ℕ × Interface) → Wanted
reset_of None = Is (Decided api.ConnectionFailure None)
reset_of (Some r) = Is (Switch r.0 (acts.ResetSide r.1))

abbrev pub switch_card : Option ℕ → CardAct → Wanted
switch_card None act = Is (Decided api.ConnectionFailure None)
switch_card (Some card) act = Is (Switch card act)

-- the lines that take a handle
abbrev pub wanted_with : Handle → Line → Wanted
wanted_with x (line.Disconnect h) = Is (Disconnect x)
wanted_with x (line.Select h aid) = Is (Select x aid)
wanted_with x (line.Login h auth) = ALogin x auth
wanted_with x (line.Logout h) = Is (LogOut x)
wanted_with x (line.Get h oid) = Is (get_of x oid)
wanted_with x (line.PutHex h oid value) = Is (put_of x oid value)
wanted_with x (line.PutFill h oid size fill) = Is (put_of x oid (replicate size fill))
wanted_with x (line.Crypt h algorithm key input) = Is (Crypt x algorithm key input)
wanted_with x (line.Admin h algorithm key) = Is (Admin x algorithm key)
wanted_with x (line.Apdu h bytes) = Is (Transmit x bytes)
wanted_with x _ = Is (Decided api.InvalidCardHandle (Some x))

-- a name that the script has never connected has no handle, which is told before anything else
abbrev pub by_handle : Option Handle → Line → Wanted
by_handle None l = Is (Decided api.InvalidCardHandle None)
by_handle (Some x) l = wanted_with x l

abbrev pub wanted : Names → List NamedHandle → Line → Wanted
wanted names handles (line.Connect h reader shared) = Is (connect_to (reader_of names.readers reader) shared)
wanted names handles line.Version = Is (Decided api.Version None)
wanted names handles line.Generate = Is (Decided api.Unsupported None)
wanted names handles line.Secure = Is (Decided api.Unsupported None)
wanted names handles (line.Reset reader) = reset_of (reader_of names.readers reader)
wanted names handles (line.Cut card) = switch_card (card_of names.cards card) acts.CutPower
wanted names handles (line.Power card) = switch_card (card_of names.cards card) acts.PowerOn
wanted names handles l = by_handle (handle_named handles (name_of l)) l

abbrev pub IsCall : Wanted → Call → Type 0
IsCall (Is made) call = call ≡ made
IsCall (ALogin h auth) call = LogsIn h auth call

-- ---- the steps of a script

-- how far a script is: its answers so far, its handles, and the replies of the next line's call, the newest first
pub record Playing : Type 0 where
  pub answers : List ApiAnswer
  pub handles : List NamedHandle
  pub replies : Replies

abbrev pub beginning : Playing
beginning = record { answers = []; handles = []; replies = [] }

-- what a step had: no turn, an own record, or a turn that was answered Full
pub data Had : Type 0 where
  NoTurn : Had
  Took : Own → Had
  Filled : Had

-- a step: the call that the script is at, and what the step had
pub record Move : Type 0 where
  pub call : Call
  pub had : Had

abbrev pub heard : Replies → Had → Replies
heard replies NoTurn = replies
heard replies (Took own) = Some own.did.answer ∷ replies
heard replies Filled = None ∷ replies

-- a call that has ended gives the line its answer, and the script its handle
abbrev pub settled : Option Line → Call → Playing → Replies → Playing
settled None call at replies = at
settled (Some line) call at replies =
    if is_some (sends call replies) then record { answers = at.answers; handles = at.handles; replies = replies }
    else record {
      answers = at.answers ++ api_answer call replies ∷ [];
      handles = kept at.handles (name_of line) (handle_after call replies);
      replies = [];
    }

abbrev pub moved : List Line → Playing → Move → Playing
moved lines at m = settled (slice_get lines (length at.answers)) m.call at (heard at.replies m.had)

-- after these steps, the newest first
abbrev pub playing : List Line → List Move → Playing
playing lines [] = beginning
playing lines (m ∷ moves) = moved lines (playing lines moves) m

-- the turn is the one that the call sends, and no turn is made where it sends none
abbrev pub HasAsked : Call → Replies → Had → Type 0
HasAsked call replies NoTurn = sends call replies ≡ None
HasAsked call replies (Took own) = sends call replies ≡ Some (record { card = own.card; act = own.did.act })
HasAsked call replies Filled = IsSome (sends call replies)

-- a step that the script may make next
pub record Fits (names : Names) (lines : List Line) (at : Playing) (m : Move) : Type 0 where
  pub line : Line
  pub line_is : slice_get lines (length at.answers) ≡ Some line
  pub call : IsCall (wanted names at.handles line) m.call
  pub asked : HasAsked m.call at.replies m.had

-- a script plays these steps
abbrev pub Plays : Names → List Line → List Move → Type 0
Plays names lines [] = Unit {0}
Plays names lines (m ∷ moves) = Plays names lines moves × Fits names lines (playing lines moves) m

-- the own records with that of a step
abbrev pub with_own : Had → Log → Log
with_own NoTurn log = log
with_own (Took own) log = own ∷ log
with_own Filled log = log
