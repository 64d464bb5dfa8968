-- A script's connections are its own: its handles come from its own connects alone.
use Rattle.std.specs.Prelude.{IfSome, IsSome, is_some, nat_lt, option_and_then, slice_get}
use Rattle.std.specs.List.{AllByRecursion}
use Rattle.std.specs.Str.{bytes_eq}
use Rattle.std.proofs.Common.{◌≡◌, ◌⊎◌, inl, inr, ℕ, zero, suc, ◌*◌, Bool, true, false, cond, List, [], ◌∷◌, ◌++◌, length, drop, Option, Some, None, sym, refl, subst}
use Rattle.piv_model.specs.declared.kinds.Interface.{Interface}
use Rattle.piv_model.specs.Objects.{place_of_oid}
use Rattle.script_line.specs.declared.line.Line.{Line}
use Rattle.script_line.specs.declared.line.Line.TheVariants as line
use Rattle.piv_rules.specs.Acts as acts
use Rattle.piv_rules.specs.Acts.{CardAct, CardAnswer}
use Rattle.piv_objects.specs.Authenticators.{Credential}
use Rattle.card_acts.specs.Acts.{Heard}
use Rattle.client_api.specs.Calls.{Handle, Call, Decided, Connect, Disconnect, Select, LogIn, LogOut, Get, Put, Crypt, Admin, Transmit, Switch, Replies, Asked, turn_of, sends, joined, goes_on, exchange, verify, piece}
use Rattle.client_api.specs.Answers.{api_answer, connected, handle_after, handle_by, renewed}
use Rattle.client_api.specs.Makers.{LogsIn, connect_to, get_at, put_at}
use Rattle.client_api.specs.Ports.{Own, Log}
use Rattle.client_api.specs.Readers.{Names, card_of, reader_of}
use Rattle.client_api.specs.Playing.{NamedHandle, handle_named, kept, name_of, Wanted, Is, ALogin, IsCall, reset_of, switch_card, by_handle, wanted_with, wanted, Playing, playing, Plays, Had, NoTurn, Took, Filled, Move, Fits, HasAsked, heard, settled, with_own}
use Rattle.client_api.proofs.LineLaws.{one_call}
use Rattle.script_runs.specs.Shares.{share_of, connection_of, HasOpened, UsesItsOwn}
use Rattle.script_runs.specs.Laws.{ScriptsUseTheirOwn}
use Rattle.script_runs.proofs.Listed.{one}

still_opened : (had : Had) (log : Log) (card c : ℕ) → HasOpened log card c → HasOpened (with_own had log) card c
still_opened NoTurn log card c h = h
still_opened (Took own) log card c h = inr h
still_opened Filled log card c h = h

-- a handle that the script has opened
abbrev IsOpen : Log → Handle → Type 0
IsOpen log h = HasOpened log h.card h.connection

abbrev AreOpen : Log → List NamedHandle → Type 0
AreOpen log handles = AllByRecursion (λ x. IsOpen log x.handle) handles

still_open : (had : Had) (log : Log) (handles : List NamedHandle) → AreOpen log handles → AreOpen (with_own had log) handles
still_open had log [] h = tt
still_open had log (x ∷ handles) h = (still_opened had log x.handle.card x.handle.connection h.0, still_open had log handles h.1)

-- ---- the call of a line

-- a call's handle is open, and a switch names no connection
abbrev IsOwn : Log → Call → Type 0
IsOwn log (Decided a h) = IfSome h (IsOpen log)
IsOwn log (Connect card interface shared) = Unit {0}
IsOwn log (Disconnect h) = IsOpen log h
IsOwn log (Select h aid) = IsOpen log h
IsOwn log (LogIn h list) = IsOpen log h
IsOwn log (LogOut h) = IsOpen log h
IsOwn log (Get h place) = IsOpen log h
IsOwn log (Put h element) = IsOpen log h
IsOwn log (Crypt h algorithm key input) = IsOpen log h
IsOwn log (Admin h algorithm key) = IsOpen log h
IsOwn log (Transmit h bytes) = IsOpen log h
IsOwn log (Switch card act) = connection_of act ≡ None

abbrev IsOwnWanted : Log → Wanted → Type 0
IsOwnWanted log (Is made) = IsOwn log made
IsOwnWanted log (ALogin h auth) = IsOpen log h

named_open : (log : Log) (handles : List NamedHandle) (name : List ℕ) → AreOpen log handles → IfSome (handle_named handles name) (IsOpen log)
named_open log [] name all = tt
named_open log (x ∷ handles) name all = go (bytes_eq x.name name) (named_open log handles name all.1) where
  go : (b : Bool) → IfSome (handle_named handles name) (IsOpen log) → IfSome (cond b (Some x.handle) (handle_named handles name)) (IsOpen log)
  go true rest = all.0
  go false rest = rest

connect_own : (log : Log) (o : Option (ℕ × Interface)) (shared : Bool) → IsOwn log (connect_to o shared)
connect_own log None shared = tt
connect_own log (Some r) shared = tt

get_own : (log : Log) (h : Handle) (o : Option ℕ) → IsOpen log h → IsOwn log (get_at h o)
get_own log h None on = on
get_own log h (Some place) on = on

put_own : (log : Log) (h : Handle) (value : List ℕ) (o : Option ℕ) → IsOpen log h → IsOwn log (put_at h value o)
put_own log h value None on = on
put_own log h value (Some place) on = on

with_own_handle : (log : Log) (h : Handle) (l : Line) → IsOpen log h → IsOwnWanted log (wanted_with h l)
with_own_handle log h (line.Connect n r s) on = on
with_own_handle log h (line.Disconnect n) on = on
with_own_handle log h (line.Select n aid) on = on
with_own_handle log h (line.Login n auth) on = on
with_own_handle log h (line.Logout n) on = on
with_own_handle log h (line.Get n oid) on = get_own log h (place_of_oid oid) on
with_own_handle log h (line.PutHex n oid value) on = put_own log h value (place_of_oid oid) on
with_own_handle log h (line.PutFill n oid size fill) on = put_own log h _ (place_of_oid oid) on
with_own_handle log h (line.Crypt n a k i) on = on
with_own_handle log h (line.Admin n a k) on = on
with_own_handle log h (line.Apdu n bytes) on = on
with_own_handle log h line.Version on = on
with_own_handle log h line.Generate on = on
with_own_handle log h line.Secure on = on
with_own_handle log h (line.Reset r) on = on
with_own_handle log h (line.Cut c) on = on
with_own_handle log h (line.Power c) on = on

by_own : (log : Log) (o : Option Handle) (l : Line) → IfSome o (IsOpen log) → IsOwnWanted log (by_handle o l)
by_own log None l on = tt
by_own log (Some h) l on = with_own_handle log h l on

reset_own : (log : Log) (o : Option (ℕ × Interface)) → IsOwnWanted log (reset_of o)
reset_own log None = tt
reset_own log (Some r) = refl

switch_own : (log : Log) (o : Option ℕ) (act : CardAct) → connection_of act ≡ None → IsOwnWanted log (switch_card o act)
switch_own log None act e = tt
switch_own log (Some c) act e = e

wanted_own : (log : Log) (names : Names) (handles : List NamedHandle) (l : Line) → AreOpen log handles → IsOwnWanted log (wanted names handles l)
wanted_own log names handles (line.Connect n r s) hs = connect_own log (reader_of names.readers r) s
wanted_own log names handles (line.Disconnect n) hs = by_own log _ (line.Disconnect n) (named_open log handles n hs)
wanted_own log names handles (line.Select n aid) hs = by_own log _ (line.Select n aid) (named_open log handles n hs)
wanted_own log names handles (line.Login n auth) hs = by_own log _ (line.Login n auth) (named_open log handles n hs)
wanted_own log names handles (line.Logout n) hs = by_own log _ (line.Logout n) (named_open log handles n hs)
wanted_own log names handles (line.Get n oid) hs = by_own log _ (line.Get n oid) (named_open log handles n hs)
wanted_own log names handles (line.PutHex n oid value) hs = by_own log _ (line.PutHex n oid value) (named_open log handles n hs)
wanted_own log names handles (line.PutFill n oid size fill) hs = by_own log _ (line.PutFill n oid size fill) (named_open log handles n hs)
wanted_own log names handles (line.Crypt n a k i) hs = by_own log _ (line.Crypt n a k i) (named_open log handles n hs)
wanted_own log names handles (line.Admin n a k) hs = by_own log _ (line.Admin n a k) (named_open log handles n hs)
wanted_own log names handles (line.Apdu n bytes) hs = by_own log _ (line.Apdu n bytes) (named_open log handles n hs)
wanted_own log names handles line.Version hs = tt
wanted_own log names handles line.Generate hs = tt
wanted_own log names handles line.Secure hs = tt
wanted_own log names handles (line.Reset r) hs = reset_own log (reader_of names.readers r)
wanted_own log names handles (line.Cut c) hs = switch_own log (card_of names.cards c) acts.CutPower refl
wanted_own log names handles (line.Power c) hs = switch_own log (card_of names.cards c) acts.PowerOn refl

log_in_own : (log : Log) (h : Handle) (auth : List ℕ) (call : Call) → LogsIn h auth call → IsOpen log h → IsOwn log call
log_in_own log h auth call logs on = elim logs [
  | inl x ↦ subst (λ (c : Call). IsOwn log c) (sym x.2) on
  | inr x ↦ subst (λ (c : Call). IsOwn log c) (sym x.1) on
]

called_own : (log : Log) (w : Wanted) (call : Call) → IsOwnWanted log w → IsCall w call → IsOwn log call
called_own log (Is made) call on is = subst (λ (c : Call). IsOwn log c) (sym is) on
called_own log (ALogin h auth) call on logs = log_in_own log h auth call logs on

-- ---- its acts

-- an act that names a connection names an open one
abbrev IsOpenAct : Log → Asked → Type 0
IsOpenAct log x = IfSome (connection_of x.act) (HasOpened log x.card)

no_connection : (log : Log) (card : ℕ) (o : Option ℕ) → o ≡ None → IfSome o (HasOpened log card)
no_connection log card o e = subst (λ (p : Option ℕ). IfSome p (HasOpened log card)) (sym e) tt

listed_own : (log : Log) (h : Handle) (o : Option Credential) → IsOpen log h → IfSome (option_and_then (λ c. exchange h (verify c)) o) (IsOpenAct log)
listed_own log h None on = tt
listed_own log h (Some c) on = on

piece_own : (log : Log) (h : Handle) (bytes : List ℕ) (b : Bool) → IsOpen log h → IfSome (cond b (exchange h bytes) None) (IsOpenAct log)
piece_own log h bytes true on = on
piece_own log h bytes false on = tt

turn_own : (log : Log) (call : Call) (k : ℕ) (body : List ℕ) → IsOwn log call → IfSome (turn_of call k body) (IsOpenAct log)
turn_own log (Decided a h) k body on = tt
turn_own log (Connect c i s) k body on = tt
turn_own log (Disconnect h) k body on = on
turn_own log (Select h aid) k body on = on
turn_own log (LogIn h list) k body on = listed_own log h (slice_get list k) on
turn_own log (LogOut h) zero body on = on
turn_own log (LogOut h) (suc zero) body on = on
turn_own log (LogOut h) (suc (suc k)) body on = on
turn_own log (Get h place) zero body on = on
turn_own log (Get h place) (suc k) body on = on
turn_own log (Put h element) k body on = piece_own log h (piece (drop (255 * k) element)) (nat_lt (255 * k) (length element)) on
turn_own log (Crypt h a k' i) k body on = on
turn_own log (Admin h a key) zero body on = on
turn_own log (Admin h a key) (suc k) body on = on
turn_own log (Transmit h b) k body on = on
turn_own log (Switch c a) k body on = no_connection log c (connection_of a) on

goes_own : (log : Log) (b : Bool) (o : Option Asked) → IfSome o (IsOpenAct log) → IfSome (cond b o None) (IsOpenAct log)
goes_own log true o on = on
goes_own log false o on = tt

sends_own : (log : Log) (call : Call) (rs : Replies) → IsOwn log call → IfSome (sends call rs) (IsOpenAct log)
sends_own log call [] on = turn_own log call 0 [] on
sends_own log call (r ∷ rs) on =
    goes_own log (goes_on call (length rs) r) (turn_of call (suc (length rs)) (joined call (r ∷ rs)))
    (turn_own log call (suc (length rs)) (joined call (r ∷ rs)) on)

uses_own : (log : Log) (call : Call) (rs : Replies) (had : Had) → IsOwn log call → HasAsked call rs had → UsesItsOwn log → UsesItsOwn (with_own had log)
uses_own log call rs NoTurn on asked own = own
uses_own log call rs (Took o) on asked own = (own, subst (λ (p : Option Asked). IfSome p (IsOpenAct log)) asked (sends_own log call rs on))
uses_own log call rs Filled on asked own = own

-- ---- the handle that it hands back

renewed_open : (log : Log) (h : Handle) (r : Heard) → IsOpen log h → IsOpen log (renewed h r)
renewed_open log h None on = on
renewed_open log h (Some (acts.Connected c e)) on = on
renewed_open log h (Some acts.Disconnected) on = on
renewed_open log h (Some (acts.Replied b w)) on = on
renewed_open log h (Some (acts.Mute e)) on = on
renewed_open log h (Some (acts.Stale e)) on = on
renewed_open log h (Some acts.NoConnection) on = on
renewed_open log h (Some acts.Locked) on = on
renewed_open log h (Some acts.NoChannel) on = on
renewed_open log h (Some acts.Off) on = on
renewed_open log h (Some acts.On) on = on
renewed_open log h (Some acts.WasReset) on = on
renewed_open log h (Some acts.WasCut) on = on
renewed_open log h (Some (acts.IsUp t)) on = on

-- a connect opens the connection of its handle
connected_open : (log : Log) (card : ℕ) (interface : Interface) (own : Own) (answer : CardAnswer) → own.card ≡ card → own.did.answer ≡ answer → IfSome (connected card interface (Some answer)) (IsOpen (own ∷ log))
connected_open log card interface own (acts.Connected c e) on at = inl (on, e, at)
connected_open log card interface own acts.Disconnected on at = tt
connected_open log card interface own (acts.Replied b w) on at = tt
connected_open log card interface own (acts.Mute e) on at = tt
connected_open log card interface own (acts.Stale e) on at = tt
connected_open log card interface own acts.NoConnection on at = tt
connected_open log card interface own acts.Locked on at = tt
connected_open log card interface own acts.NoChannel on at = tt
connected_open log card interface own acts.Off on at = tt
connected_open log card interface own acts.On on at = tt
connected_open log card interface own acts.WasReset on at = tt
connected_open log card interface own acts.WasCut on at = tt
connected_open log card interface own (acts.IsUp t) on at = tt

-- the replies of a call in progress were asked for
abbrev IsMid : Call → Replies → Type 0
IsMid call [] = Unit {0}
IsMid call (r ∷ rs) = IsSome (sends call (r ∷ rs))

connect_after : (log : Log) (card : ℕ) (interface : Interface) (shared : Bool) (rs : Replies) (had : Had) → IsMid (Connect card interface shared) rs → HasAsked (Connect card interface shared) rs had
    → IfSome (handle_after (Connect card interface shared) (heard rs had)) (IsOpen (with_own had log))
connect_after log card interface shared (r ∷ rs) had mid asked = absurd (cc)
connect_after log card interface shared [] NoTurn mid asked = absurd (cc)
connect_after log card interface shared [] (Took own) mid asked =
    connected_open log card interface own own.did.answer (subst (λ (o : Option Asked). IfSome o (λ x. x.card ≡ card)) asked refl) refl
connect_after log card interface shared [] Filled mid asked = tt

same_after : (log : Log) (h : Handle) (call : Call) (rs : Replies) → ((r : Heard) → handle_by call r ≡ Some (renewed h r)) → IsOpen log h → IfSome (handle_after call rs) (IsOpen log)
same_after log h call [] by on = subst (λ (o : Option Handle). IfSome o (IsOpen log)) (sym (by None)) (renewed_open log h None on)
same_after log h call (r ∷ rs) by on = subst (λ (o : Option Handle). IfSome o (IsOpen log)) (sym (by r)) (renewed_open log h r on)

decided_after : (log : Log) (a : _) (h : Option Handle) (rs : Replies) → IfSome h (IsOpen log) → IfSome (handle_after (Decided a h) rs) (IsOpen log)
decided_after log a h [] on = on
decided_after log a h (r ∷ rs) on = on

switch_after : (log : Log) (card : ℕ) (act : CardAct) (rs : Replies) → IfSome (handle_after (Switch card act) rs) (IsOpen log)
switch_after log card act [] = tt
switch_after log card act (r ∷ rs) = tt

handed_open : (log : Log) (call : Call) (rs : Replies) (had : Had) → IsOwn log call → IsMid call rs → HasAsked call rs had → IfSome (handle_after call (heard rs had)) (IsOpen (with_own had log))
handed_open log (Decided a None) rs had on mid asked = decided_after (with_own had log) a None (heard rs had) tt
handed_open log (Decided a (Some h)) rs had on mid asked = decided_after (with_own had log) a (Some h) (heard rs had) (still_opened had log h.card h.connection on)
handed_open log (Connect card i s) rs had on mid asked = connect_after log card i s rs had mid asked
handed_open log (Disconnect h) rs had on mid asked = same_after (with_own had log) h (Disconnect h) (heard rs had) (λ r. refl) (still_opened had log h.card h.connection on)
handed_open log (Select h aid) rs had on mid asked = same_after (with_own had log) h (Select h aid) (heard rs had) (λ r. refl) (still_opened had log h.card h.connection on)
handed_open log (LogIn h list) rs had on mid asked = same_after (with_own had log) h (LogIn h list) (heard rs had) (λ r. refl) (still_opened had log h.card h.connection on)
handed_open log (LogOut h) rs had on mid asked = same_after (with_own had log) h (LogOut h) (heard rs had) (λ r. refl) (still_opened had log h.card h.connection on)
handed_open log (Get h place) rs had on mid asked = same_after (with_own had log) h (Get h place) (heard rs had) (λ r. refl) (still_opened had log h.card h.connection on)
handed_open log (Put h element) rs had on mid asked = same_after (with_own had log) h (Put h element) (heard rs had) (λ r. refl) (still_opened had log h.card h.connection on)
handed_open log (Crypt h a k i) rs had on mid asked = same_after (with_own had log) h (Crypt h a k i) (heard rs had) (λ r. refl) (still_opened had log h.card h.connection on)
handed_open log (Admin h a k) rs had on mid asked = same_after (with_own had log) h (Admin h a k) (heard rs had) (λ r. refl) (still_opened had log h.card h.connection on)
handed_open log (Transmit h b) rs had on mid asked = same_after (with_own had log) h (Transmit h b) (heard rs had) (λ r. refl) (still_opened had log h.card h.connection on)
handed_open log (Switch card act) rs had on mid asked = switch_after (with_own had log) card act (heard rs had)

kept_open : (log : Log) (handles : List NamedHandle) (name : List ℕ) (o : Option Handle) → AreOpen log handles → IfSome o (IsOpen log) → AreOpen log (kept handles name o)
kept_open log handles name None hs on = hs
kept_open log handles name (Some h) hs on = (on, hs)

-- ---- the steps of a script

-- the call in progress, if the next line's call has replies
abbrev IsBusyWith : Names → List Line → Playing → Type 0
IsBusyWith names lines at =
    (call : Call) × (line : Line) × (slice_get lines (length at.answers) ≡ Some line) × IsCall (wanted names at.handles line) call × IsMid call at.replies

record HasOwn (names : Names) (lines : List Line) (at : Playing) (log : Log) : Type 0 where
  uses : UsesItsOwn log
  open_handles : AreOpen log at.handles
  busy : (at.replies ≡ []) ⊎ IsBusyWith names lines at

mid_same : (names : Names) (lines : List Line) (at : Playing) (m : Move) → Fits names lines at m → (at.replies ≡ []) ⊎ IsBusyWith names lines at → IsMid m.call at.replies
mid_same names lines at m f b = elim b [
  | inl e ↦ subst (λ (rs : Replies). IsMid m.call rs) (sym e) tt
  | inr x ↦
      let same_line : x.1 ≡ f.line = one lines (length at.answers) x.1 f.line x.2 f.line_is in
      let is : IsCall (wanted names at.handles f.line) x.0 = subst (λ (l : Line). IsCall (wanted names at.handles l) x.0) same_line x.3 in
      subst (λ (c : Call). IsMid c at.replies) (one_call names at.handles f.line x.0 m.call is f.call) x.4
]

mid_of : (call : Call) (rs : Replies) → is_some (sends call rs) ≡ true → IsMid call rs
mid_of call [] e = tt
mid_of call (r ∷ rs) e = go (sends call (r ∷ rs)) e where
  go : (o : Option Asked) → is_some o ≡ true → IsSome o
  go None e = absurd (cc)
  go (Some x) e = refl

settled_own : (names : Names) (lines : List Line) (at : Playing) (log : Log) (m : Move) (f : Fits names lines at m) → HasOwn names lines at log
    → HasOwn names lines (settled (Some f.line) m.call at (heard at.replies m.had)) (with_own m.had log)
settled_own names lines at log m f has = go (is_some (sends m.call (heard at.replies m.had))) refl where
  own : IsOwn log m.call
  own = called_own log (wanted names at.handles f.line) m.call (wanted_own log names at.handles f.line has.open_handles) f.call

  uses : UsesItsOwn (with_own m.had log)
  uses = uses_own log m.call at.replies m.had own f.asked has.uses

  handles : AreOpen (with_own m.had log) at.handles
  handles = still_open m.had log at.handles has.open_handles

  handed : IfSome (handle_after m.call (heard at.replies m.had)) (IsOpen (with_own m.had log))
  handed = handed_open log m.call at.replies m.had own (mid_same names lines at m f has.busy) f.asked

  go : (b : Bool) → is_some (sends m.call (heard at.replies m.had)) ≡ b
      → HasOwn names lines (cond b (record { answers = at.answers; handles = at.handles; replies = heard at.replies m.had }) (record {
        answers = at.answers ++ api_answer m.call (heard at.replies m.had) ∷ [];
        handles = kept at.handles (name_of f.line) (handle_after m.call (heard at.replies m.had));
        replies = [];
      })) (with_own m.had log)
  go true e = record { uses = uses; open_handles = handles; busy = inr (m.call, f.line, f.line_is, f.call, mid_of m.call (heard at.replies m.had) e) }
  go false e = record { uses = uses; open_handles = kept_open (with_own m.had log) at.handles (name_of f.line) _ handles handed; busy = inl refl }

own_so_far : (names : Names) (lines : List Line) (moves : List Move) → Plays names lines moves → HasOwn names lines (playing lines moves) (share_of moves)
own_so_far names lines [] plays = record { uses = tt; open_handles = tt; busy = inl refl }
own_so_far names lines (m ∷ moves) plays =
    subst (λ (o : Option Line). HasOwn names lines (settled o m.call (playing lines moves) (heard (playing lines moves).replies m.had)) (with_own m.had (share_of moves))) (sym plays.1.line_is)
    (settled_own names lines (playing lines moves) (share_of moves) m plays.1 (own_so_far names lines moves plays.0))

pub uses_its_own : ScriptsUseTheirOwn
uses_its_own names lines moves plays = (own_so_far names lines moves plays).uses
