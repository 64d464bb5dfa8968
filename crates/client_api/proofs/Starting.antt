-- The call of the next line: which one it is, on which card, and how many turns it has.
use Rattle.std.specs.Prelude.{IfSome, IsSome, MatchOption, slice_get, is_some}
use Rattle.std.specs.List.{AllByRecursion}
use Rattle.std.specs.Str.{bytes_eq}
use Rattle.std.proofs.Common.{◌≡◌, ◌∙◌, inl, inr, ℕ, zero, suc, ◌+◌, ◌≤◌, ◌<◌, Bool, true, false, cond, List, [], ◌∷◌, ◌++◌, length, drop, Option, Some, None, sym, refl, ap, subst, arith}
use Rattle.piv_model.specs.declared.kinds.Interface.{Interface}
use Rattle.piv_model.specs.Objects.{place_of_oid}
use Rattle.script_line.specs.declared.line.Line.{Line}
use Rattle.script_line.specs.declared.line.Line.TheVariants as line
use Rattle.script_line.specs.Playable.{IsPlayable, ArePlayable}
use Rattle.card_acts.specs.Acts.{Heard}
use Rattle.client_api.specs.Calls.{Handle, Call, Decided, Connect, Disconnect, Select, LogIn, LogOut, Get, Put, Crypt, Admin, Transmit, Switch, Replies, sends, turn_of}
use Rattle.client_api.specs.Answers.{api_answer, handle_after, handle_by}
use Rattle.client_api.specs.Machine.{Going, At, Ended, start}
use Rattle.client_api.specs.Steps.{IsOn, IsAt, HasCard, left}
use Rattle.client_api.specs.Makers.{LogsIn, connect_to, get_at, put_at}
use Rattle.client_api.specs.Readers.{Names, NamedReader, NamedCard, reader_of, card_of}
use Rattle.client_api.specs.Playing.{NamedHandle, handle_named, Wanted, Is, ALogin, IsCall, reset_of, switch_card, by_handle, wanted_with, wanted, Playing}
use Rattle.client_api.specs.Players.{Played, IsBusy, IsPlaying, IsReady, AreHandlesOn, AreNamesOn, Starts, IsNext, line_turns, steps_of, steps_later, steps_left, steps_with}

-- ---- which call it is

pub starts_call : (w : Wanted) (g : Going) → Starts w g → (call : Call) × IsCall w call × (g ≡ start call)
starts_call (Is made) g s = (made, refl, s)
starts_call (ALogin h auth) g s = s

pub next_new : (names : Names) (p q : Played) (at : Playing) (g : Going) (line : Line) → p.call ≡ None → q.lines ≡ p.lines → slice_get p.lines (length p.answers) ≡ Some line
    → Starts (wanted names p.handles line) g → IsPlaying p at → IsNext names q at g
next_new names p q at g line none lines is starts playing =
    let s = starts_call (wanted names p.handles line) g starts in
    let empty : at.replies ≡ [] = subst (λ (o : Option Going). MatchOption o (at.replies ≡ []) (λ going. IsBusy p.lines at going)) none playing.call in
    record {
      line = line;
      line_is = ap (λ (l : List Line). slice_get l (length at.answers)) lines ∙ (sym (ap (λ l. slice_get p.lines (length l)) playing.answers) ∙ is);
      call = s.0;
      of_line = subst (λ (hs : List NamedHandle). IsCall (wanted names hs line) s.0) playing.handles s.1;
      is_at = subst (λ (rs : Replies). IsAt g s.0 rs) (sym empty) (record { place = s.2; run = tt });
    }

pub next_busy : (names : Names) (p q : Played) (at : Playing) (g : Going) → p.call ≡ Some g → q.lines ≡ p.lines → IsPlaying p at → IsNext names q at g
next_busy names p q at g some lines playing =
    let busy : IsBusy p.lines at g = subst (λ (o : Option Going). MatchOption o (at.replies ≡ []) (λ going. IsBusy p.lines at going)) some playing.call in
    record {
      line = busy.line;
      line_is = ap (λ (l : List Line). slice_get l (length at.answers)) lines ∙ busy.line_is;
      call = busy.call;
      of_line = busy.of_line names;
      is_at = busy.is_at;
    }

-- ---- how many steps are left

steps_next : (lines : List Line) (n : ℕ) (line : Line) → slice_get lines n ≡ Some line → steps_of (drop n lines) ≡ suc (line_turns line) + steps_of (drop (suc n) lines)
steps_next [] n line e = absurd (cc)
steps_next (x ∷ lines) zero line e = subst (λ (o : Option Line). IfSome o (λ y. steps_of (x ∷ lines) ≡ suc (line_turns y) + steps_of lines)) e refl
steps_next (x ∷ lines) (suc n) line e = steps_next lines n line e

pub few_new : (p : Played) (g : Going) (line : Line) → p.call ≡ None → slice_get p.lines (length p.answers) ≡ Some line → left g ≤ line_turns line → left g + steps_later p < steps_left p
few_new p g line none is few =
    let s = steps_next p.lines (length p.answers) line is in
    let e : steps_left p ≡ steps_of (drop (length p.answers) p.lines) = ap (λ (o : Option Going). steps_with o p) none in
    subst (λ (n : ℕ). left g + steps_later p < n) (sym (e ∙ s)) (sum (left g) (line_turns line) (steps_later p) few)
  where
    sum : (a b c : ℕ) → a ≤ b → a + c < suc b + c
    sum a b c h = omega (arith, h)

pub few_busy : (p : Played) (g : Going) → p.call ≡ Some g → left g + steps_later p < steps_left p
few_busy p g some =
    subst (λ (o : Option Going). left g + steps_later p < steps_with o p) (sym some) (sum (left g) (steps_later p))
  where
    sum : (a c : ℕ) → a + c < suc a + c
    sum a c = omega arith

-- ---- on which card it is

none_on : (cards : ℕ) (call : Call) → HasCard cards call → IfSome (handle_by call None) (λ x. x.card < cards)
none_on cards (Decided a h) on = on
none_on cards (Connect c i s) on = tt
none_on cards (Disconnect h) on = on
none_on cards (Select h aid) on = on
none_on cards (LogIn h list) on = on
none_on cards (LogOut h) on = on
none_on cards (Get h place) on = on
none_on cards (Put h element) on = on
none_on cards (Crypt h a k i) on = on
none_on cards (Admin h a k) on = on
none_on cards (Transmit h b) on = on
none_on cards (Switch c a) on = tt

start_on : (cards : ℕ) (call : Call) → HasCard cards call → IsOn cards (start call)
start_on cards call on = go (is_some (turn_of call 0 [])) where
  go : (b : Bool) → IsOn cards (cond b (At call 0 [] false) (Ended (api_answer call []) (handle_after call [])))
  go true = on
  go false = none_on cards call on

reader_on : (cards : ℕ) (readers : List NamedReader) (name : List ℕ) → AllByRecursion (λ r. r.card < cards) readers → IfSome (reader_of readers name) (λ r. r.0 < cards)
reader_on cards [] name all = tt
reader_on cards (r ∷ readers) name all = go (bytes_eq r.name name) (reader_on cards readers name all.1) where
  go : (b : Bool) → IfSome (reader_of readers name) (λ r. r.0 < cards) → IfSome (cond b (Some (r.card, r.interface)) (reader_of readers name)) (λ r. r.0 < cards)
  go true rest = all.0
  go false rest = rest

card_on : (cards : ℕ) (named : List NamedCard) (name : List ℕ) → AllByRecursion (λ c. c.card < cards) named → IfSome (card_of named name) (λ c. c < cards)
card_on cards [] name all = tt
card_on cards (c ∷ named) name all = go (bytes_eq c.name name) (card_on cards named name all.1) where
  go : (b : Bool) → IfSome (card_of named name) (λ c. c < cards) → IfSome (cond b (Some c.card) (card_of named name)) (λ c. c < cards)
  go true rest = all.0
  go false rest = rest

handle_on : (cards : ℕ) (handles : List NamedHandle) (name : List ℕ) → AreHandlesOn cards handles → IfSome (handle_named handles name) (λ h. h.card < cards)
handle_on cards [] name all = tt
handle_on cards (x ∷ handles) name all = go (bytes_eq x.name name) (handle_on cards handles name all.1) where
  go : (b : Bool) → IfSome (handle_named handles name) (λ h. h.card < cards) → IfSome (cond b (Some x.handle) (handle_named handles name)) (λ h. h.card < cards)
  go true rest = all.0
  go false rest = rest

connect_on : (cards : ℕ) (o : Option (ℕ × Interface)) (shared : Bool) → IfSome o (λ r. r.0 < cards) → HasCard cards (connect_to o shared)
connect_on cards None shared on = tt
connect_on cards (Some r) shared on = on

-- the call of a connect is on a card of the readers
pub connects_on : (cards : ℕ) (readers : List NamedReader) (name : List ℕ) (shared : Bool) → AllByRecursion (λ r. r.card < cards) readers → IsOn cards (start (connect_to (reader_of readers name) shared))
connects_on cards readers name shared all = start_on cards (connect_to (reader_of readers name) shared) (connect_on cards (reader_of readers name) shared (reader_on cards readers name all))

get_on : (cards : ℕ) (h : Handle) (o : Option ℕ) → h.card < cards → HasCard cards (get_at h o)
get_on cards h None on = on
get_on cards h (Some place) on = on

put_on : (cards : ℕ) (h : Handle) (value : List ℕ) (o : Option ℕ) → h.card < cards → HasCard cards (put_at h value o)
put_on cards h value None on = on
put_on cards h value (Some place) on = on

log_in_on : (cards : ℕ) (h : Handle) (auth : List ℕ) (call : Call) → LogsIn h auth call → h.card < cards → HasCard cards call
log_in_on cards h auth call logs on = elim logs [
  | inl x ↦ subst (λ (c : Call). HasCard cards c) (sym x.2) on
  | inr x ↦ subst (λ (c : Call). HasCard cards c) (sym x.1) on
]

-- what is wanted is on one of these cards
abbrev IsOnCard : ℕ → Wanted → Type 0
IsOnCard cards (Is made) = HasCard cards made
IsOnCard cards (ALogin h auth) = h.card < cards

with_on : (cards : ℕ) (h : Handle) (l : Line) → h.card < cards → IsOnCard cards (wanted_with h l)
with_on cards h (line.Connect n r s) on = on
with_on cards h (line.Disconnect n) on = on
with_on cards h (line.Select n aid) on = on
with_on cards h (line.Login n auth) on = on
with_on cards h (line.Logout n) on = on
with_on cards h (line.Get n oid) on = get_on cards h (place_of_oid oid) on
with_on cards h (line.PutHex n oid value) on = put_on cards h value (place_of_oid oid) on
with_on cards h (line.PutFill n oid size fill) on = put_on cards h _ (place_of_oid oid) on
with_on cards h (line.Crypt n a k i) on = on
with_on cards h (line.Admin n a k) on = on
with_on cards h (line.Apdu n bytes) on = on
with_on cards h line.Version on = on
with_on cards h line.Generate on = on
with_on cards h line.Secure on = on
with_on cards h (line.Reset r) on = on
with_on cards h (line.Cut c) on = on
with_on cards h (line.Power c) on = on

by_on : (cards : ℕ) (o : Option Handle) (l : Line) → IfSome o (λ h. h.card < cards) → IsOnCard cards (by_handle o l)
by_on cards None l on = tt
by_on cards (Some h) l on = with_on cards h l on

reset_on : (cards : ℕ) (o : Option (ℕ × Interface)) → IfSome o (λ r. r.0 < cards) → IsOnCard cards (reset_of o)
reset_on cards None on = tt
reset_on cards (Some r) on = on

switch_on : (cards : ℕ) (o : Option ℕ) (act : Rattle.piv_rules.specs.Acts.CardAct) → IfSome o (λ c. c < cards) → IsOnCard cards (switch_card o act)
switch_on cards None act on = tt
switch_on cards (Some c) act on = on

wanted_on : (cards : ℕ) (names : Names) (handles : List NamedHandle) (l : Line) → AreHandlesOn cards handles → AreNamesOn cards names → IsOnCard cards (wanted names handles l)
wanted_on cards names handles (line.Connect n r s) hs ns = connect_on cards (reader_of names.readers r) s (reader_on cards names.readers r ns.readers)
wanted_on cards names handles (line.Disconnect n) hs ns = by_on cards _ (line.Disconnect n) (handle_on cards handles n hs)
wanted_on cards names handles (line.Select n aid) hs ns = by_on cards _ (line.Select n aid) (handle_on cards handles n hs)
wanted_on cards names handles (line.Login n auth) hs ns = by_on cards _ (line.Login n auth) (handle_on cards handles n hs)
wanted_on cards names handles (line.Logout n) hs ns = by_on cards _ (line.Logout n) (handle_on cards handles n hs)
wanted_on cards names handles (line.Get n oid) hs ns = by_on cards _ (line.Get n oid) (handle_on cards handles n hs)
wanted_on cards names handles (line.PutHex n oid value) hs ns = by_on cards _ (line.PutHex n oid value) (handle_on cards handles n hs)
wanted_on cards names handles (line.PutFill n oid size fill) hs ns = by_on cards _ (line.PutFill n oid size fill) (handle_on cards handles n hs)
wanted_on cards names handles (line.Crypt n a k i) hs ns = by_on cards _ (line.Crypt n a k i) (handle_on cards handles n hs)
wanted_on cards names handles (line.Admin n a k) hs ns = by_on cards _ (line.Admin n a k) (handle_on cards handles n hs)
wanted_on cards names handles (line.Apdu n bytes) hs ns = by_on cards _ (line.Apdu n bytes) (handle_on cards handles n hs)
wanted_on cards names handles line.Version hs ns = tt
wanted_on cards names handles line.Generate hs ns = tt
wanted_on cards names handles line.Secure hs ns = tt
wanted_on cards names handles (line.Reset r) hs ns = reset_on cards (reader_of names.readers r) (reader_on cards names.readers r ns.readers)
wanted_on cards names handles (line.Cut c) hs ns = switch_on cards (card_of names.cards c) _ (card_on cards names.cards c ns.cards_named)
wanted_on cards names handles (line.Power c) hs ns = switch_on cards (card_of names.cards c) _ (card_on cards names.cards c ns.cards_named)

called : (cards : ℕ) (w : Wanted) (call : Call) → IsOnCard cards w → IsCall w call → HasCard cards call
called cards (Is made) call on is = subst (λ (c : Call). HasCard cards c) (sym is) on
called cards (ALogin h auth) call on logs = log_in_on cards h auth call logs on

pub called_on : (cards : ℕ) (names : Names) (handles : List NamedHandle) (l : Line) (call : Call) → AreHandlesOn cards handles → AreNamesOn cards names → IsCall (wanted names handles l) call → HasCard cards call
called_on cards names handles l call hs ns is = called cards (wanted names handles l) call (wanted_on cards names handles l hs ns) is

started_on : (cards : ℕ) (w : Wanted) (g : Going) → IsOnCard cards w → Starts w g → IsOn cards g
started_on cards (Is made) g on s = subst (λ (z : Going). IsOn cards z) (sym s) (start_on cards made on)
started_on cards (ALogin h auth) g on s = subst (λ (z : Going). IsOn cards z) (sym s.2) (start_on cards s.0 (log_in_on cards h auth s.0 s.1 on))

pub starts_on : (cards : ℕ) (names : Names) (handles : List NamedHandle) (l : Line) (g : Going) → Starts (wanted names handles l) g → AreHandlesOn cards handles → AreNamesOn cards names → IsOn cards g
starts_on cards names handles l g s hs ns = started_on cards (wanted names handles l) g (wanted_on cards names handles l hs ns) s

pub busy_on : (cards : ℕ) (p : Played) (g : Going) → p.call ≡ Some g → IsReady cards p → IsOn cards g
busy_on cards p g some ready = subst (λ (o : Option Going). IfSome o (IsOn cards)) some ready.call

-- ---- a call that goes on depends on no reader

none_connect : (o : Option (ℕ × Interface)) (shared : Bool) (r : Heard) (rs : Replies) → sends (connect_to o shared) (r ∷ rs) ≡ None
none_connect None shared r rs = refl
none_connect (Some x) shared r rs = refl

none_reset : (o : Option (ℕ × Interface)) (call : Call) (r : Heard) (rs : Replies) → IsCall (reset_of o) call → sends call (r ∷ rs) ≡ None
none_reset None call r rs e = ap (λ (c : Call). sends c (r ∷ rs)) e
none_reset (Some x) call r rs e = ap (λ (c : Call). sends c (r ∷ rs)) e

none_switch : (o : Option ℕ) (act : Rattle.piv_rules.specs.Acts.CardAct) (call : Call) (r : Heard) (rs : Replies) → IsCall (switch_card o act) call → sends call (r ∷ rs) ≡ None
none_switch None act call r rs e = ap (λ (c : Call). sends c (r ∷ rs)) e
none_switch (Some x) act call r rs e = ap (λ (c : Call). sends c (r ∷ rs)) e

pub not_some : {A : Type 0} (o : Option A) → o ≡ None → IsSome o → ⊥
not_some None e s = absurd (cc)
not_some (Some x) e s = absurd (cc)

pub any_names : (names other : Names) (handles : List NamedHandle) (l : Line) (call : Call) (r : Heard) (rs : Replies) → IsCall (wanted names handles l) call → IsSome (sends call (r ∷ rs)) → IsCall (wanted other handles l) call
any_names names other handles (line.Connect n x s) call r rs is some = absurd (not_some (sends call (r ∷ rs)) (ap (λ (c : Call). sends c (r ∷ rs)) is ∙ none_connect (reader_of names.readers x) s r rs) some)
any_names names other handles (line.Disconnect n) call r rs is some = is
any_names names other handles (line.Select n aid) call r rs is some = is
any_names names other handles (line.Login n auth) call r rs is some = is
any_names names other handles (line.Logout n) call r rs is some = is
any_names names other handles (line.Get n oid) call r rs is some = is
any_names names other handles (line.PutHex n oid value) call r rs is some = is
any_names names other handles (line.PutFill n oid size fill) call r rs is some = is
any_names names other handles (line.Crypt n a k i) call r rs is some = is
any_names names other handles (line.Admin n a k) call r rs is some = is
any_names names other handles (line.Apdu n bytes) call r rs is some = is
any_names names other handles line.Version call r rs is some = is
any_names names other handles line.Generate call r rs is some = is
any_names names other handles line.Secure call r rs is some = is
any_names names other handles (line.Reset x) call r rs is some = absurd (not_some (sends call (r ∷ rs)) (none_reset (reader_of names.readers x) call r rs is) some)
any_names names other handles (line.Cut c) call r rs is some = absurd (not_some (sends call (r ∷ rs)) (none_switch (card_of names.cards c) _ call r rs is) some)
any_names names other handles (line.Power c) call r rs is some = absurd (not_some (sends call (r ∷ rs)) (none_switch (card_of names.cards c) _ call r rs is) some)

-- ---- scripts that grow

pushed_at : (lines : List Line) (l : Line) → ((k : ℕ) (x : Line) → slice_get lines k ≡ Some x → IsPlayable x) → IsPlayable l → (k : ℕ) (x : Line) → slice_get (lines ++ l ∷ []) k ≡ Some x → IsPlayable x
pushed_at [] l all p zero x e = subst (λ (o : Option Line). IfSome o IsPlayable) e p
pushed_at [] l all p (suc k) x e = absurd (cc)
pushed_at (y ∷ lines) l all p zero x e = all zero x e
pushed_at (y ∷ lines) l all p (suc k) x e = pushed_at lines l (λ j. all (suc j)) p k x e

pub playable_pushed : (lines : List Line) (l : Line) → ArePlayable lines → IsPlayable l → ArePlayable (lines ++ l ∷ [])
playable_pushed lines l all p = pushed_at lines l all p

pub ruleset playable_laws = (playable_pushed)
