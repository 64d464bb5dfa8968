-- Which calls hand a handle back.
use Rattle.std.specs.Prelude.{IsSome, is_some}
use Rattle.std.proofs.Common.{◌≡◌, ◌⊎◌, inl, inr, ℕ, zero, suc, Bool, true, false, cond, List, [], ◌∷◌, Option, Some, None, sym, refl, subst, ◌∙◌}
use Rattle.piv_model.specs.declared.kinds.Interface.{Interface}
use Rattle.piv_rules.specs.Acts as acts
use Rattle.card_acts.specs.Acts.{Heard, is_answer_to}
use Rattle.client_api.specs.Calls as calls
use Rattle.client_api.specs.Calls.{Handle, Call, Replies, Asked, exchange, turn_of, sends, with_data, act_after}
use Rattle.client_api.specs.Answers.{api_answer, handle_after, handle_by, by_last, with_idle, connected}
use Rattle.client_api.specs.Machine.{Going, At, Ended, Over, asked, next, is_ended}
use Rattle.client_api.specs.Steps.{HandsBack, given_at, has_handle}

-- a connect's answer and handle, by the answer of its act
connect_has : (card : ℕ) (i : Interface) (s : Bool) (all : List ℕ) (idle : Bool) (r : Heard) → is_answer_to (acts.Connect i s) r ≡ true
    → is_some (connected card i r) ≡ has_handle (calls.Connect card i s) (by_last (calls.Connect card i s) all idle r)
connect_has card i s all idle None e = refl
connect_has card i s all idle (Some acts.Off) e = refl
connect_has card i s all idle (Some acts.NoChannel) e = refl
connect_has card i s all idle (Some acts.Locked) e = refl
connect_has card i s all idle (Some (acts.Connected c epoch)) e = refl
connect_has card i s all idle (Some acts.NoConnection) e = absurd (cc)
connect_has card i s all idle (Some (acts.Mute epoch)) e = absurd (cc)
connect_has card i s all idle (Some (acts.Stale epoch)) e = absurd (cc)
connect_has card i s all idle (Some (acts.Replied body word)) e = absurd (cc)
connect_has card i s all idle (Some acts.Disconnected) e = absurd (cc)
connect_has card i s all idle (Some acts.On) e = absurd (cc)
connect_has card i s all idle (Some acts.WasReset) e = absurd (cc)
connect_has card i s all idle (Some acts.WasCut) e = absurd (cc)
connect_has card i s all idle (Some (acts.IsUp took)) e = absurd (cc)

-- an act that is asked was answered so
abbrev AnsweredSo : Heard → Option Asked → Type 0
AnsweredSo r None = Unit {0}
AnsweredSo r (Some x) = is_answer_to x.act r ≡ true

answered_so : (r : Heard) (o : Option Asked) (x : Asked) → o ≡ Some x → is_answer_to x.act r ≡ true → AnsweredSo r o
answered_so r o x e fits = subst (λ (p : Option Asked). AnsweredSo r p) (sym e) fits

-- what answers an exchange doesn't hang on its bytes
exchange_any : (c e : ℕ) (a b : List ℕ) (r : Heard) → is_answer_to (acts.Exchange c e a) r ≡ true → is_answer_to (acts.Exchange c e b) r ≡ true
exchange_any c e a b None so = so
exchange_any c e a b (Some (acts.Connected k epoch)) so = so
exchange_any c e a b (Some acts.Disconnected) so = so
exchange_any c e a b (Some (acts.Replied body word)) so = so
exchange_any c e a b (Some (acts.Mute epoch)) so = so
exchange_any c e a b (Some (acts.Stale epoch)) so = so
exchange_any c e a b (Some acts.NoConnection) so = so
exchange_any c e a b (Some acts.Locked) so = so
exchange_any c e a b (Some acts.NoChannel) so = so
exchange_any c e a b (Some acts.Off) so = so
exchange_any c e a b (Some acts.On) so = so
exchange_any c e a b (Some acts.WasReset) so = so
exchange_any c e a b (Some acts.WasCut) so = so
exchange_any c e a b (Some (acts.IsUp took)) so = so

abbrev pub IsExchange : Handle → Option Asked → Type 0
IsExchange h o = (b : List ℕ) × (o ≡ exchange h b)

pub exchanged_so : (h : Handle) (a : List ℕ) (r : Heard) (o : Option Asked) (x : Asked) → ((y : Asked) → exchange h a ≡ Some y → is_answer_to y.act r ≡ true) → IsExchange h o → o ≡ Some x → is_answer_to x.act r ≡ true
exchanged_so h a r o x f is e =
    subst (λ (p : Option Asked). AnsweredSo r p) (sym is.1 ∙ e) (exchange_any h.connection h.epoch a is.0 r (f _ refl))

pub logout_exchanges : (h : Handle) (k : ℕ) → IsExchange h (turn_of (calls.LogOut h) k [])
logout_exchanges h zero = (_, refl)
logout_exchanges h (suc zero) = (_, refl)
logout_exchanges h (suc (suc k)) = (_, refl)

pub get_exchanges : (h : Handle) (place k : ℕ) → IsExchange h (turn_of (calls.Get h place) k [])
get_exchanges h place zero = (_, refl)
get_exchanges h place (suc k) = (_, refl)

-- the last answer of a call
last_has : (call : Call) (k : ℕ) (body all : List ℕ) (idle : Bool) (r : Heard) → AnsweredSo r (turn_of call k body)
    → is_some (handle_by call r) ≡ has_handle call (by_last call all idle r)
last_has (calls.Decided a h) k body all idle r so = refl
last_has (calls.Connect card i s) k body all idle r so = connect_has card i s all idle r so
last_has (calls.Disconnect h) k body all idle r so = refl
last_has (calls.Select h aid) k body all idle r so = refl
last_has (calls.LogIn h list) k body all idle r so = refl
last_has (calls.LogOut h) k body all idle r so = refl
last_has (calls.Get h place) k body all idle r so = refl
last_has (calls.Put h element) k body all idle r so = refl
last_has (calls.Crypt h algorithm key input) k body all idle r so = refl
last_has (calls.Admin h algorithm key) k body all idle r so = refl
last_has (calls.Transmit h bytes) k body all idle r so = refl
last_has (calls.Switch card act) k body all idle r so = refl

-- a step that makes a turn
pub handed_next : (g : Going) (r : Heard) (x : Asked) → asked g ≡ Some x → is_answer_to x.act r ≡ true → HandsBack g (given_at (next g r))
handed_next (At call k body idle) r x e fits = go (act_after call k (with_data call body r) r) where
  go : (o : Option Asked) → HandsBack (At call k body idle) (given_at (cond (is_some o) (At call (suc k) (with_data call body r) (with_idle call idle r)) (Ended (by_last call (with_data call body r) idle r) (handle_by call r))))
  go None = last_has call k body (with_data call body r) idle r (answered_so r (turn_of call k body) x e fits)
  go (Some y) = tt
handed_next (Ended a h) r x e fits = absurd (cc)
handed_next Over r x e fits = absurd (cc)

-- a step that makes none
pub handed_kept : (g : Going) → is_ended g ≡ true → HandsBack g (given_at g)
handed_kept (At call k body idle) e = absurd (cc)
handed_kept (Ended a h) e = refl
handed_kept Over e = absurd (cc)

-- a call that was answered without a turn
begun_has : (call : Call) → sends call [] ≡ None → is_some (handle_after call []) ≡ has_handle call (api_answer call [])
begun_has (calls.Decided a h) none = refl
begun_has (calls.Connect card i s) none = absurd (cc)
begun_has (calls.Disconnect h) none = refl
begun_has (calls.Select h aid) none = refl
begun_has (calls.LogIn h list) none = refl
begun_has (calls.LogOut h) none = refl
begun_has (calls.Get h place) none = refl
begun_has (calls.Put h element) none = refl
begun_has (calls.Crypt h algorithm key input) none = refl
begun_has (calls.Admin h algorithm key) none = refl
begun_has (calls.Transmit h bytes) none = refl
begun_has (calls.Switch card act) none = refl

pub none_has : (call : Call) (rs : Replies) → sends call rs ≡ None → (rs ≡ []) ⊎ IsSome (sends call rs) → is_some (handle_after call rs) ≡ has_handle call (api_answer call rs)
none_has call [] none begun = begun_has call none
none_has call (r ∷ rs) none (inl e) = absurd (cc)
none_has call (r ∷ rs) none (inr e) = absurd (let n = subst (λ (o : Option Asked). IsSome o) none e in cc)

-- and one that made its last turn
pub sent_has : (call : Call) (r : Heard) (rs : Replies) (x : Asked) → sends call rs ≡ Some x → is_answer_to x.act r ≡ true
    → is_some (handle_after call (r ∷ rs)) ≡ has_handle call (api_answer call (r ∷ rs))
sent_has (calls.Decided a h) r rs x e fits = refl
sent_has (calls.Connect card i s) r [] x e fits = connect_has card i s [] false r (answered_so r (sends (calls.Connect card i s) []) x e fits)
sent_has (calls.Connect card i s) r (q ∷ rs) x e fits = absurd (cc)
sent_has (calls.Disconnect h) r rs x e fits = refl
sent_has (calls.Select h aid) r rs x e fits = refl
sent_has (calls.LogIn h list) r rs x e fits = refl
sent_has (calls.LogOut h) r rs x e fits = refl
sent_has (calls.Get h place) r rs x e fits = refl
sent_has (calls.Put h element) r rs x e fits = refl
sent_has (calls.Crypt h algorithm key input) r rs x e fits = refl
sent_has (calls.Admin h algorithm key) r rs x e fits = refl
sent_has (calls.Transmit h bytes) r rs x e fits = refl
sent_has (calls.Switch card act) r rs x e fits = refl
