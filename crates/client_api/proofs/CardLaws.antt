-- On which card the acts of a line's call are.
use Rattle.std.specs.Prelude.{IfSome, nat_lt, slice_get, option_and_then}
use Rattle.std.proofs.Common.{◌≡◌, ℕ, zero, suc, ◌*◌, ◌<◌, Bool, true, false, cond, List, [], ◌∷◌, length, drop, Option, Some, None, sym, refl, subst}
use Rattle.piv_objects.specs.Authenticators.{Credential}
use Rattle.card_acts.specs.Acts.{Heard}
use Rattle.client_api.specs.Calls.{Handle, Call, Decided, Connect, Disconnect, Select, LogIn, LogOut, Get, Put, Crypt, Admin, Transmit, Switch, Replies, Asked, turn_of, sends, joined, goes_on, exchange, verify, piece}
use Rattle.client_api.specs.Steps.{HasCard}
use Rattle.client_api.specs.Laws.{CallsStayOnCards}
use Rattle.client_api.proofs.Starting.{called_on}

-- an act on this card
on_card : (cards : ℕ) (o : Option Asked) (x : Asked) → IfSome o (λ y. y.card < cards) → o ≡ Some x → x.card < cards
on_card cards o x on e = subst (λ (p : Option Asked). IfSome p (λ y. y.card < cards)) e on

listed_on : (cards : ℕ) (h : Handle) (o : Option Credential) → h.card < cards → IfSome (option_and_then (λ c. exchange h (verify c)) o) (λ y. y.card < cards)
listed_on cards h None on = tt
listed_on cards h (Some c) on = on

piece_on : (cards : ℕ) (h : Handle) (bytes : List ℕ) (b : Bool) → h.card < cards → IfSome (cond b (exchange h bytes) None) (λ y. y.card < cards)
piece_on cards h bytes true on = on
piece_on cards h bytes false on = tt

turn_on : (cards : ℕ) (call : Call) (k : ℕ) (body : List ℕ) → HasCard cards call → IfSome (turn_of call k body) (λ y. y.card < cards)
turn_on cards (Decided a h) k body on = tt
turn_on cards (Connect c i s) k body on = on
turn_on cards (Disconnect h) k body on = on
turn_on cards (Select h aid) k body on = on
turn_on cards (LogIn h list) k body on = listed_on cards h (slice_get list k) on
turn_on cards (LogOut h) zero body on = on
turn_on cards (LogOut h) (suc zero) body on = on
turn_on cards (LogOut h) (suc (suc k)) body on = on
turn_on cards (Get h place) zero body on = on
turn_on cards (Get h place) (suc k) body on = on
turn_on cards (Put h element) k body on = piece_on cards h (piece (drop (255 * k) element)) (nat_lt (255 * k) (length element)) on
turn_on cards (Crypt h a k' i) k body on = on
turn_on cards (Admin h a key) zero body on = on
turn_on cards (Admin h a key) (suc k) body on = on
turn_on cards (Transmit h b) k body on = on
turn_on cards (Switch c a) k body on = on

goes_on_card : (cards : ℕ) (b : Bool) (o : Option Asked) → IfSome o (λ y. y.card < cards) → IfSome (cond b o None) (λ y. y.card < cards)
goes_on_card cards true o on = on
goes_on_card cards false o on = tt

sends_on : (cards : ℕ) (call : Call) (rs : Replies) → HasCard cards call → IfSome (sends call rs) (λ y. y.card < cards)
sends_on cards call [] on = turn_on cards call 0 [] on
sends_on cards call (r ∷ rs) on =
    goes_on_card cards (goes_on call (length rs) r) (turn_of call (suc (length rs)) (joined call (r ∷ rs)))
    (turn_on cards call (suc (length rs)) (joined call (r ∷ rs)) on)

pub calls_on : CallsStayOnCards
calls_on cards names handles line call rs x ns hs is e =
    on_card cards (sends call rs) x (sends_on cards call rs (called_on cards names handles line call hs ns is)) e
