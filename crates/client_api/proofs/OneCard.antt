-- All acts of a call are on one card.
use Rattle.std.specs.Prelude.{slice_get, option_and_then}
use Rattle.std.proofs.Common.{◌≡◌, ℕ, zero, suc, Bool, true, false, cond, List, [], ◌∷◌, length, Option, Some, None, sym, refl, ap, ◌∙◌}
use Rattle.piv_objects.specs.Authenticators.{Credential}
use Rattle.client_api.specs.Calls as calls
use Rattle.client_api.specs.Calls.{Handle, Call, Replies, Asked, turn_of, sends, exchange, verify, joined, goes_on}

abbrev card_of : Call → ℕ
card_of (calls.Decided a h) = 0
card_of (calls.Connect card interface shared) = card
card_of (calls.Disconnect h) = h.card
card_of (calls.Select h aid) = h.card
card_of (calls.LogIn h list) = h.card
card_of (calls.LogOut h) = h.card
card_of (calls.Get h place) = h.card
card_of (calls.Put h element) = h.card
card_of (calls.Crypt h algorithm key input) = h.card
card_of (calls.Admin h algorithm key) = h.card
card_of (calls.Transmit h bytes) = h.card
card_of (calls.Switch card act) = card

of_some : (x y : Asked) → Some x ≡ Some y → y.card ≡ x.card
of_some x y e = let same : x ≡ y = cc in ap (λ (z : Asked). z.card) (sym same)

by_list : (h : Handle) (o : Option Credential) (x : Asked) → option_and_then (λ c. exchange h (verify c)) o ≡ Some x → x.card ≡ h.card
by_list h None x e = absurd (cc)
by_list h (Some c) x e = of_some _ x e

if_asked : (b : Bool) (o : Option Asked) (n : ℕ) (x : Asked) → ((y : Asked) → o ≡ Some y → y.card ≡ n) → cond b o None ≡ Some x → x.card ≡ n
if_asked true o n x all e = all x e
if_asked false o n x all e = absurd (cc)

turn_card : (call : Call) (k : ℕ) (body : List ℕ) (x : Asked) → turn_of call k body ≡ Some x → x.card ≡ card_of call
turn_card (calls.Decided a h) k body x e = absurd (cc)
turn_card (calls.Connect card interface shared) k body x e = of_some _ x e
turn_card (calls.Disconnect h) k body x e = of_some _ x e
turn_card (calls.Select h aid) k body x e = of_some _ x e
turn_card (calls.LogIn h list) k body x e = by_list h (slice_get list k) x e
turn_card (calls.LogOut h) zero body x e = of_some _ x e
turn_card (calls.LogOut h) (suc zero) body x e = of_some _ x e
turn_card (calls.LogOut h) (suc (suc k)) body x e = of_some _ x e
turn_card (calls.Get h place) zero body x e = of_some _ x e
turn_card (calls.Get h place) (suc k) body x e = of_some _ x e
turn_card (calls.Put h element) k body x e = if_asked _ _ h.card x (λ y. of_some _ y) e
turn_card (calls.Crypt h algorithm key input) k body x e = of_some _ x e
turn_card (calls.Admin h algorithm key) zero body x e = of_some _ x e
turn_card (calls.Admin h algorithm key) (suc k) body x e = of_some _ x e
turn_card (calls.Transmit h bytes) k body x e = of_some _ x e
turn_card (calls.Switch card act) k body x e = of_some _ x e

sent_card : (call : Call) (rs : Replies) (x : Asked) → sends call rs ≡ Some x → x.card ≡ card_of call
sent_card call [] x e = turn_card call 0 [] x e
sent_card call (r ∷ rs) x e = if_asked (goes_on call (length rs) r) (turn_of call (suc (length rs)) (joined call (r ∷ rs))) (card_of call) x (turn_card call (suc (length rs)) (joined call (r ∷ rs))) e

pub on_one_card : (call : Call) (rs qs : Replies) (x y : Asked) → sends call rs ≡ Some x → sends call qs ≡ Some y → x.card ≡ y.card
on_one_card call rs qs x y e f = sent_card call rs x e ∙ sym (sent_card call qs y f)
