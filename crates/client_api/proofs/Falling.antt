-- Each step leaves fewer turns.
use Rattle.std.specs.Prelude.{IsSome, is_some, nat_lt, slice_get, option_and_then}
use Rattle.std.proofs.Common.{◌≡◌, ℕ, zero, suc, ◌-◌, ◌*◌, ◌/◌, ◌<◌, Bool, true, false, cond, ◌&&◌, List, [], ◌∷◌, length, drop, Option, Some, None, sym, refl, subst, arith}
use Rattle.std.proofs.lemmas.Option.{slice_get_within}
use Rattle.std.proofs.lemmas.Bool.Decides.{nat_tests}
use Rattle.piv_objects.specs.Authenticators.{Credential}
use Rattle.card_acts.specs.Acts.{Heard}
use Rattle.client_api.specs.declared.call.Step.TheVariants as step
use Rattle.client_api.specs.Calls.{Handle, Call, Decided, Connect, Disconnect, Select, LogIn, LogOut, Get, Put, Crypt, Admin, Transmit, Switch, Replies, Asked, turn_of, sends, joined, act_after, goes_on, word_of, tells_more, exchange, verify, piece, with_data}
use Rattle.client_api.specs.Answers.{with_idle, by_last, handle_by}
use Rattle.client_api.specs.Machine.{Going, At, Ended, Over, asked, next, is_ended}
use Rattle.client_api.specs.Steps.{given_at, most_turns, left}

pub ended_gives : (g : Going) → is_ended g ≡ true → given_at g ≡ step.More → ⊥
ended_gives (At call k body idle) e m = absurd (cc)
ended_gives (Ended a h) e m = absurd (cc)
ended_gives Over e m = absurd (cc)

listed : (h : Handle) (list : List Credential) (k : ℕ) (o : Option Credential) → slice_get list k ≡ o → IsSome (option_and_then (λ c. exchange h (verify c)) o) → k < length list
listed h list k None e s = absurd (cc)
listed h list k (Some c) e s = slice_get_within list k c e

both : (a b : Bool) → a && b ≡ true → (a ≡ true) × (b ≡ true)
both true true e = (refl, refl)
both true false e = absurd (cc)
both false b e = absurd (cc)

-- a call that goes on has turns left
pub within : (call : Call) (k : ℕ) (body : List ℕ) (r : Heard) → goes_on call k r ≡ true → IsSome (turn_of call (suc k) body) → suc k < most_turns call
within (Decided a h) k body r e s = absurd (cc)
within (Connect c i b) k body r e s = absurd (cc)
within (Disconnect h) k body r e s = absurd (cc)
within (Select h aid) k body r e s = absurd (cc)
within (LogIn h list) k body r e s = listed h list (suc k) (slice_get list (suc k)) refl s
within (LogOut h) zero body r e s = omega arith
within (LogOut h) (suc zero) body r e s = omega arith
within (LogOut h) (suc (suc k)) body r e s = absurd (cc)
within (Get h place) k body r e s = let l = (both (tells_more (word_of r)) (nat_lt k 64) e).1 in grind (arith, nat_tests)
within (Put h element) k body r e s = go (nat_lt (255 * suc k) (length element)) refl s where
  go : (b : Bool) → nat_lt (255 * suc k) (length element) ≡ b → IsSome (cond b (exchange h (piece (drop (255 * suc k) element))) None) → suc k < suc (length element / 255)
  go true t s = let l : 255 * suc k < length element = grind (arith, nat_tests) in omega (arith, l)
  go false t s = absurd (cc)
within (Crypt h a k' i) k body r e s = absurd (cc)
within (Admin h a key) zero body r e s = omega arith
within (Admin h a key) (suc k) body r e s = absurd (cc)
within (Transmit h b) k body r e s = absurd (cc)
within (Switch c a) k body r e s = absurd (cc)

goes_within : (call : Call) (k : ℕ) (body : List ℕ) (r : Heard) → IsSome (act_after call k body r) → suc k < most_turns call
goes_within call k body r s = go (goes_on call k r) refl s where
  go : (b : Bool) → goes_on call k r ≡ b → IsSome (cond b (turn_of call (suc k) body) None) → suc k < most_turns call
  go true e s = within call k body r e s
  go false e s = absurd (cc)

pub next_falls : (g : Going) (r : Heard) (x : Asked) → asked g ≡ Some x → given_at (next g r) ≡ step.More → left (next g r) < left g
next_falls (At call k body idle) r x a m = go (act_after call k (with_data call body r) r) refl m where
  go : (o : Option Asked) → act_after call k (with_data call body r) r ≡ o
      → given_at (cond (is_some o) (At call (suc k) (with_data call body r) (with_idle call idle r)) (Ended (by_last call (with_data call body r) idle r) (handle_by call r))) ≡ step.More
      → left (cond (is_some o) (At call (suc k) (with_data call body r) (with_idle call idle r)) (Ended (by_last call (with_data call body r) idle r) (handle_by call r))) < most_turns call - k
  go None e m = absurd (cc)
  go (Some y) e m = let w = goes_within call k (with_data call body r) r (subst (λ (o : Option Asked). IsSome o) (sym e) refl) in omega (arith, w)
next_falls (Ended a h) r x e m = absurd (cc)
next_falls Over r x e m = absurd (cc)

-- a call that still asks has had fewer replies than it has turns
pub fewer : (call : Call) (rs : Replies) → IsSome (sends call rs) → length rs < most_turns call
fewer (Decided a h) [] s = absurd (cc)
fewer (Connect c i b) [] s = omega arith
fewer (Disconnect h) [] s = omega arith
fewer (Select h aid) [] s = omega arith
fewer (LogIn h list) [] s = listed h list 0 (slice_get list 0) refl s
fewer (LogOut h) [] s = omega arith
fewer (Get h place) [] s = omega arith
fewer (Put h element) [] s = omega arith
fewer (Crypt h a k i) [] s = omega arith
fewer (Admin h a key) [] s = omega arith
fewer (Transmit h b) [] s = omega arith
fewer (Switch c a) [] s = omega arith
fewer call (r ∷ rs) s = goes_within call (length rs) (joined call (r ∷ rs)) r s
