-- A step, from what the machine does.
use Rattle.std.specs.Prelude.{IsSome, MatchOption, is_some, nat_lt, slice_get, option_and_then}
use Rattle.std.proofs.Common.{◌≡◌, ◌≢◌, ℕ, zero, suc, ◌+◌, ◌*◌, ◌<◌, ◌≤◌, Bool, true, false, cond, List, [], ◌∷◌, length, Option, Some, None, sym, refl, ap, subst, ◌∙◌, arith}
use Rattle.std.proofs.lemmas.Bool.Decides.{nat_tests}
use Rattle.card_acts.specs.Acts.{Heard, is_answer_to}
use Rattle.client_api.specs.Ports.{Log}
use Rattle.client_api.specs.declared.call.Step.{Step}
use Rattle.client_api.specs.declared.call.Step.TheVariants as step
use Rattle.client_api.specs.declared.state.State.{State}
use Rattle.client_api.specs.declared.state.State.TheVariants as state
use Rattle.client_api.specs.Calls.{Call, Replies, Asked, sends, exchange, verify, piece}
use Rattle.client_api.specs.Answers.{api_answer, handle_after}
use Rattle.client_api.specs.Machine.{Going, At, Ended, Over, asked, next, after, is_ended}
use Rattle.client_api.specs.States.{going_of, IsSound}
use Rattle.client_api.specs.Steps.{IsAt, IsRun, Sent, Went, Stepped, given, given_at}
use Rattle.client_api.proofs.Laws.{asked_after, ended_after}

asks_more : (g : Going) (x : Asked) → asked g ≡ Some x → given_at g ≡ step.More
asks_more (At call k body idle) x e = refl
asks_more (Ended a h) x e = absurd (cc)
asks_more Over x e = refl

pub given_after : (call : Call) (rs : Replies) → IsRun call rs → given_at (after call rs) ≡ given call rs
given_after call rs run = go (sends call rs) refl where
  go : (o : Option Asked) → sends call rs ≡ o → given_at (after call rs) ≡ given call rs
  go None e = ap given_at (ended_after call rs run e) ∙ sym (ap (λ o. cond (is_some o) step.More (step.Done (api_answer call rs) (handle_after call rs))) e)
  go (Some x) e = asks_more (after call rs) x (asked_after call rs run ∙ e) ∙ sym (ap (λ o. cond (is_some o) step.More (step.Done (api_answer call rs) (handle_after call rs))) e)

ended_none : (g : Going) → is_ended g ≡ true → asked g ≡ None
ended_none (At call k body idle) e = absurd (cc)
ended_none (Ended a h) e = refl
ended_none Over e = absurd (cc)

pub stepped_plain : (old : Log → Type 0) (seen turns : ℕ → ℕ) (g g' : Going) (call : Call) (rs : Replies) (result : Step) → is_ended g ≡ true → result ≡ given_at g → IsAt g call rs → Stepped old old seen turns call rs result g'
stepped_plain old seen turns g g' call rs result e r at =
    let none : sends call rs ≡ None = sym (asked_after call rs at.run) ∙ (sym (ap asked at.place) ∙ ended_none g e) in
    subst (λ (o : Option Asked). MatchOption o ((result ≡ given call rs) × ((log : Log) → old log → old log)) (λ x. (heard : Heard) × Went old old seen turns call rs x result g' heard)) (sym none)
    (r ∙ (ap given_at at.place ∙ given_after call rs at.run), λ log h. h)

pub stepped_turn : (old now : Log → Type 0) (seen turns : ℕ → ℕ) (g g' : Going) (call : Call) (rs : Replies) (result : Step) (x : Asked) (heard : Heard) → asked g ≡ Some x → Sent old now seen turns x heard
    → is_answer_to x.act heard ≡ true → result ≡ given_at (next g heard) → (result ≡ step.More → g' ≡ next g heard) → IsAt g call rs → Stepped old now seen turns call rs result g'
stepped_turn old now seen turns g g' call rs result x heard asks sent fits r kept at =
    let some : sends call rs ≡ Some x = sym (asked_after call rs at.run) ∙ (sym (ap asked at.place) ∙ asks) in
    let run : IsRun call (heard ∷ rs) = (at.run, subst (λ (o : Option Asked). IsSome o) (sym some) refl) in
    let place : next g heard ≡ after call (heard ∷ rs) = ap (λ z. next z heard) at.place in
    let gives : result ≡ given call (heard ∷ rs) = r ∙ (ap given_at place ∙ given_after call (heard ∷ rs) run) in
    subst (λ (o : Option Asked). MatchOption o ((result ≡ given call rs) × ((log : Log) → old log → now log)) (λ x. (heard : Heard) × Went old now seen turns call rs x result g' heard)) (sym some) (
      heard,
      record {
        sent = sent;
        fits = fits;
        gives = gives;
        goes = λ more. record { place = kept (gives ∙ go (sends call (heard ∷ rs)) more) ∙ place; run = run };
      },
    )
  where
    go : (o : Option Asked) → IsSome o → cond (is_some o) step.More (step.Done (api_answer call (heard ∷ rs)) (handle_after call (heard ∷ rs))) ≡ step.More
    go None h = absurd (cc)
    go (Some y) h = refl

found : {A : Type 0} (xs : List A) (k : ℕ) → k < length xs → (x : A) × (slice_get xs k ≡ Some x)
found [] k h = absurd (omega arith)
found (x ∷ xs) zero h = (x, refl)
found (x ∷ xs) (suc k) h = found xs k (omega (arith, h))

-- a sound state that hasn't ended sends something
pub asks_some : (s : State) → IsSound s → is_ended (going_of s) ≡ false → going_of s ≢ Over → (x : Asked) × (asked (going_of s) ≡ Some x)
asks_some (state.Connect card interface shared) i e n = (_, refl)
asks_some (state.Disconnect h) i e n = (_, refl)
asks_some (state.Select h aid) i e n = (_, refl)
asks_some (state.LogIn h pins k) i e n = let f = found pins.items k i.0 in (_, ap (λ o. option_and_then (λ c. exchange h (verify c)) o) f.1)
asks_some (state.LogOut h zero idle) i e n = (_, refl)
asks_some (state.LogOut h (suc zero) idle) i e n = (_, refl)
asks_some (state.LogOut h (suc (suc k)) idle) i e n = (_, refl)
asks_some (state.Get h object zero body) i e n = (_, refl)
asks_some (state.Get h object (suc k) body) i e n = (_, refl)
asks_some (state.Put h element k) i e n = (_, ap (λ b. cond b (exchange h (piece (Rattle.std.proofs.Common.drop (255 * k) element.items))) None) t) where
  t : nat_lt (255 * k) (length element.items) ≡ true
  t = let l = i.0 in grind (arith, nat_tests)
asks_some (state.Crypt h algorithm key input) i e n = (_, refl)
asks_some (state.Admin h algorithm key None) i e n = (_, refl)
asks_some (state.Admin h algorithm key (Some body)) i e n = (_, refl)
asks_some (state.Transmit h bytes) i e n = (_, refl)
asks_some (state.Switch card switch) i e n = (_, refl)
asks_some (state.Ended a h) i e n = absurd (cc)
asks_some state.Over i e n = absurd (n refl)
