-- The machine does what the tables say.
use Rattle.std.specs.Prelude.{IsSome, is_some}
use Rattle.std.proofs.Common.{◌≡◌, suc, Bool, true, false, cond, [], ◌∷◌, length, Option, Some, None, sym, refl, ap, subst, ◌∙◌}
use Rattle.card_acts.specs.Acts.{Heard}
use Rattle.client_api.specs.Calls as calls
use Rattle.client_api.specs.Calls.{Call, Replies, Asked, turn_of, act_after, sends, joined, with_data, goes_on}
use Rattle.client_api.specs.Answers.{was_idle, by_last, api_answer, handle_after, handle_by}
use Rattle.client_api.specs.Machine.{Going, At, Ended, asked, next, after}
use Rattle.client_api.specs.Steps.{IsRun}

-- where the tables say that a call is
abbrev pub placed : Call → Replies → Going
placed call rs =
    cond (is_some (sends call rs)) (At call (length rs) (joined call rs) (was_idle call rs))
    (Ended (api_answer call rs) (handle_after call rs))

some_true : (o : Option Asked) → IsSome o → is_some o ≡ true
some_true None s = absurd (cc)
some_true (Some x) s = refl

-- the last reply of a call with a reply gives its answer
last_answer : (call : Call) (r : Heard) (rs : Replies) → IsSome (sends call rs) → by_last call (joined call (r ∷ rs)) (was_idle call rs) r ≡ api_answer call (r ∷ rs)
last_answer (calls.Decided a h) r [] s = absurd (cc)
last_answer (calls.Decided a h) r (q ∷ rs) s = absurd (cc)
last_answer (calls.Connect c i b) r rs s = refl
last_answer (calls.Disconnect h) r rs s = refl
last_answer (calls.Select h aid) r rs s = refl
last_answer (calls.LogIn h l) r rs s = refl
last_answer (calls.LogOut h) r rs s = refl
last_answer (calls.Get h p) r rs s = refl
last_answer (calls.Put h e) r rs s = refl
last_answer (calls.Crypt h a k i) r rs s = refl
last_answer (calls.Admin h a k) r rs s = refl
last_answer (calls.Transmit h b) r rs s = refl
last_answer (calls.Switch c a) r rs s = refl

-- a call is where the tables say
pub after_placed : (call : Call) (rs : Replies) → IsRun call rs → after call rs ≡ placed call rs
after_placed call [] run = refl
after_placed call (r ∷ rs) run =
    ap (λ g. next g r) (after_placed call rs run.0 ∙ ap (λ b. cond b (At call (length rs) (joined call rs) (was_idle call rs)) (Ended (api_answer call rs) (handle_after call rs))) (some_true (sends call rs) run.1))
    ∙ ap (λ a. cond (is_some (sends call (r ∷ rs))) (At call (suc (length rs)) (joined call (r ∷ rs)) (was_idle call (r ∷ rs))) (Ended a (handle_by call r))) (last_answer call r rs run.1)

asked_placed : (call : Call) (rs : Replies) (o : Option Asked) → sends call rs ≡ o → (IsSome o → turn_of call (length rs) (joined call rs) ≡ o) → asked (placed call rs) ≡ o
asked_placed call rs None e t = ap (λ p. asked (cond (is_some p) (At call (length rs) (joined call rs) (was_idle call rs)) (Ended (api_answer call rs) (handle_after call rs)))) e
asked_placed call rs (Some x) e t = ap (λ p. asked (cond (is_some p) (At call (length rs) (joined call rs) (was_idle call rs)) (Ended (api_answer call rs) (handle_after call rs)))) e ∙ t refl

turn_sent : (call : Call) (rs : Replies) (o : Option Asked) → sends call rs ≡ o → IsSome o → turn_of call (length rs) (joined call rs) ≡ o
turn_sent call [] o e s = e
turn_sent call (r ∷ rs) o e s = go (goes_on call (length rs) r) e where
  go : (b : Bool) → cond b (turn_of call (suc (length rs)) (joined call (r ∷ rs))) None ≡ o → turn_of call (suc (length rs)) (joined call (r ∷ rs)) ≡ o
  go true e = e
  go false e = absurd (let n = subst (λ (o : Option Asked). IsSome o) (sym e) s in cc)

-- the machine asks what the table says
pub asked_after : (call : Call) (rs : Replies) → IsRun call rs → asked (after call rs) ≡ sends call rs
asked_after call rs run = ap asked (after_placed call rs run) ∙ asked_placed call rs (sends call rs) refl (turn_sent call rs (sends call rs) refl)

-- at its end a call has the answer and the handle of the tables
pub ended_after : (call : Call) (rs : Replies) → IsRun call rs → sends call rs ≡ None → after call rs ≡ Ended (api_answer call rs) (handle_after call rs)
ended_after call rs run e = after_placed call rs run ∙ ap (λ o. cond (is_some o) (At call (length rs) (joined call rs) (was_idle call rs)) (Ended (api_answer call rs) (handle_after call rs))) e
