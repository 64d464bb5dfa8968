-- Steps one after the other.
use Rattle.std.specs.Prelude.{IsSome, is_some, MatchOption}
use Rattle.std.proofs.Common.{◌≡◌, ◌⊎◌, inl, inr, ℕ, cond, List, [], ◌∷◌, ◌++◌, Option, Some, None, sym, refl, subst, ap, ◌∙◌}
use Rattle.piv_model.specs.declared.answers.ApiAnswer.{ApiAnswer}
use Rattle.piv_model.specs.declared.answers.ApiAnswer.TheVariants as api
use Rattle.card_acts.specs.Acts.{Heard}
use Rattle.client_api.specs.Ports.{Log, TurnedPort, Own}
use Rattle.client_api.specs.declared.call.Step.{Step}
use Rattle.client_api.specs.declared.call.Step.TheVariants as step
use Rattle.client_api.specs.Calls.{Handle, Call, Replies, Asked, sends}
use Rattle.client_api.specs.Answers.{api_answer, handle_after}
use Rattle.client_api.specs.Machine.{Going}
use Rattle.client_api.specs.Steps.{IsAt, IsRun, Went, Stepped, given, has_handle}
use Rattle.client_api.specs.Whole.{IsMade, AreOwnOf, HasAdded, IsMadeOn}
use Rattle.client_api.proofs.OneCard.{on_one_card}
use Rattle.client_api.proofs.Full.{full_alone}
use Rattle.client_api.proofs.HandedBack.{none_has, sent_has}

-- a call in progress with its replies so far and their own records. It sends a further act, or has just begun
pub record IsWithin (start now : Log → Type 0) (going : Going) (call : Call) (rs : Replies) : Type 0 where
  pub at : IsAt going call rs
  pub added : HasAdded start now call rs
  pub goes : (rs ≡ []) ⊎ IsSome (sends call rs)

abbrev Or : (Log → Type 0) → (Log → Type 0) → (ℕ → ℕ) → (ℕ → ℕ) → Call → Replies → Step → Going → Option Asked → Type 0
Or old now seen turns c rs s g o = MatchOption o ((s ≡ given c rs) × ((log : Log) → old log → now log)) (λ x. (heard : Heard) × Went old now seen turns c rs x s g heard)

some_of : (c : Call) (rs : Replies) → step.More ≡ given c rs → IsSome (sends c rs)
some_of c rs e = go (sends c rs) e where
  go : (o : Option Asked) → step.More ≡ cond (is_some o) step.More (step.Done (api_answer c rs) (handle_after c rs)) → IsSome o
  go None e = absurd (cc)
  go (Some x) e = refl

none_of : (c : Call) (rs : Replies) (a : ApiAnswer) (h : Option Handle) → IsRun c rs → is_some (handle_after c rs) ≡ has_handle c (api_answer c rs) → step.Done a h ≡ given c rs → IsMade c a h rs
none_of c rs a h run has e = go (sends c rs) refl e where
  go : (o : Option Asked) → sends c rs ≡ o → step.Done a h ≡ cond (is_some o) step.More (step.Done (api_answer c rs) (handle_after c rs)) → IsMade c a h rs
  go None s e =
      let answered : a ≡ api_answer c rs = cc in
      let handed : h ≡ handle_after c rs = cc in
      record {
        run = run;
        last = s;
        answered = answered;
        handed = handed;
        has = ap (λ (o : Option Handle). is_some o) handed ∙ (has ∙ sym (ap (has_handle c) answered));
      }
  go (Some x) s e = absurd (cc)

pub is_begun : (stands : Log → Type 0) (g : Going) (c : Call) → IsAt g c [] → (rs : Replies) × IsWithin stands stands g c rs
is_begun stands g c at = ([], record { at = at; added = λ log h. ([], refl, h); goes = inl refl })

-- one reply more, and its own record
added_more : (start old now : Log → Type 0) (c : Call) (rs : Replies) (x : Asked) (heard : Heard) → HasAdded start old c rs → sends c rs ≡ Some x → ((log : Log) → old log → TurnedPort now log x.card x.act heard) → HasAdded start now c (heard ∷ rs)
added_more start old now c rs x None added e turned log h = let a = added log h in (a.0, a.1, turned (a.0 ++ log) a.2)
added_more start old now c rs x (Some told) added e turned log h =
    let a = added log h in
    let t = turned (a.0 ++ log) a.2 in (
      t.0 ∷ a.0,
      (t.1.got, e ∙ (λ i. Some (record { card = sym t.1.on_card i; act = sym t.1.made i })), a.1),
      t.1.stands,
    )

same_after : (start old now : Log → Type 0) (c : Call) (rs : Replies) → HasAdded start old c rs → ((log : Log) → old log → now log) → HasAdded start now c rs
same_after start old now c rs added same log h = let a = added log h in (a.0, a.1, same (a.0 ++ log) a.2)

pub goes_more : (start old now : Log → Type 0) (seen turns : ℕ → ℕ) (c : Call) (rs : Replies) (g g' : Going) → IsWithin start old g c rs → Stepped old now seen turns c rs step.More g' → (more : Replies) × IsWithin start now g' c more
goes_more start old now seen turns c rs g g' within s = go (sends c rs) refl s where
  go : (o : Option Asked) → sends c rs ≡ o → Or old now seen turns c rs step.More g' o → (more : Replies) × IsWithin start now g' c more
  go None e s = absurd (let some = subst (λ (o : Option Asked). IsSome o) e (some_of c rs s.0) in cc)
  go (Some x) e s = (
    s.0 ∷ rs,
    record {
      at = s.1.goes (some_of c (s.0 ∷ rs) s.1.gives);
      added = added_more start old now c rs x s.0 within.added e s.1.sent.turned;
      goes = inr (some_of c (s.0 ∷ rs) s.1.gives);
    },
  )

-- it sends nothing, so it has just begun, and never sends anything
never_full : (seen turns : ℕ → ℕ) (c : Call) (rs : Replies) → sends c rs ≡ None → (rs ≡ []) ⊎ IsSome (sends c rs) → (x : Asked) → sends c [] ≡ Some x → seen x.card ≡ turns x.card
never_full seen turns c rs none (inl e) x some = absurd (let n : sends c [] ≡ None = subst (λ (q : Replies). sends c q ≡ None) e none in cc)
never_full seen turns c rs none (inr e) x some = absurd (let n = subst (λ (o : Option Asked). IsSome o) none e in cc)

pub goes_done : (start old now : Log → Type 0) (seen turns : ℕ → ℕ) (c : Call) (rs : Replies) (g g' : Going) (a : ApiAnswer) (h : Option Handle) → IsWithin start old g c rs → Stepped old now seen turns c rs (step.Done a h) g'
    → (more : Replies) × IsMadeOn start now seen turns c a h more
goes_done start old now seen turns c rs g g' a h within s = go (sends c rs) refl s where
  go : (o : Option Asked) → sends c rs ≡ o → Or old now seen turns c rs (step.Done a h) g' o → (more : Replies) × IsMadeOn start now seen turns c a h more
  go None e s = (
    rs,
    record {
      made = none_of c rs a h within.at.run (none_has c rs e within.goes) s.0;
      added = same_after start old now c rs within.added s.1;
      full = λ is. never_full seen turns c rs e within.goes;
    },
  )
  go (Some x) e s =
      let some = subst (λ (o : Option Asked). IsSome o) (sym e) refl in
      let made = none_of c (s.0 ∷ rs) a h (within.at.run, some) (sent_has c s.0 rs x e s.1.fits) s.1.gives in (
        s.0 ∷ rs,
        record {
          made = made;
          added = added_more start old now c rs x s.0 within.added e s.1.sent.turned;
          full = λ is first begun.
              let same : first.card ≡ x.card = on_one_card c [] rs first x begun e in
              subst (λ (k : ℕ). seen k ≡ turns k) (sym same) (s.1.sent.full (full_alone c s.0 rs some (sym made.answered ∙ is)));
        },
      )
