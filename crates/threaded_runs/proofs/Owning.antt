-- The own records of a log, and its places.
use Rattle.std.proofs.Common.{◌≡◌, ◌⊎◌, inl, inr, ℕ, ◌<◌, Bool, true, false, cond, eqb, List, [], ◌∷◌, ◌++◌, Some, refl, sym, ap, subst, eq-eqb, ne_eqb}
use mathlib.Core.Logic.{dite}
use native.Mathlib.Decide.{ℕ_discrete}
use Rattle.turnstile_rows.specs.Gathered.{Owns}
use Rattle.piv_rules.specs.Acts.{CardRecord, Records}
use Rattle.client_api.specs.Ports.{Log, AreInside}
use Rattle.script_runs.specs.Shares.{record_at, AreThere, Has}
use Rattle.client_threads.specs.Passes.{owns_of}

owns_before : (xs : List (ℕ × CardRecord)) (e : ℕ × CardRecord) (place : ℕ) (r : CardRecord) → Owns xs place r → Owns (xs ++ e ∷ []) place r
owns_before [] e place r o = absurd o
owns_before (x ∷ xs) e place r (inl h) = inl h
owns_before (x ∷ xs) e place r (inr h) = inr (owns_before xs e place r h)

owns_last : (xs : List (ℕ × CardRecord)) (place : ℕ) (r : CardRecord) → Owns (xs ++ (place, r) ∷ []) place r
owns_last [] place r = inl (refl, refl)
owns_last (x ∷ xs) place r = inr (owns_last xs place r)

owns_either : (xs : List (ℕ × CardRecord)) (e : ℕ × CardRecord) (place : ℕ) (r : CardRecord) → Owns (xs ++ e ∷ []) place r → Owns xs place r ⊎ ((e.0 ≡ place) × (e.1 ≡ r))
owns_either [] e place r (inl h) = inr h
owns_either [] e place r (inr h) = absurd h
owns_either (x ∷ xs) e place r (inl h) = inl (inl h)
owns_either (x ∷ xs) e place r (inr h) = go (owns_either xs e place r h) where
  go : Owns xs place r ⊎ ((e.0 ≡ place) × (e.1 ≡ r)) → Owns (x ∷ xs) place r ⊎ ((e.0 ≡ place) × (e.1 ≡ r))
  go (inl h) = inl (inr h)
  go (inr h) = inr h

-- each record of a log is one of those of its card
pub there_by : (records : ℕ → Records) (cards : ℕ) (log : Log) → AreInside cards log → ((card place : ℕ) (r : CardRecord) → card < cards → Owns (owns_of card log) place r → record_at (records card) place ≡ Some r)
    → AreThere records log
there_by records cards [] inside all = tt
there_by records cards (o ∷ log) inside all = (
  there_by records cards log inside.0 (λ card place r lt own. all card place r lt (later card place r own)),
  all o.card o.place o.did inside.1 (subst (λ (l : List (ℕ × CardRecord)). Owns l o.place o.did) (sym here) (owns_last (owns_of o.card log) o.place o.did)),
)
  where
    here : owns_of o.card (o ∷ log) ≡ owns_of o.card log ++ (o.place, o.did) ∷ []
    here = ap (λ (b : Bool). cond b (owns_of o.card log ++ (o.place, o.did) ∷ []) (owns_of o.card log)) (eq-eqb o.card o.card refl)

    later : (card place : ℕ) (r : CardRecord) → Owns (owns_of card log) place r → Owns (owns_of card (o ∷ log)) place r
    later card place r own = go (eqb o.card card) where
      go : (b : Bool) → Owns (cond b (owns_of card log ++ (o.place, o.did) ∷ []) (owns_of card log)) place r
      go true = owns_before (owns_of card log) (o.place, o.did) place r own
      go false = own

-- a place of a card is one of its own records
pub has_owns : (log : Log) (card place : ℕ) → Has log card place → (r : CardRecord) × Owns (owns_of card log) place r
has_owns [] card place h = absurd h
has_owns (o ∷ log) card place (inl h) = (
  o.did,
  subst (λ (b : Bool). Owns (cond b (owns_of card log ++ (o.place, o.did) ∷ []) (owns_of card log)) place o.did) (sym (eq-eqb o.card card h.0))
      (subst (λ (n : ℕ). Owns (owns_of card log ++ (n, o.did) ∷ []) place o.did) (sym h.1) (owns_last (owns_of card log) place o.did)),
)
has_owns (o ∷ log) card place (inr h) = let f = has_owns log card place h in (f.0, go f.0 f.1 (eqb o.card card)) where
  go : (r : CardRecord) → Owns (owns_of card log) place r → (b : Bool) → Owns (cond b (owns_of card log ++ (o.place, o.did) ∷ []) (owns_of card log)) place r
  go r own true = owns_before (owns_of card log) (o.place, o.did) place r own
  go r own false = own

pub owns_has : (log : Log) (card place : ℕ) (r : CardRecord) → Owns (owns_of card log) place r → Has log card place
owns_has [] card place r own = absurd own
owns_has (o ∷ log) card place r own = dite (ℕ_discrete o.card card)
    (λ e. here e (owns_either (owns_of card log) (o.place, o.did) place r (subst (λ (b : Bool). Owns (cond b (owns_of card log ++ (o.place, o.did) ∷ []) (owns_of card log)) place r) (eq-eqb o.card card e) own)) (λ q. owns_has log card place r q))
    (λ n. inr (owns_has log card place r (subst (λ (b : Bool). Owns (cond b (owns_of card log ++ (o.place, o.did) ∷ []) (owns_of card log)) place r) (ne_eqb o.card card n) own)))
  where
    here : o.card ≡ card → Owns (owns_of card log) place r ⊎ ((o.place ≡ place) × (o.did ≡ r)) → (Owns (owns_of card log) place r → Has log card place) → Has (o ∷ log) card place
    here e (inl h) more = inr (more h)
    here e (inr h) more = inl (e, h.0)
