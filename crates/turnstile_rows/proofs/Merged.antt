-- The records of one caller more.
use Rattle.std.proofs.Common.{◌≡◌, inl, inr, ◌≢◌, ◌⊎◌, ◌∙◌, ℕ, zero, suc, ◌+◌, ◌<◌, Bool, true, false, cond, ltb, List, [], ◌∷◌, Some, sym, ap, subst, arith}
use mathlib.Core.Logic.{dite}
use native.Mathlib.Decide.{ℕ_discrete}
use Rattle.std.specs.List.{slice_get}
use Rattle.std.proofs.lemmas.List.Elements.{All-head, All-tail}
use Rattle.turnstile.specs.Records.{placed, inserted, merged, IsFree, Apart}
use Rattle.turnstile_rows.specs.Gathered.{Owns, Gathered}

module _ {E : Type 0} where
  abbrev It : ℕ × E → ℕ → E → Type 0
  It e place r = (e.0 ≡ place) × (e.1 ≡ r)

  from_inserted : (e : ℕ × E) (ys : List (ℕ × E)) (place : ℕ) (r : E) → Owns (inserted e ys) place r → It e place r ⊎ Owns ys place r
  from_inserted e [] place r o = o
  from_inserted e (f ∷ fs) place r o = go (λ h. from_inserted e fs place r h) (ltb e.0 f.0) o where
    next : It e place r ⊎ Owns fs place r → It e place r ⊎ Owns (f ∷ fs) place r
    next (inl h) = inl h
    next (inr h) = inr (inr h)

    go : (Owns (inserted e fs) place r → It e place r ⊎ Owns fs place r) → (b : Bool) → Owns (cond b (e ∷ f ∷ fs) (f ∷ inserted e fs)) place r → It e place r ⊎ Owns (f ∷ fs) place r
    go more true o = o
    go more false (inl h) = inr (inl h)
    go more false (inr h) = next (more h)

  into_inserted : (e : ℕ × E) (ys : List (ℕ × E)) (place : ℕ) (r : E) → It e place r ⊎ Owns ys place r → Owns (inserted e ys) place r
  into_inserted e [] place r o = o
  into_inserted e (f ∷ fs) place r o = go (λ h. into_inserted e fs place r h) (ltb e.0 f.0) o where
    go : (It e place r ⊎ Owns fs place r → Owns (inserted e fs) place r) → (b : Bool) → It e place r ⊎ Owns (f ∷ fs) place r → Owns (cond b (e ∷ f ∷ fs) (f ∷ inserted e fs)) place r
    go more true o = o
    go more false (inl h) = inr (more (inl h))
    go more false (inr (inl h)) = inl h
    go more false (inr (inr h)) = inr (more (inr h))

  from_merged : (xs ys : List (ℕ × E)) (place : ℕ) (r : E) → Owns (merged xs ys) place r → Owns xs place r ⊎ Owns ys place r
  from_merged [] ys place r o = inr o
  from_merged (x ∷ xs) ys place r o = go (λ h. from_merged xs ys place r h) (from_inserted x (merged xs ys) place r o) where
    next : Owns xs place r ⊎ Owns ys place r → Owns (x ∷ xs) place r ⊎ Owns ys place r
    next (inl h) = inl (inr h)
    next (inr h) = inr h

    go : (Owns (merged xs ys) place r → Owns xs place r ⊎ Owns ys place r) → It x place r ⊎ Owns (merged xs ys) place r → Owns (x ∷ xs) place r ⊎ Owns ys place r
    go more (inl h) = inl (inl h)
    go more (inr h) = next (more h)

  into_merged : (xs ys : List (ℕ × E)) (place : ℕ) (r : E) → Owns xs place r ⊎ Owns ys place r → Owns (merged xs ys) place r
  into_merged [] ys place r (inl h) = absurd h
  into_merged [] ys place r (inr h) = h
  into_merged (x ∷ xs) ys place r (inl (inl h)) = into_inserted x (merged xs ys) place r (inl h)
  into_merged (x ∷ xs) ys place r (inl (inr h)) = into_inserted x (merged xs ys) place r (inr (into_merged xs ys place r (inl h)))
  into_merged (x ∷ xs) ys place r (inr h) = into_inserted x (merged xs ys) place r (inr (into_merged xs ys place r (inr h)))

  not_free : (k : ℕ) (own : List (ℕ × E)) (place : ℕ) (r : E) → IsFree k own → Owns own place r → place ≢ k
  not_free k [] place r free o = absurd o
  not_free k (e ∷ es) place r free (inl h) = λ s. All-head (λ e. e.0 ≢ k) e es free (h.0 ∙ s)
  not_free k (e ∷ es) place r free (inr h) = not_free k es place r (All-tail (λ e. e.0 ≢ k) e es free) h

  not_in_both : (xs ys : List (ℕ × E)) (place : ℕ) (r s : E) → Apart xs ys → Owns xs place r → Owns ys place s → ⊥
  not_in_both [] ys place r s a p q = absurd p
  not_in_both (x ∷ xs) ys place r s a (inl h) q = not_free x.0 ys place s (All-head (λ e. IsFree e.0 ys) x xs a) q (sym h.0)
  not_in_both (x ∷ xs) ys place r s a (inr h) q = not_in_both xs ys place r s (All-tail (λ e. IsFree e.0 ys) x xs a) h q

  pub none_gathered : (own : ℕ → List (ℕ × E)) → Gathered 0 own []
  none_gathered own = record {
    from = λ place r o. absurd o;
    into = λ j place r lt o. absurd (omega (arith, lt));
    once = λ i j place r s lt ot p q. absurd (omega (arith, lt));
  }

  pub one_gathered : (count : ℕ) (own : ℕ → List (ℕ × E)) (all : List (ℕ × E)) → Gathered count own all → Apart all (own count) → Gathered (count + 1) own (merged all (own count))
  one_gathered count own all g a = record {
    from = λ place r o. go place r (from_merged all (own count) place r o);
    into = λ j place r lt o. dite (ℕ_discrete j count)
        (λ e. into_merged all (own count) place r (inr (subst (λ (n : ℕ). Owns (own n) place r) e o)))
        (λ n. into_merged all (own count) place r (inl (g.into j place r (let m = n in omega (arith, lt, m)) o)));
    once = λ i j place r s lt ot p q. dite (ℕ_discrete i count)
        (λ e. dite (ℕ_discrete j count)
        (λ f. e ∙ sym f)
        (λ n. absurd (not_in_both all (own count) place s r a (g.into j place s (let m = n in omega (arith, ot, m)) q) (subst (λ (n : ℕ). Owns (own n) place r) e p))))
        (λ n. dite (ℕ_discrete j count)
        (λ f. absurd (not_in_both all (own count) place r s a (g.into i place r (let m = n in omega (arith, lt, m)) p) (subst (λ (n : ℕ). Owns (own n) place s) f q)))
        (λ o. g.once i j place r s (let m = n in omega (arith, lt, m)) (let m = o in omega (arith, ot, m)) p q));
  } where
    go : (place : ℕ) (r : E) → Owns all place r ⊎ Owns (own count) place r → (j : ℕ) × (j < count + 1) × Owns (own j) place r
    go place r (inl h) = let f = g.from place r h in let lt = f.1 in (f.0, omega (arith, lt), f.2)
    go place r (inr h) = (count, omega arith, h)

  pub gathered_as : (count : ℕ) (own other : ℕ → List (ℕ × E)) (all : List (ℕ × E)) → ((j : ℕ) → j < count → own j ≡ other j) → Gathered count own all → Gathered count other all
  gathered_as count own other all same g = record {
    from = λ place r o. let f = g.from place r o in (f.0, f.1, subst (λ (l : List (ℕ × E)). Owns l place r) (same f.0 f.1) f.2);
    into = λ j place r lt o. g.into j place r lt (subst (λ (l : List (ℕ × E)). Owns l place r) (sym (same j lt)) o);
    once = λ i j place r s a b p q. g.once i j place r s a b (subst (λ (l : List (ℕ × E)). Owns l place r) (sym (same i a)) p) (subst (λ (l : List (ℕ × E)). Owns l place s) (sym (same j b)) q);
  }

  -- each record of a list stands at its place, and what stands at a place is a record of it
  pub owns_placed : (n : ℕ) (records : List E) (place : ℕ) (r : E) → slice_get records place ≡ Some r → Owns (placed n records) (n + place) r
  owns_placed n [] place r at = absurd (cc)
  owns_placed n (x ∷ xs) zero r at = inl (omega arith, cc)
  owns_placed n (x ∷ xs) (suc k) r at = inr (subst (λ (m : ℕ). Owns (placed (n + 1) xs) m r) (omega arith) (owns_placed (n + 1) xs k r at))

  pub placed_owns : (n : ℕ) (records : List E) (place : ℕ) (r : E) → Owns (placed n records) place r → (k : ℕ) × (place ≡ n + k) × (slice_get records k ≡ Some r)
  placed_owns n [] place r o = absurd o
  placed_owns n (x ∷ xs) place r (inl h) = let e = h.0 in (0, omega (arith, e), ap Some h.1)
  placed_owns n (x ∷ xs) place r (inr h) = let k = placed_owns (n + 1) xs place r h in let e = k.1 in (suc k.0, omega (arith, e), k.2)
