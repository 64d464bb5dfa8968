-- Two owners made one.
use Rattle.std.proofs.Common.{◌≡◌, ◌≢◌, ◌⊎◌, inl, inr, ℕ, zero, suc, ◌+◌, ◌<◌, ◌≤◌, Bool, true, false, eqb, ltb, cond, List, [], ◌∷◌, length, sym, refl, ap, ◌∙◌, subst, eq-eqb, ne_eqb, arith}
use borrow.Author.Tests.{lt-ltb, le-ltb}
use mathlib.Core.Logic.{dite}
use native.Mathlib.Decide.{ℕ_discrete}
use mathlib.Core.Option.{some, some-injective, some-ne-none}
use lib.ListN.{get_elem?}
use Rattle.turnstile.specs.Rule.{owned, records_of}
use Rattle.turnstile.specs.Records.{inserted, merged, Above, Rises, IsFree, Apart}
use Rattle.std.proofs.lemmas.List.Elements.{All-nil, All-cons, All-head, All-tail}
use Rattle.turnstile.proofs.Owned.{owned_here, owned_else}

owner_is : (id other n : ℕ) → n ≡ other → cond (eqb n other) id n ≡ id
owner_is id other n is = ap (λ b. cond b id n) (eq-eqb n other is)

owner_stays : (id other n : ℕ) → n ≢ other → cond (eqb n other) id n ≡ n
owner_stays id other n not = ap (λ b. cond b id n) (ne_eqb n other not)

module _ {E : Type 0} where
  -- what `other` owned is now owned by id
  abbrev pub moved : ℕ → ℕ → List (ℕ × E) → List (ℕ × E)
  moved id other [] = []
  moved id other (e ∷ es) = (cond (eqb e.0 other) id e.0, e.1) ∷ moved id other es

  pub records_moved : (id other : ℕ) (log : List (ℕ × E)) → records_of (moved id other log) ≡ records_of log
  records_moved id other [] = refl
  records_moved id other (e ∷ es) = ap (λ l. e.1 ∷ l) (records_moved id other es)

  pub length_moved : (id other : ℕ) (log : List (ℕ × E)) → length (moved id other log) ≡ length log
  length_moved id other [] = refl
  length_moved id other (e ∷ es) = ap suc (length_moved id other es)

  -- an entry of the new log was one of the old log's: id's or other's, or a third one's
  pub moved_at : (id other : ℕ) (log : List (ℕ × E)) (k o : ℕ) (r : E) → get_elem? (moved id other log) k ≡ some (o, r)
      → ((o ≡ id) × (get_elem? log k ≡ some (other, r))) ⊎ (get_elem? log k ≡ some (o, r))
  moved_at id other [] k o r at = absurd (some-ne-none (o, r) (sym at))
  moved_at id other (e ∷ es) zero o r at =
      let p = some-injective (cond (eqb e.0 other) id e.0, e.1) (o, r) at in
      let p0 = ap (λ (z : ℕ × E). z.0) p in
      let p1 = ap (λ (z : ℕ × E). z.1) p in
      dite (ℕ_discrete e.0 other)
      (λ is. inl (sym p0 ∙ owner_is id other e.0 is, (λ i. some (is i, p1 i))))
      (λ not. inr (λ i. some ((sym (owner_stays id other e.0 not) ∙ p0) i, p1 i)))
  moved_at id other (e ∷ es) (suc k) o r at = moved_at id other es k o r at

  pub owned_third : (id other j k : ℕ) (log : List (ℕ × E)) → j ≢ id → j ≢ other → owned j k (moved id other log) ≡ owned j k log
  owned_third id other j k [] a b = refl
  owned_third id other j k (e ∷ es) a b =
      let later = owned_third id other j (k + 1) es a b in
      let e' : ℕ × E = (cond (eqb e.0 other) id e.0, e.1) in
      let rest : List (ℕ × E) = moved id other es in
      dite (ℕ_discrete e.0 other)
      (λ is. let m : cond (eqb e.0 other) id e.0 ≢ j = λ q. a (sym q ∙ owner_is id other e.0 is) in
      let n : e.0 ≢ j = λ q. b (sym q ∙ is) in
      owned_else j k e' rest m ∙ (later ∙ sym (owned_else j k e es n)))
      (λ not. let s = owner_stays id other e.0 not in
      dite (ℕ_discrete e.0 j)
      (λ q. owned_here j k e' rest (s ∙ q) ∙ (ap (λ l. (k, e.1) ∷ l) later ∙ sym (owned_here j k e es q)))
      (λ q. owned_else j k e' rest (λ z. q (sym s ∙ z)) ∙ (later ∙ sym (owned_else j k e es q))))

  pub owned_gone : (id other k : ℕ) (log : List (ℕ × E)) → other ≢ id → owned other k (moved id other log) ≡ []
  owned_gone id other k [] a = refl
  owned_gone id other k (e ∷ es) a =
      let later = owned_gone id other (k + 1) es a in
      let e' : ℕ × E = (cond (eqb e.0 other) id e.0, e.1) in
      let rest : List (ℕ × E) = moved id other es in
      dite (ℕ_discrete e.0 other)
      (λ is. owned_else other k e' rest (λ q. a (sym q ∙ owner_is id other e.0 is)) ∙ later)
      (λ not. owned_else other k e' rest (λ q. not (sym (owner_stays id other e.0 not) ∙ q)) ∙ later)

  pub owned_above : (id k m : ℕ) (log : List (ℕ × E)) → k < m → Above k (owned id m log)
  owned_above id k m [] lt = All-nil (λ e. k < e.0)
  owned_above id k m (e ∷ es) lt =
      let later : Above k (owned id (m + 1) es) = owned_above id k (m + 1) es (omega arith) in
      dite (ℕ_discrete e.0 id)
      (λ is. subst (λ l. Above k l) (sym (owned_here id m e es is)) (All-cons (λ f. k < f.0) (m, e.1) (owned id (m + 1) es) lt later))
      (λ not. subst (λ l. Above k l) (sym (owned_else id m e es not)) later)

  inserted_front : (k : ℕ) (r : E) (l : List (ℕ × E)) → Above k l → inserted (k, r) l ≡ (k, r) ∷ l
  inserted_front k r [] a = refl
  inserted_front k r (e ∷ es) a = let h : k < e.0 = All-head (λ f. k < f.0) e es a in ap (λ b. cond b ((k, r) ∷ e ∷ es) (e ∷ inserted (k, r) es)) (lt-ltb k e.0 h)

  merged_front : (k : ℕ) (r : E) (xs ys : List (ℕ × E)) → Above k xs → merged xs ((k, r) ∷ ys) ≡ (k, r) ∷ merged xs ys
  merged_front k r [] ys a = refl
  merged_front k r (x ∷ xs) ys a =
      let h : k < x.0 = All-head (λ f. k < f.0) x xs a in
      let le : k ≤ x.0 = omega (arith, h) in
      ap (λ l. inserted x l) (merged_front k r xs ys (All-tail (λ f. k < f.0) x xs a)) ∙ ap (λ b. cond b (x ∷ (k, r) ∷ merged xs ys) ((k, r) ∷ inserted x (merged xs ys))) (le-ltb x.0 k le)

  pub owned_merged : (id other k : ℕ) (log : List (ℕ × E)) → other ≢ id → owned id k (moved id other log) ≡ merged (owned id k log) (owned other k log)
  owned_merged id other k [] a = refl
  owned_merged id other k (e ∷ es) a =
      let later = owned_merged id other (k + 1) es a in
      let e' : ℕ × E = (cond (eqb e.0 other) id e.0, e.1) in
      let rest : List (ℕ × E) = moved id other es in
      let mine : List (ℕ × E) = owned id (k + 1) es in
      let its : List (ℕ × E) = owned other (k + 1) es in
      let k_lt : k < k + 1 = omega arith in
      dite (ℕ_discrete e.0 other)
      (λ is. let not_id : e.0 ≢ id = λ q. a (sym is ∙ q) in
      owned_here id k e' rest (owner_is id other e.0 is)
      ∙ (ap (λ l. (k, e.1) ∷ l) later ∙ (sym (merged_front k e.1 mine its (owned_above id k (k + 1) es k_lt))
      ∙ (λ i. merged (sym (owned_else id k e es not_id) i) (sym (owned_here other k e es is) i)))))
      (λ not. let s = owner_stays id other e.0 not in
      dite (ℕ_discrete e.0 id)
      (λ q. owned_here id k e' rest (s ∙ q)
      ∙ (sym (inserted_front k e.1 (owned id (k + 1) rest) (owned_above id k (k + 1) rest k_lt))
      ∙ (ap (λ l. inserted (k, e.1) l) later
      ∙ (λ i. merged (sym (owned_here id k e es q) i) (sym (owned_else other k e es not) i)))))
      (λ q. owned_else id k e' rest (λ z. q (sym s ∙ z))
      ∙ (later ∙ (λ i. merged (sym (owned_else id k e es q) i) (sym (owned_else other k e es not) i)))))

  pub owned_rises : (id k n : ℕ) (log : List (ℕ × E)) → ((j : ℕ) (r : E) → get_elem? log j ≡ some (id, r) → k + j < n) → Rises n (owned id k log)
  owned_rises id k n [] below = tt
  owned_rises id k n (e ∷ es) below =
      let later : Rises n (owned id (k + 1) es) = owned_rises id (k + 1) n es (λ j r at. let h = below (suc j) r at in omega (arith, h)) in
      dite (ℕ_discrete e.0 id)
      (λ is. let h = below 0 e.1 (λ i. some (is i, e.1)) in
      let lt : k < k + 1 = omega arith in
      subst (λ l. Rises n l) (sym (owned_here id k e es is)) (omega (arith, h), owned_above id k (k + 1) es lt, later))
      (λ not. subst (λ l. Rises n l) (sym (owned_else id k e es not)) later)

  -- what is in two lists that were made one with rising places has no place in both
  free_of : (k : ℕ) (x : ℕ × E) (zs : List (ℕ × E)) → IsFree k (inserted x zs) → IsFree k zs
  free_of k x [] free = All-nil (λ e. e.0 ≢ k)
  free_of k x (f ∷ fs) free = go (ltb x.0 f.0) refl (λ h. free_of k x fs h)
    where
      go : (b : Bool) → ltb x.0 f.0 ≡ b → (IsFree k (inserted x fs) → IsFree k fs) → IsFree k (f ∷ fs)
      go true is more = let front : IsFree k (x ∷ f ∷ fs) = subst (λ c. IsFree k (cond c (x ∷ f ∷ fs) (f ∷ inserted x fs))) is free in All-tail (λ e. e.0 ≢ k) x (f ∷ fs) front
      go false is more =
          let behind : IsFree k (f ∷ inserted x fs) = subst (λ c. IsFree k (cond c (x ∷ f ∷ fs) (f ∷ inserted x fs))) is free in
          All-cons (λ e. e.0 ≢ k) f fs (All-head (λ e. e.0 ≢ k) f (inserted x fs) behind) (more (All-tail (λ e. e.0 ≢ k) f (inserted x fs) behind))

  free_of_merged : (k : ℕ) (xs ys : List (ℕ × E)) → IsFree k (merged xs ys) → IsFree k ys
  free_of_merged k [] ys free = free
  free_of_merged k (x ∷ xs) ys free = free_of_merged k xs ys (free_of k x (merged xs ys) free)

  free_above : (k : ℕ) (zs : List (ℕ × E)) → Above k zs → IsFree k zs
  free_above k [] above = All-nil (λ e. e.0 ≢ k)
  free_above k (z ∷ zs) above =
      let lt : k < z.0 = All-head (λ e. k < e.0) z zs above in
      All-cons (λ e. e.0 ≢ k) z zs (λ same. omega (arith, lt, same)) (free_above k zs (All-tail (λ e. k < e.0) z zs above))

  above_inserted : (k : ℕ) (x : ℕ × E) (zs : List (ℕ × E)) → Above k (inserted x zs) → (k < x.0) × Above k zs
  above_inserted k x [] above = (All-head (λ e. k < e.0) x [] above, All-nil (λ e. k < e.0))
  above_inserted k x (f ∷ fs) above = go (ltb x.0 f.0) refl (λ h. above_inserted k x fs h)
    where
      go : (b : Bool) → ltb x.0 f.0 ≡ b → (Above k (inserted x fs) → (k < x.0) × Above k fs) → (k < x.0) × Above k (f ∷ fs)
      go true is more =
          let front : Above k (x ∷ f ∷ fs) = subst (λ c. Above k (cond c (x ∷ f ∷ fs) (f ∷ inserted x fs))) is above in
          (All-head (λ e. k < e.0) x (f ∷ fs) front, All-tail (λ e. k < e.0) x (f ∷ fs) front)
      go false is more =
          let behind : Above k (f ∷ inserted x fs) = subst (λ c. Above k (cond c (x ∷ f ∷ fs) (f ∷ inserted x fs))) is above in
          let later = more (All-tail (λ e. k < e.0) f (inserted x fs) behind) in
          (later.0, All-cons (λ e. k < e.0) f fs (All-head (λ e. k < e.0) f (inserted x fs) behind) later.1)

  rises_inserted : (n : ℕ) (x : ℕ × E) (zs : List (ℕ × E)) → Rises n (inserted x zs) → IsFree x.0 zs × Rises n zs
  rises_inserted n x [] rises = (All-nil (λ e. e.0 ≢ x.0), tt)
  rises_inserted n x (f ∷ fs) rises = go (ltb x.0 f.0) refl (λ h. rises_inserted n x fs h)
    where
      go : (b : Bool) → ltb x.0 f.0 ≡ b → (Rises n (inserted x fs) → IsFree x.0 fs × Rises n fs) → IsFree x.0 (f ∷ fs) × Rises n (f ∷ fs)
      go true is more =
          let front : Rises n (x ∷ f ∷ fs) = subst (λ c. Rises n (cond c (x ∷ f ∷ fs) (f ∷ inserted x fs))) is rises in
          (free_above x.0 (f ∷ fs) front.1, front.2)
      go false is more =
          let behind : Rises n (f ∷ inserted x fs) = subst (λ c. Rises n (cond c (x ∷ f ∷ fs) (f ∷ inserted x fs))) is rises in
          let later = more behind.2 in
          let above = above_inserted f.0 x fs behind.1 in
          let lt = above.0 in
          (All-cons (λ e. e.0 ≢ x.0) f fs (λ same. omega (arith, lt, same)) later.0, (behind.0, above.1, later.1))

  pub apart_from : (n : ℕ) (xs ys : List (ℕ × E)) → Rises n (merged xs ys) → Apart xs ys
  apart_from n [] ys rises = All-nil (λ e. IsFree e.0 ys)
  apart_from n (x ∷ xs) ys rises =
      let parts = rises_inserted n x (merged xs ys) rises in
      All-cons (λ e. IsFree e.0 ys) x xs (free_of_merged x.0 xs ys parts.0) (apart_from n xs ys parts.1)
