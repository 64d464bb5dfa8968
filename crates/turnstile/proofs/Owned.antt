-- The records of each owner in a log.
use Rattle.std.proofs.Common.{◌≡◌, ◌≢◌, ◌⊎◌, inl, inr, ⊎_elim, ℕ, zero, suc, ◌+◌, ◌<◌, Bool, true, false, eqb, cond, List, [], ◌∷◌, ◌++◌, length, Some, sym, refl, ap, ◌∙◌, subst, eq-eqb, ne_eqb, arith}
use Rattle.std.specs.List.{slice_get}
use borrow.Author.Tests.{eqb-true, eqb-false}
use mathlib.Core.Option.{some, some-injective, some-ne-none}
use lib.ListN.{get_elem?}
use Rattle.turnstile.specs.Rule.{owned, records_of}
use Rattle.turnstile.specs.Records.{InPlace, placed}
use Rattle.std.proofs.lemmas.List.Elements.{All-nil, All-cons}

pub at_below : {A : Type 0} (l : List A) (i : ℕ) (a : A) → get_elem? l i ≡ some a → i < length l
at_below [] i a e = absurd (some-ne-none a (sym e))
at_below (x ∷ xs) zero a e = omega arith
at_below (x ∷ xs) (suc i) a e = let h = at_below xs i a e in omega (arith, h)

pub at_some : {A : Type 0} (l : List A) (i : ℕ) → i < length l → (a : A) × (get_elem? l i ≡ some a)
at_some [] i h = absurd (omega arith)
at_some (x ∷ xs) zero h = (x, refl)
at_some (x ∷ xs) (suc i) h = at_some xs i (omega (arith, h))

pub at_end : {A : Type 0} (l : List A) (a b : A) (j : ℕ) → get_elem? (l ++ a ∷ []) j ≡ some b → (get_elem? l j ≡ some b) ⊎ ((j ≡ length l) × (a ≡ b))
at_end [] a b zero e = inr (refl, some-injective a b e)
at_end [] a b (suc j) e = absurd (some-ne-none b (sym e))
at_end (x ∷ xs) a b zero e = inl e
at_end (x ∷ xs) a b (suc j) e = ⊎_elim (λ t. inl t) (λ t. inr (ap suc t.0, t.1)) (at_end xs a b j e)

pub got : {A : Type 0} (l : List A) (i : ℕ) (a : A) → get_elem? l i ≡ some a → slice_get l i ≡ Some a
got [] i a e = absurd (some-ne-none a (sym e))
got (x ∷ xs) zero a e = ap Some (some-injective x a e)
got (x ∷ xs) (suc i) a e = got xs i a e

pub length_records : {E : Type 0} (log : List (ℕ × E)) → length (records_of log) ≡ length log
length_records [] = refl
length_records (e ∷ es) = ap suc (length_records es)

pub records_snoc : {E : Type 0} (log : List (ℕ × E)) (o : ℕ) (r : E) → records_of (log ++ (o, r) ∷ []) ≡ records_of log ++ r ∷ []
records_snoc [] o r = refl
records_snoc (e ∷ es) o r = ap (λ l. e.1 ∷ l) (records_snoc es o r)

module _ {E : Type 0} where
  -- the two cases of one more entry in front
  by_owner : (id k : ℕ) (e : ℕ × E) (es : List (ℕ × E)) (F : List (ℕ × E) → Type 0) → (e.0 ≡ id → F ((k, e.1) ∷ owned id (k + 1) es)) → (e.0 ≢ id → F (owned id (k + 1) es)) → F (owned id k (e ∷ es))
  by_owner id k e es F hit miss = go (eqb e.0 id) refl
    where
      go : (b : Bool) → eqb e.0 id ≡ b → F (cond b ((k, e.1) ∷ owned id (k + 1) es) (owned id (k + 1) es))
      go true is = hit (eqb-true e.0 id is)
      go false is = miss (eqb-false e.0 id is)

  pub owned_here : (id k : ℕ) (e : ℕ × E) (es : List (ℕ × E)) → e.0 ≡ id → owned id k (e ∷ es) ≡ (k, e.1) ∷ owned id (k + 1) es
  owned_here id k e es is = ap (λ b. cond b ((k, e.1) ∷ owned id (k + 1) es) (owned id (k + 1) es)) (eq-eqb e.0 id is)

  pub owned_else : (id k : ℕ) (e : ℕ × E) (es : List (ℕ × E)) → e.0 ≢ id → owned id k (e ∷ es) ≡ owned id (k + 1) es
  owned_else id k e es not = ap (λ b. cond b ((k, e.1) ∷ owned id (k + 1) es) (owned id (k + 1) es)) (ne_eqb e.0 id not)

  pub owned_mine : (id k : ℕ) (log : List (ℕ × E)) (r : E) → owned id k (log ++ (id, r) ∷ []) ≡ owned id k log ++ (k + length log, r) ∷ []
  owned_mine id k [] r = owned_here id k (id, r) [] refl ∙ ap (λ n. (n, r) ∷ []) (omega arith)
  owned_mine id k (e ∷ es) r = let h = owned_mine id (k + 1) es r in let n : k + 1 + length es ≡ k + suc (length es) = omega arith in
      by_owner id k e es (λ l. owned id k (e ∷ es ++ (id, r) ∷ []) ≡ l ++ (k + length (e ∷ es), r) ∷ [])
      (λ is. owned_here id k e (es ++ (id, r) ∷ []) is ∙ ap (λ l. (k, e.1) ∷ l) (h ∙ ap (λ m. owned id (k + 1) es ++ (m, r) ∷ []) n))
      (λ not. owned_else id k e (es ++ (id, r) ∷ []) not ∙ (h ∙ ap (λ m. owned id (k + 1) es ++ (m, r) ∷ []) n))

  pub owned_other : (id k o : ℕ) (log : List (ℕ × E)) (r : E) → o ≢ id → owned id k (log ++ (o, r) ∷ []) ≡ owned id k log
  owned_other id k o [] r not = owned_else id k (o, r) [] not
  owned_other id k o (e ∷ es) r not = let h = owned_other id (k + 1) o es r not in
      by_owner id k e es (λ l. owned id k (e ∷ es ++ (o, r) ∷ []) ≡ l)
      (λ is. owned_here id k e (es ++ (o, r) ∷ []) is ∙ ap (λ l. (k, e.1) ∷ l) h)
      (λ away. owned_else id k e (es ++ (o, r) ∷ []) away ∙ h)

  pub owned_none : (id k : ℕ) (log : List (ℕ × E)) → ((j : ℕ) (r : E) → get_elem? log j ≡ some (id, r) → Prim.⊥) → owned id k log ≡ []
  owned_none id k [] none = refl
  owned_none id k (e ∷ es) none = owned_else id k e es (λ is. none 0 e.1 (λ i. some (is i, e.1))) ∙ owned_none id (k + 1) es (λ j r at. none (suc j) r at)

  -- each stands in the list at its place
  pub stand : (id k : ℕ) (log : List (ℕ × E)) (all : List E) → ((j : ℕ) (e : ℕ × E) → get_elem? log j ≡ some e → slice_get all (k + j) ≡ Some e.1) → InPlace (owned id k log) all
  stand id k [] all at = All-nil (λ e. slice_get all e.0 ≡ Some e.1)
  stand id k (e ∷ es) all at =
      let later : InPlace (owned id (k + 1) es) all = stand id (k + 1) es all (λ j f there. subst (λ n. slice_get all n ≡ Some f.1) (omega arith) (at (suc j) f there)) in
      let here : slice_get all k ≡ Some e.1 = subst (λ n. slice_get all n ≡ Some e.1) (omega arith) (at 0 e refl) in
      by_owner id k e es (λ l. InPlace l all) (λ is. All-cons (λ e. slice_get all e.0 ≡ Some e.1) (k, e.1) (owned id (k + 1) es) here later) (λ not. later)

  pub owned_some : (id k : ℕ) (log : List (ℕ × E)) (j : ℕ) (r : E) → get_elem? log j ≡ some (id, r) → owned id k log ≡ [] → Prim.⊥
  owned_some id k [] j r at none = some-ne-none (id, r) (sym at)
  owned_some id k (e ∷ es) zero r at none =
      let is : e.0 ≡ id = ap (λ (z : ℕ × E). z.0) (some-injective e (id, r) at) in
      let q : (k, e.1) ∷ owned id (k + 1) es ≡ [] = sym (owned_here id k e es is) ∙ none in cc
  owned_some id k (e ∷ es) (suc j) r at none = by_owner id k e es (λ l. l ≡ [] → Prim.⊥) (λ is q. cc) (λ not q. owned_some id (k + 1) es j r at q) none

  pub owned_all : (id k : ℕ) (log : List (ℕ × E)) → ((j o : ℕ) (r : E) → get_elem? log j ≡ some (o, r) → o ≡ id) → owned id k log ≡ placed k (records_of log)
  owned_all id k [] all = refl
  owned_all id k (e ∷ es) all = owned_here id k e es (all 0 e.0 e.1 refl) ∙ ap (λ l. (k, e.1) ∷ l) (owned_all id (k + 1) es (λ j o r at. all (suc j) o r at))
