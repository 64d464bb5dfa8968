-- When the first pass comes back alone, the value is at home, and all records are its own.
use Rattle.std.proofs.Common.{◌≡◌, ◌≢◌, ℕ, zero, suc, ◌<◌, ◌≤◌, Bool, true, false, cond, not, ◌&&◌, List, [], ◌∷◌, length, Option, Some, None, sym, refl, ap, ◌∙◌, subst, eq-eqb, arith}
use Rattle.std.specs.Prelude.{is_some}
use mathlib.Core.Option.{some, some-injective}
use mathlib.Core.Logic.{dite}
use native.Mathlib.Decide.{ℕ_discrete}
use lib.ListN.{get_elem?}
use Rattle.atomic_table.specs.Table.{State, Final, Seen}
use Rattle.turnstile.specs.declared.view.View.{View}
use Rattle.turnstile.specs.Rule.{owned, records_of, home_of, taken_by, IsSeatBelow, is_out, count_out}
use Rattle.turnstile.specs.Turns.{Closed}
use Rattle.turnstile.specs.Known.{Known}
use Rattle.turnstile.proofs.Owned.{at_some, length_records, owned_some, owned_all}
use Rattle.turnstile.proofs.Counting.{count_out_none}
use Rattle.turnstile.proofs.Opening.{Law}

-- who has seen past each record has seen as many as there are
seen_all : {E : Type 0} (n : ℕ) (log : List (ℕ × E)) (seen : ℕ) → length log ≡ n → seen ≤ length log → ((j : ℕ) (q : ℕ × E) → get_elem? log j ≡ some q → j < seen) → seen ≡ length log
seen_all zero log seen is le below = omega (arith, is, le)
seen_all (suc n) log seen is le below = let h : n < length log = omega (arith, is) in let e = at_some log n h in let b = below n e.0 e.1 in omega (arith, b, is, le)

module _ {X B E : Type 0} (stands_for : X → B → List E → Type 0) (base : B) where
  -- where none is out, all but the first are joined away
  spent_one : (s : State (Option X) (View X B E)) (k : Law stands_for base s) (id : ℕ) (v : View X B E) → get_elem? s.views id ≡ some v → v.is_first ≡ true → v.out ≡ 0 → (o : ℕ) (u : View X B E) → get_elem? s.views o ≡ some u → o ≢ 0 → u.base ≡ None
  spent_one s k id v at first out o u there other =
      let f = (k.views id v at).first first in
      let none : count_out s.views ≡ 0 = sym f.2 ∙ out in
      let not_out : is_out u ≡ false = count_out_none s.views o u none there in
      go u.base u.is_first refl refl not_out
    where
      go : (a : Option B) (b : Bool) → u.base ≡ a → u.is_first ≡ b → is_out u ≡ false → u.base ≡ None
      go None b is more plain = is
      go (Some c) true is more plain = absurd (other (((k.views o u there).first more).0))
      go (Some c) false is more plain = let q : true ≡ false = sym (λ i. is_some (is i) && not (more i)) ∙ plain in absurd (cc)

  ends_by : (h : Option ℕ) (s : State (Option X) (View X B E)) (k : Law stands_for base s) (id : ℕ) (v : View X B E) → k.holder ≡ h → get_elem? s.views id ≡ some v → v.is_first ≡ true → v.out ≡ 0 → v.taken ≡ None → h ≡ None
  ends_by None s k id v is at first out idle = refl
  ends_by (Some h) s k id v is at first out idle =
      let n : h < length s.views = subst (λ o. IsSeatBelow (length s.views) o) is k.seat in
      let u = at_some s.views h n in
      let f = k.views h u.0 u.1 in
      let has : u.0.taken ≡ Some k.value = f.taken ∙ (ap (λ o. taken_by o k.value h) is ∙ ap (λ b. cond b (Some k.value) None) (eq-eqb h h refl)) in
      let mine = (k.views id v at).first first in
      absurd (dite (ℕ_discrete h 0)
      (λ z. let same : u.0 ≡ v = some-injective u.0 v (sym u.1 ∙ (ap (λ j. get_elem? s.views j) (z ∙ sym mine.0) ∙ at)) in
      let q : Some k.value ≡ None = sym has ∙ (ap (λ (w : View X B E). w.taken) same ∙ idle) in cc)
      (λ z. let gone_is = f.away (spent_one s k id v at first out h u.0 u.1 z) in
      let q : Some k.value ≡ None = sym has ∙ gone_is.1 in cc))

  pub closes : (id : ℕ) (v : View X B E) (b : B) (ws : List ℕ) (xs : List (Option X)) (r : Option X) → v.is_first ≡ true → v.base ≡ Some b → v.taken ≡ None → v.out ≡ 0 → Final (Seen (Law stands_for base) id v) ws xs → get_elem? xs 0 ≡ some r
      → (p : Known B E) → p.own ≡ v.own → p.seen ≡ v.seen → (x : X) × (r ≡ Some x) × Closed stands_for base x p
  closes id v b ws xs r first based idle out end found p own seen =
      let s = end.0 in
      let k = end.1.0 in
      let at = end.1.1 in
      let mine = k.views id v at in
      let f = mine.first first in
      let free : k.holder ≡ None = ends_by k.holder s k id v refl at first out idle in
      let homes : s.homes ≡ some (Some k.value) ∷ [] = k.homes ∙ ap (λ h. home_of h k.value ∷ []) free in
      let here : get_elem? xs 0 ≡ some (Some k.value) = end.4 0 (Some k.value) (ap (λ hs. get_elem? hs 0) homes) in
      let all : (j o : ℕ) (q : E) → get_elem? k.log j ≡ some (o, q) → o ≡ 0 = λ j o q there. dite (ℕ_discrete o 0) (λ z. z)
      (λ z. let u = at_some s.views o (k.owners j o q there) in
      let a = (k.views o u.0 u.1).away (spent_one s k id v at first out o u.0 u.1 z) in
      absurd (owned_some o 0 k.log j q there (sym (k.views o u.0 u.1).own ∙ a.0))) in
      let n : length (records_of k.log) ≡ length k.log = length_records k.log in
      let zero_id : id ≡ 0 = f.0 in (
        k.value,
        some-injective r (Some k.value) (sym found ∙ here),
        record {
          records = records_of k.log;
          stands = k.stands;
          own = own ∙ (mine.own ∙ (ap (λ j. owned j 0 k.log) f.0 ∙ owned_all 0 0 k.log all));
          seen = seen ∙ (seen_all (length k.log) k.log v.seen refl mine.seen (λ j q there. mine.below j q.1 (subst (λ o. get_elem? k.log j ≡ some (o, q.1)) (all j q.0 q.1 there ∙ sym zero_id) there)) ∙ sym n);
        },
      )
