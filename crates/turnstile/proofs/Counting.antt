-- How many passes there are beside the first.
use Rattle.std.proofs.Common.{◌≡◌, ℕ, zero, suc, ◌+◌, Bool, true, false, cond, List, [], ◌∷◌, ◌++◌, set, sym, refl, ap, ◌∙◌, arith}
use mathlib.Core.Option.{some, some-injective, some-ne-none}
use lib.ListN.{get_elem?}
use Rattle.turnstile.specs.declared.view.View.{View}
use Rattle.turnstile.specs.Rule.{is_out, count_out}

module _ {X B E : Type 0} where
  abbrev pub weight : View X B E → ℕ
  weight v = cond (is_out v) 1 0

  pub count_out_set : (vs : List (View X B E)) (i : ℕ) (v w : View X B E) → get_elem? vs i ≡ some v → count_out (set vs i w) + weight v ≡ count_out vs + weight w
  count_out_set [] i v w at = absurd (some-ne-none v (sym at))
  count_out_set (u ∷ us) zero v w at = let same : weight u ≡ weight v = ap weight (some-injective u v at) in omega (arith, same)
  count_out_set (u ∷ us) (suc i) v w at = let h = count_out_set us i v w at in omega (arith, h)

  pub count_out_same : (vs : List (View X B E)) (i : ℕ) (v w : View X B E) → get_elem? vs i ≡ some v → is_out w ≡ is_out v → count_out (set vs i w) ≡ count_out vs
  count_out_same vs i v w at same = let h = count_out_set vs i v w at in let s : weight w ≡ weight v = ap (λ b. cond b 1 0) same in omega (arith, h, s)

  pub count_out_snoc : (vs : List (View X B E)) (w : View X B E) → count_out (vs ++ w ∷ []) ≡ count_out vs + weight w
  count_out_snoc [] w = omega arith
  count_out_snoc (u ∷ us) w = let h = count_out_snoc us w in omega (arith, h)

  pub count_out_none : (vs : List (View X B E)) (i : ℕ) (v : View X B E) → count_out vs ≡ 0 → get_elem? vs i ≡ some v → is_out v ≡ false
  count_out_none [] i v none at = absurd (some-ne-none v (sym at))
  count_out_none (u ∷ us) zero v none at = go (is_out v) refl
    where
      go : (b : Bool) → is_out v ≡ b → is_out v ≡ false
      go true is = let w : weight u ≡ 1 = ap weight (some-injective u v at) ∙ ap (λ b. cond b 1 0) is in absurd (omega (arith, w, none))
      go false is = is
  count_out_none (u ∷ us) (suc i) v none at = count_out_none us i v (omega (arith, none)) at
