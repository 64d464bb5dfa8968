-- Passes in the order of their turnstiles.
use Rattle.std.proofs.Common.{◌≡◌, ◌∙◌, ℕ, true, List, [], ◌∷◌, ◌++◌, length, set, Some, sym, subst, arith, length-set, length-append}
use mathlib.Core.Logic.{dite}
use native.Mathlib.Decide.{ℕ_discrete}
use Rattle.std.specs.List.{slice_get}
use Rattle.turnstile.specs.Known.{Gate, Known, IsPassOf}
use Rattle.turnstile_rows.specs.Rows.{ArePassesOf, AreFirst}
use Rattle.turnstile_rows.proofs.Lists.{set_same, set_apart, last_is, longer_at}

module _ {B E : Type 0} where
  pub passes_set : (gates : List (Gate B)) (passes : List (Known B E)) (card : ℕ) (gate : Gate B) (after : Known B E)
      → ArePassesOf gates passes → slice_get gates card ≡ Some gate → IsPassOf gate after → ArePassesOf gates (set passes card after)
  passes_set gates passes card gate after are at is = record {
    many = are.many ∙ sym (length-set passes card after);
    each = λ k other pass here there. dite (ℕ_discrete k card)
        (λ e. let same : after ≡ pass = set_same passes card after pass (subst (λ (j : ℕ). slice_get (set passes card after) j ≡ Some pass) e there) in
        let both : Some gate ≡ Some other = sym at ∙ subst (λ (j : ℕ). slice_get gates j ≡ Some other) e here in
        let one : gate ≡ other = cc in
        let to : IsPassOf other after = subst (λ (z : Gate B). IsPassOf z after) one is in
        subst (λ (z : Known B E). IsPassOf other z) same to)
        (λ n. are.each k other pass here (sym (set_apart passes card k after n) ∙ there));
  }

  pub first_set : (passes : List (Known B E)) (card : ℕ) (after : Known B E) → AreFirst passes → after.is_first ≡ true → AreFirst (set passes card after)
  first_set passes card after all is k pass at = dite (ℕ_discrete k card)
      (λ e. let same : after ≡ pass = set_same passes card after pass (subst (λ (j : ℕ). slice_get (set passes card after) j ≡ Some pass) e at) in
      subst (λ (z : Known B E). z.is_first ≡ true) same is)
      (λ n. all k pass (sym (set_apart passes card k after n) ∙ at))

  -- without the last turnstile and the last pass
  pub record Without (gates : List (Gate B)) (gate : Gate B) (passes : List (Known B E)) (pass : Known B E) : Type 0 where
    pub own : ArePassesOf gates passes
    pub last : IsPassOf gate pass

  pub without : (gates : List (Gate B)) (gate : Gate B) (passes : List (Known B E)) (pass : Known B E) → ArePassesOf (gates ++ gate ∷ []) (passes ++ pass ∷ []) → Without gates gate passes pass
  without gates gate passes pass are =
      let e = are.many in
      let same : length gates ≡ length passes = omega (arith, e, length-append gates (gate ∷ []), length-append passes (pass ∷ [])) in
      record {
        own = record { many = same; each = λ k g p here there. are.each k g p (longer_at gates (gate ∷ []) k g here) (longer_at passes (pass ∷ []) k p there) };
        last = are.each (length gates) gate pass (last_is gates gate) (subst (λ (n : ℕ). slice_get (passes ++ pass ∷ []) n ≡ Some pass) (sym same) (last_is passes pass));
      }

  -- what holds of each pass holds of each but the last, and of the last
  pub each_less : (P : Known B E → Type 0) (passes : List (Known B E)) (pass : Known B E) → ((k : ℕ) (p : Known B E) → slice_get (passes ++ pass ∷ []) k ≡ Some p → P p)
      → ((k : ℕ) (p : Known B E) → slice_get passes k ≡ Some p → P p) × P pass
  each_less P passes pass all = ((λ k p at. all k p (longer_at passes (pass ∷ []) k p at)), all (length passes) pass (last_is passes pass))
