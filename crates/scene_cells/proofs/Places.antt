-- Elements by their places.
use Rattle.std.specs.List.{slice_get}
use Rattle.std.specs.Prelude.{option_map}
use Rattle.std.proofs.Common.{◌≡◌, ℕ, zero, suc, ◌+◌, ◌<◌, List, [], ◌∷◌, ◌++◌, length, take, drop, map, get_or, Option, Some, None, refl, sym, ap, ◌∙◌, zero-add, arith}
use Rattle.std.proofs.lemmas.List.{take_more}
use Rattle.std.proofs.lemmas.Option.{get_or_from_slice_get}

-- an element of one list behind another is one of either
pub either-place : {A P : Type 0} (xs ys : List A) (k : ℕ) (x : A) → slice_get (xs ++ ys) k ≡ Some x
    → (slice_get xs k ≡ Some x → P) → ((j : ℕ) → k ≡ length xs + j → slice_get ys j ≡ Some x → P) → P
either-place [] ys k x at front back = back k (sym (zero-add k)) at
either-place (y ∷ xs) ys zero x at front back = front at
either-place (y ∷ xs) ys (suc k) x at front back = either-place xs ys k x at front (λ j e there. back j (omega (arith, e)) there)

pub place-in-drop : {A : Type 0} (n : ℕ) (xs : List A) (j : ℕ) → slice_get (drop n xs) j ≡ slice_get xs (n + j)
place-in-drop zero xs j = ap (λ k. slice_get xs k) (sym (zero-add j))
place-in-drop (suc n) [] j = refl
place-in-drop (suc n) (x ∷ xs) j = let e : suc n + j ≡ suc (n + j) = omega arith in rw e (place-in-drop n xs j)

pub place-within : {A : Type 0} (xs : List A) (k : ℕ) (x : A) → slice_get xs k ≡ Some x → k < length xs
place-within [] k x at = absurd (cc)
place-within (y ∷ xs) zero x at = omega arith
place-within (y ∷ xs) (suc k) x at = omega (arith, place-within xs k x at)

-- the first element behind so many
pub first-behind : {A : Type 0} (n : ℕ) (xs : List A) (x : A) → n < length xs → x ≡ get_or (drop n xs) 0 x → slice_get xs n ≡ Some x
first-behind n [] x within is = absurd (omega arith)
first-behind zero (y ∷ xs) x within is = ap Some (sym is)
first-behind (suc n) (y ∷ xs) x within is = first-behind n xs x (omega arith) is

-- an element that was changed
pub mapped-place : {A B : Type 0} (f : A → B) (xs : List A) (k : ℕ) (y : B) → slice_get (map f xs) k ≡ Some y
    → (x : A) × (slice_get xs k ≡ Some x) × (y ≡ f x)
mapped-place f [] k y at = absurd (cc)
mapped-place f (x ∷ xs) zero y at = (x, refl, cc)
mapped-place f (x ∷ xs) (suc k) y at = mapped-place f xs k y at

pub known-place : {A B : Type 0} (f : A → B) (o : Option A) (x : A) (y : B) → o ≡ Some x → option_map f o ≡ Some y → f x ≡ y
known-place f None x y is at = absurd (cc)
known-place f (Some z) x y is at = let same : z ≡ x = cc in ap f (sym same) ∙ (cc)

pub taken-more : {A : Type 0} (xs : List A) (k : ℕ) (x : A) → k < length xs → slice_get xs k ≡ Some x → take (k + 1) xs ≡ take k xs ++ x ∷ []
taken-more xs k x within at = take_more xs k x within ∙ ap (λ y. take k xs ++ y ∷ []) (get_or_from_slice_get xs k x x at)
