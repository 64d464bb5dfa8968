-- Lists by places.
use Rattle.std.specs.Prelude.{slice_get, slice_index_or, option_map}
use Rattle.std.proofs.Common.{◌≡◌, ◌≢◌, ◌∙◌, ℕ, zero, suc, ◌<◌, List, [], ◌∷◌, length, set, map, Option, Some, sym, refl, ap, arith}
use Rattle.std.proofs.lemmas.Option.{slice_get-map, same_Some}

module _ {A : Type 0} where
  pub set_same : (xs : List A) (k : ℕ) (a b : A) → slice_get (set xs k a) k ≡ Some b → a ≡ b
  set_same [] k a b e = absurd (cc)
  set_same (x ∷ xs) zero a b e = cc
  set_same (x ∷ xs) (suc k) a b e = set_same xs k a b e

  pub set_apart : (xs : List A) (k j : ℕ) (a : A) → j ≢ k → slice_get (set xs k a) j ≡ slice_get xs j
  set_apart [] k j a n = refl
  set_apart (x ∷ xs) zero zero a n = absurd (n refl)
  set_apart (x ∷ xs) zero (suc j) a n = refl
  set_apart (x ∷ xs) (suc k) zero a n = refl
  set_apart (x ∷ xs) (suc k) (suc j) a n = set_apart xs k j a (λ e. n (ap suc e))

  pub there : (xs : List A) (k : ℕ) (a : A) → k < length xs → a ≡ slice_index_or xs k a → slice_get xs k ≡ Some a
  there [] k a h e = absurd (omega arith)
  there (x ∷ xs) zero a h e = ap Some (sym e)
  there (x ∷ xs) (suc k) a h e = there xs k a (omega (arith, h)) e

  pub found : (xs : List A) (k : ℕ) → k < length xs → (x : A) × (slice_get xs k ≡ Some x)
  found [] k h = absurd (omega arith)
  found (x ∷ xs) zero h = (x, refl)
  found (x ∷ xs) (suc k) h = found xs k (omega (arith, h))

  pub one : (xs : List A) (k : ℕ) (a b : A) → slice_get xs k ≡ Some a → slice_get xs k ≡ Some b → a ≡ b
  one xs k a b e f = same_Some a b (sym e ∙ f)

module _ {A B : Type 0} where
  -- a value that is written over leaves what is read of it
  pub map_kept : (f : A → B) (xs : List A) (k : ℕ) (a b : A) → slice_get xs k ≡ Some a → f b ≡ f a → map f (set xs k b) ≡ map f xs
  map_kept f [] k a b e s = refl
  map_kept f (x ∷ xs) zero a b e s = ap (λ (y : B). y ∷ map f xs) (s ∙ ap f (sym (same_Some x a e)))
  map_kept f (x ∷ xs) (suc k) a b e s = ap (λ (l : List B). f x ∷ l) (map_kept f xs k a b e s)

  pub mapped : (f : A → B) (xs : List A) (k : ℕ) (a : A) → slice_get xs k ≡ Some a → slice_get (map f xs) k ≡ Some (f a)
  mapped f xs k a e = slice_get-map f xs k ∙ ap (λ (o : Option A). option_map f o) e

  pub unmapped : (f : A → B) (xs : List A) (k : ℕ) (b : B) → slice_get (map f xs) k ≡ Some b → (a : A) × (slice_get xs k ≡ Some a) × (f a ≡ b)
  unmapped f [] k b e = absurd (cc)
  unmapped f (x ∷ xs) zero b e = (x, refl, same_Some (f x) b e)
  unmapped f (x ∷ xs) (suc k) b e = unmapped f xs k b e
