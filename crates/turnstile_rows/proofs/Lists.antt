-- A list with another element at a place, and lists that end with an element.
use Rattle.std.proofs.Common.{◌≡◌, ◌≢◌, ◌⊎◌, inl, inr, ◌∙◌, ℕ, zero, suc, ◌+◌, ◌<◌, List, [], ◌∷◌, ◌++◌, length, map, take, drop, set, replicate, Some, sym, refl, ap, subst, arith, length-append}
use Rattle.std.specs.Prelude.{IsSome, slice_index_or, get_or, reverse}
use Rattle.std.specs.List.{slice_get}
use Rattle.std.proofs.lemmas.Option.{slice_get_within, slice_get-get_or, get_or_from_slice_get}
use Rattle.std.proofs.lemmas.List.{reverse-append, map-append}

module _ {A : Type 0} where
  pub set_there : (xs : List A) (k : ℕ) (a b : A) → slice_get xs k ≡ Some a → slice_get (set xs k b) k ≡ Some b
  set_there [] k a b e = absurd (cc)
  set_there (x ∷ xs) zero a b e = refl
  set_there (x ∷ xs) (suc k) a b e = set_there xs k a b e

  pub set_same : (xs : List A) (k : ℕ) (a b : A) → slice_get (set xs k a) k ≡ Some b → a ≡ b
  set_same [] k a b e = absurd (cc)
  set_same (x ∷ xs) zero a b e = cc
  set_same (x ∷ xs) (suc k) a b e = set_same xs k a b e

  pub set_apart : (xs : List A) (k j : ℕ) (a : A) → j ≢ k → slice_get (set xs k a) j ≡ slice_get xs j
  set_apart [] k j a n = refl
  set_apart (x ∷ xs) zero zero a n = absurd (n refl)
  set_apart (x ∷ xs) zero (suc j) a n = refl
  set_apart (x ∷ xs) (suc k) zero a n = refl
  set_apart (x ∷ xs) (suc k) (suc j) a n = set_apart xs k j a (λ e. n (ap suc e))

  pub last_is : (xs : List A) (x : A) → slice_get (xs ++ x ∷ []) (length xs) ≡ Some x
  last_is [] x = refl
  last_is (y ∷ ys) x = last_is ys x

  pub longer_at : (xs ys : List A) (k : ℕ) (a : A) → slice_get xs k ≡ Some a → slice_get (xs ++ ys) k ≡ Some a
  longer_at [] ys k a e = absurd (cc)
  longer_at (x ∷ xs) ys zero a e = e
  longer_at (x ∷ xs) ys (suc k) a e = longer_at xs ys k a e

  -- a list of one more has a last one
  pub unsnoc : (xs : List A) (n : ℕ) → length xs ≡ suc n → (front : List A) × (last : A) × (xs ≡ front ++ last ∷ [])
  unsnoc [] n e = absurd (omega (arith, e))
  unsnoc (x ∷ []) n e = ([], x, refl)
  unsnoc (x ∷ y ∷ ys) zero e = absurd (omega (arith, e))
  unsnoc (x ∷ y ∷ ys) (suc n) e = let r = unsnoc (y ∷ ys) n (omega (arith, e)) in (x ∷ r.0, r.1, ap (λ (l : List A). x ∷ l) r.2)

  -- what the last of a beginning is, and what is left without it
  last_of : (xs all : List A) (p : A) → xs ++ p ∷ [] ≡ take (length (xs ++ p ∷ [])) all → (slice_get all (length xs) ≡ Some p) × (xs ≡ take (length xs) all)
  last_of [] [] p e = absurd (cc)
  last_of [] (a ∷ rest) p e = let h : p ≡ a = cc in (ap Some (sym h), refl)
  last_of (x ∷ xs) [] p e = absurd (cc)
  last_of (x ∷ xs) (a ∷ rest) p e =
      let h : x ≡ a = cc in
      let t : xs ++ p ∷ [] ≡ take (length (xs ++ p ∷ [])) rest = cc in
      let r = last_of xs rest p t in (r.0, λ i. h i ∷ r.1 i)

  pub record Popped (all old xs : List A) (p : A) : Type 0 where
    pub at : slice_get all (length xs) ≡ Some p
    pub left : xs ≡ take (length xs) all
    pub inside : length xs < length all
    pub one : length old ≡ length xs + 1

  pub popped : (all old xs : List A) (p : A) → old ≡ xs ++ p ∷ [] → old ≡ take (length old) all → Popped all old xs p
  popped all old xs p items left =
      let r = last_of xs all p (subst (λ (l : List A). l ≡ take (length l) all) items left) in
      let more : length old ≡ length (xs ++ p ∷ []) = ap (λ (l : List A). length l) items in
      record { at = r.0; left = r.1; inside = slice_get_within all (length xs) p r.0; one = omega (arith, more, length-append xs (p ∷ [])) }

  -- the place k of a list of which the places below k were changed
  pub at_changed : (f : A → A) (xs : List A) (k : ℕ) → slice_get (map f (take k xs) ++ drop k xs) k ≡ slice_get xs k
  at_changed f [] zero = refl
  at_changed f [] (suc k) = refl
  at_changed f (x ∷ xs) zero = refl
  at_changed f (x ∷ xs) (suc k) = at_changed f xs k

  pub set_changed : (f : A → A) (xs : List A) (k : ℕ) (x : A) → slice_get xs k ≡ Some x → set (map f (take k xs) ++ drop k xs) k (f x) ≡ map f (take (suc k) xs) ++ drop (suc k) xs
  set_changed f [] k x e = absurd (cc)
  set_changed f (y ∷ ys) zero x e = let same : y ≡ x = cc in ap (λ (z : A). f z ∷ ys) (sym same)
  set_changed f (y ∷ ys) (suc k) x e = ap (λ (l : List A). f y ∷ l) (set_changed f ys k x e)

  pub one_mapped : {C : Type 0} (f : A → C) (xs : List A) (k : ℕ) (x : A) → slice_get xs k ≡ Some x → map f (take k xs) ++ f x ∷ [] ≡ map f (take (suc k) xs)
  one_mapped f [] k x e = absurd (cc)
  one_mapped f (y ∷ ys) zero x e = let same : y ≡ x = cc in ap (λ (z : A). f z ∷ []) (sym same)
  one_mapped {C} f (y ∷ ys) (suc k) x e = ap (λ (l : List C). f y ∷ l) (one_mapped f ys k x e)

  pub at_mapped : {C : Type 0} (f : A → C) (xs : List A) (k : ℕ) (c : C) → slice_get (map f xs) k ≡ Some c → (x : A) × (slice_get xs k ≡ Some x) × (c ≡ f x)
  at_mapped f [] k c e = absurd (cc)
  at_mapped f (x ∷ xs) zero c e = (x, refl, cc)
  at_mapped f (x ∷ xs) (suc k) c e = at_mapped f xs k c e

  pub found : (xs : List A) (k : ℕ) → k < length xs → IsSome (slice_get xs k)
  found [] k h = absurd (omega (arith, h))
  found (x ∷ xs) zero h = refl
  found (x ∷ xs) (suc k) h = found xs k (omega (arith, h))

  -- what was read at a place
  pub read_at : (xs ys : List A) (k : ℕ) (x : A) → k < length ys → slice_get xs k ≡ slice_get ys k → x ≡ slice_index_or xs k x → slice_get ys k ≡ Some x
  read_at xs ys k x lt same is =
      let a : slice_get ys k ≡ Some (get_or ys k x) = slice_get-get_or ys k x lt in
      let b : get_or xs k x ≡ get_or ys k x = get_or_from_slice_get xs k (get_or ys k x) x (same ∙ a) in
      a ∙ ap Some (sym (is ∙ b))

  pub map_reversed : {C : Type 0} (f : A → C) (xs : List A) → reverse (map f xs) ≡ map f (reverse xs)
  map_reversed f [] = refl
  map_reversed {C} f (x ∷ xs) =
      reverse-append (f x ∷ []) (map f xs)
      ∙ (ap (λ (l : List C). l ++ f x ∷ []) (map_reversed f xs) ∙ (sym (map-append f (reverse xs) (x ∷ [])) ∙ ap (λ (l : List A). map f l) (sym (reverse-append (x ∷ []) xs))))

  pub none_left : (xs : List A) → length xs ≡ 0 → xs ≡ []
  none_left [] e = refl
  none_left (x ∷ xs) e = absurd (omega (arith, e))

  pub same_ends : (xs ys : List A) (x y : A) → xs ++ x ∷ [] ≡ ys ++ y ∷ [] → (xs ≡ ys) × (x ≡ y)
  same_ends [] [] x y e = (refl, cc)
  same_ends [] (b ∷ []) x y e = absurd (cc)
  same_ends [] (b ∷ c ∷ bs) x y e = absurd (cc)
  same_ends (a ∷ []) [] x y e = absurd (cc)
  same_ends (a ∷ c ∷ bs) [] x y e = absurd (cc)
  same_ends (a ∷ xs) (b ∷ ys) x y e =
      let h : a ≡ b = cc in
      let t : xs ++ x ∷ [] ≡ ys ++ y ∷ [] = cc in
      let r = same_ends xs ys x y t in (λ i. h i ∷ r.0 i, r.1)

  -- what stands at a place of a list that ends with x
  pub at_end : (xs : List A) (x : A) (k : ℕ) (a : A) → slice_get (xs ++ x ∷ []) k ≡ Some a → (slice_get xs k ≡ Some a) ⊎ ((k ≡ length xs) × (x ≡ a))
  at_end [] x zero a e = inr (refl, cc)
  at_end [] x (suc k) a e = absurd (cc)
  at_end (y ∷ ys) x zero a e = inl e
  at_end (y ∷ ys) x (suc k) a e = go (at_end ys x k a e) where
    go : (slice_get ys k ≡ Some a) ⊎ ((k ≡ length ys) × (x ≡ a)) → (slice_get ys k ≡ Some a) ⊎ ((suc k ≡ suc (length ys)) × (x ≡ a))
    go (inl h) = inl h
    go (inr h) = inr (ap suc h.0, h.1)

  pub before_end : (xs : List A) (x : A) (k : ℕ) → k < length xs → slice_get (xs ++ x ∷ []) k ≡ slice_get xs k
  before_end [] x k lt = absurd (omega (arith, lt))
  before_end (y ∷ ys) x zero lt = refl
  before_end (y ∷ ys) x (suc k) lt = before_end ys x k (omega (arith, lt))

  pub at_replicate : (n : ℕ) (x : A) (k : ℕ) (a : A) → slice_get (replicate n x) k ≡ Some a → x ≡ a
  at_replicate zero x k a e = absurd (cc)
  at_replicate (suc n) x zero a e = cc
  at_replicate (suc n) x (suc k) a e = at_replicate n x k a e

  -- an element within a list
  pub within : (xs : List A) (k : ℕ) → k < length xs → (x : A) × (slice_get xs k ≡ Some x)
  within [] k lt = absurd (omega (arith, lt))
  within (x ∷ xs) zero lt = (x, refl)
  within (x ∷ xs) (suc k) lt = within xs k (omega (arith, lt))

pub map_map : {A C D : Type 0} (f : C → D) (h : A → C) (xs : List A) → map f (map h xs) ≡ map (λ x. f (h x)) xs
map_map f h [] = refl
map_map {A = A} {C = C} {D = D} f h (x ∷ xs) = ap (λ (l : List D). f (h x) ∷ l) (map_map f h xs)
