-- Lists that are mapped alike, and lists that are made of what is known of each element.
use Rattle.std.specs.Prelude.{slice_index_or, option_map}
use Rattle.std.specs.List.{slice_get}
use Rattle.std.proofs.Common.{◌≡◌, ◌⊎◌, inl, inr, ◌∙◌, ℕ, zero, suc, ◌<◌, ◌≤◌, List, [], ◌∷◌, ◌++◌, length, map, take, drop, Option, Some, refl, sym, ap, subst, arith}
use Rattle.std.proofs.lemmas.List.{map-append}
use Rattle.std.proofs.lemmas.Option.{slice_get-get_or, get_or_from_slice_get, slice_get-map}

pub mapped_more : {A B C : Type 0} (f : A → C) (h : B → C) (xs new : List A) (x : A) (ys : List B) (y : B) → new ≡ xs ++ x ∷ [] → map f xs ≡ map h ys → f x ≡ h y → map f new ≡ map h (ys ++ y ∷ [])
mapped_more {C = C} f h xs new x ys y is same one =
    ap (map f) is ∙ (map-append f xs (x ∷ []) ∙ (ap (λ (l : List C). l ++ f x ∷ []) same ∙ (ap (λ (c : C). map h ys ++ c ∷ []) one ∙ sym (map-append h ys (y ∷ [])))))

pub mapped_at : {A C : Type 0} (f : A → C) (xs : List A) (k : ℕ) (x : A) → slice_get xs k ≡ Some x → slice_get (map f xs) k ≡ Some (f x)
mapped_at {A = A} f xs k x at = slice_get-map f xs k ∙ ap (λ (o : Option A). option_map f o) at

pub index_at : {A : Type 0} (xs : List A) (k : ℕ) (d : A) → k < length xs → slice_get xs k ≡ Some (slice_index_or xs k d)
index_at xs k d lt = slice_get-get_or xs k d lt

pub index_is : {A : Type 0} (xs : List A) (k : ℕ) (x d : A) → slice_get xs k ≡ Some x → slice_index_or xs k d ≡ x
index_is xs k x d at = get_or_from_slice_get xs k x d at

-- what there is for each element, as a list
pub record Collected {A B : Type 0} (xs : List A) (P : ℕ → A → B → Type 0) : Type 0 where
  pub all : List B
  pub many : length all ≡ length xs
  pub each : (k : ℕ) (a : A) (b : B) → slice_get xs k ≡ Some a → slice_get all k ≡ Some b → P k a b

pub collect : {A B : Type 0} (xs : List A) (P : ℕ → A → B → Type 0) → ((k : ℕ) (a : A) → slice_get xs k ≡ Some a → (b : B) × P k a b) → Collected xs P
collect [] P has = record { all = []; many = refl; each = λ k a b p q. absurd (cc) }
collect {A = A} {B = B} (x ∷ xs) P has =
    let first = has zero x refl in
    let rest = collect xs (λ k a b. P (suc k) a b) (λ k a at. has (suc k) a at) in
    record { all = first.0 ∷ rest.all; many = ap suc rest.many; each = go first.0 first.1 rest }
  where
    go : (b : B) → P zero x b → (c : Collected xs (λ k a b. P (suc k) a b)) → (k : ℕ) (a : A) (d : B) → slice_get (x ∷ xs) k ≡ Some a → slice_get (b ∷ c.all) k ≡ Some d → P k a d
    go b p c zero a d e f =
        let same : x ≡ a = cc in
        let here : b ≡ d = cc in
        subst (λ (z : A). P zero z d) same (subst (λ (z : B). P zero x z) here p)
    go b p c (suc k) a d e f = c.each k a d e f

pub lt_or_le : (a b : ℕ) → (a < b) ⊎ (b ≤ a)
lt_or_le a zero = inr (omega arith)
lt_or_le zero (suc b) = inl (omega arith)
lt_or_le (suc a) (suc b) = go (lt_or_le a b) where
  go : (a < b) ⊎ (b ≤ a) → (suc a < suc b) ⊎ (suc b ≤ suc a)
  go (inl h) = inl (omega (arith, h))
  go (inr h) = inr (omega (arith, h))

-- what was lent and comes back whole
pub lent_back : {A : Type 0} (xs ys : List A) → length ys ≡ length xs → take (length xs) (ys ++ drop (length ys) xs) ≡ ys
lent_back [] [] e = refl
lent_back [] (y ∷ ys) e = absurd (omega (arith, e))
lent_back (x ∷ xs) [] e = absurd (omega (arith, e))
lent_back {A = A} (x ∷ xs) (y ∷ ys) e = ap (λ (l : List A). y ∷ l) (lent_back xs ys (omega (arith, e)))
