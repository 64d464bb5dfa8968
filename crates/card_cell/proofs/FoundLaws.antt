-- The first item that passes, by its place.
use Rattle.std.specs.Prelude.{not, position, find, nat_lt, if◌then◌else◌}
use Rattle.std.specs.List.{position_or_len}
use Rattle.std.proofs.Common.{◌≡◌, ◌<◌, ◌≤◌, ◌+◌, ℕ, zero, suc, Bool, true, false, List, [], ◌∷◌, Some, None, refl, ap, sym, ◌∙◌, subst, arith, length, get_or}
use Rattle.std.proofs.lemmas.Bool.Decides.{nat_tests}

some-is : {A : Type 0} (x y : A) → Some x ≡ Some y → x ≡ y
some-is x y h = cc

pub found : {X : Type 0} (p : X → Bool) (xs : List X) (i : ℕ) (v : X) → position p xs ≡ Some i → i < length xs → v ≡ get_or xs i v → Some v ≡ find p xs
found {X = X} p xs i v at below is = go (nat_lt (position_or_len p xs) (length xs)) refl at
  where
    walk : (xs : List X) (i : ℕ) → position_or_len p xs ≡ i → i < length xs → v ≡ get_or xs i v → Some v ≡ find p xs
    walk [] i e below is = absurd (let k : i < 0 = below in omega arith)
    walk (x ∷ xs) i e below is = here (p x) refl i e below is (walk xs)
      where
        here : (b : Bool) → p x ≡ b → (i : ℕ) → (if not (p x) then 1 + position_or_len p xs else 0) ≡ i → i < suc (length xs) → v ≡ get_or (x ∷ xs) i v
            → ((i : ℕ) → position_or_len p xs ≡ i → i < length xs → v ≡ get_or xs i v → Some v ≡ find p xs)
            → Some v ≡ (if p x then Some x else find p xs)
        here true f i e below is ih =
            let z : 0 ≡ i = sym (λ j. if not (f j) then 1 + position_or_len p xs else 0) ∙ e in
            let w : v ≡ x = subst (λ (n : ℕ). v ≡ get_or (x ∷ xs) n v) (sym z) is in
            ap Some w ∙ sym (λ j. if f j then Some x else find p xs)
        here false f zero e below is ih = absurd (let z : 1 + position_or_len p xs ≡ 0 = sym (λ j. if not (f j) then 1 + position_or_len p xs else 0) ∙ e in omega arith)
        here false f (suc i) e below is ih =
            let z : 1 + position_or_len p xs ≡ suc i = sym (λ j. if not (f j) then 1 + position_or_len p xs else 0) ∙ e in
            ih i (omega arith) (let b : suc i < suc (length xs) = below in omega arith) is ∙ sym (λ j. if f j then Some x else find p xs)

    go : (b : Bool) → nat_lt (position_or_len p xs) (length xs) ≡ b → (if b then Some (position_or_len p xs) else None) ≡ Some i → Some v ≡ find p xs
    go true e h = walk xs i (some-is (position_or_len p xs) i h) below is
    go false e h = absurd (cc)

pub not-found : {X : Type 0} (p : X → Bool) (xs : List X) → position p xs ≡ None → None ≡ find p xs
not-found {X = X} p xs none = go (nat_lt (position_or_len p xs) (length xs)) refl none
  where
    walk : (xs : List X) → length xs ≤ position_or_len p xs → None ≡ find p xs
    walk [] h = refl
    walk (x ∷ xs) h = here (p x) refl h (walk xs)
      where
        here : (b : Bool) → p x ≡ b → suc (length xs) ≤ (if not (p x) then 1 + position_or_len p xs else 0) → (length xs ≤ position_or_len p xs → None ≡ find p xs)
            → None ≡ (if p x then Some x else find p xs)
        here true f h ih = absurd (let k : suc (length xs) ≤ 0 = subst (λ (n : ℕ). suc (length xs) ≤ n) (λ j. if not (f j) then 1 + position_or_len p xs else 0) h in omega arith)
        here false f h ih =
            let k : suc (length xs) ≤ 1 + position_or_len p xs = subst (λ (n : ℕ). suc (length xs) ≤ n) (λ j. if not (f j) then 1 + position_or_len p xs else 0) h in
            ih (omega arith) ∙ sym (λ j. if f j then Some x else find p xs)

    go : (b : Bool) → nat_lt (position_or_len p xs) (length xs) ≡ b → (if b then Some (position_or_len p xs) else None) ≡ None → None ≡ find p xs
    go true e h = absurd (cc)
    go false e h = walk xs (grind (arith, nat_tests))

pub any-place : {X : Type 0} (xs : List X) (i : ℕ) (d e : X) → i < length xs → get_or xs i d ≡ get_or xs i e
any-place [] i d e h = absurd (let k : i < 0 = h in omega arith)
any-place (s ∷ xs) zero d e h = refl
any-place (s ∷ xs) (suc i) d e h = any-place xs i d e (let k : suc i < suc (length xs) = h in omega arith)
