-- The numbers of the connections that are kept, and the list without one of them.
use Rattle.std.specs.Prelude.{not, ◌&&◌, ◌==◌, position, remove, find, nat_lt, IsSome, if◌then◌else◌}
use Rattle.std.specs.List.{position_or_len}
use Rattle.std.proofs.Common.{◌≡◌, ◌<◌, ◌≤◌, ◌+◌, ℕ, zero, suc, Bool, true, false, List, [], ◌∷◌, Some, None, refl, ap, sym, ◌∙◌, subst, arith, length, eqb-true}
use Rattle.std.proofs.lemmas.Bool.Decides.{nat_tests}
use Rattle.card_cell.specs.declared.connections.Open.{Open}
use Rattle.card_cell.specs.Kept.{has_number, are_below, without}

some-is : {A : Type 0} (x y : A) → Some x ≡ Some y → x ≡ y
some-is x y h = cc

pub both : (a b : Bool) → (a && b) ≡ true → (a ≡ true) × (b ≡ true)
both true b h = (refl, h)
both false b h = absurd (cc)

less-true : (m n : ℕ) → m < n → nat_lt m n ≡ true
less-true m n h = grind (arith, nat_tests)

true-less : (m n : ℕ) → nat_lt m n ≡ true → m < n
true-less m n h = grind (arith, nat_tests)

-- ---- numbers that fall

pub below-more : (m n : ℕ) (os : List Open) → are_below m os ≡ true → m ≤ n → are_below n os ≡ true
below-more m n [] h le = refl
below-more m n (o ∷ os) h le =
    let b = both (nat_lt o.c m) (are_below o.c os) h in
    let l = true-less o.c m b.0 in
    λ j. less-true o.c n (omega arith) j && b.1 j

pub below-without : (c n : ℕ) (os : List Open) → are_below n os ≡ true → are_below n (without c os) ≡ true
below-without c n [] h = refl
below-without c n (o ∷ os) h =
    let b = both (nat_lt o.c n) (are_below o.c os) h in
    go (o.c == c) b.0 b.1 (below-without c o.c os b.1)
  where
    go : (b : Bool) → nat_lt o.c n ≡ true → are_below o.c os ≡ true → are_below o.c (without c os) ≡ true
        → are_below n (if b then os else o ∷ without c os) ≡ true
    go true low below ih = below-more o.c n os below (let l = true-less o.c n low in omega arith)
    go false low below ih = λ j. low j && ih j

-- a number above those that are kept isn't among them
pub below-none : (c : ℕ) (os : List Open) → are_below c os ≡ true → find (has_number c) os ≡ None
below-none c [] h = refl
below-none c (o ∷ os) h =
    let b = both (nat_lt o.c c) (are_below o.c os) h in
    let l = true-less o.c c b.0 in
    let apart : (o.c == c) ≡ false = grind (arith, nat_tests) in
    let ih = below-none c os (below-more o.c c os b.1 (omega arith)) in
    λ j. if apart j then Some o else ih j

-- ---- the list without a number

pub removed : (c : ℕ) (os : List Open) (i : ℕ) → position (has_number c) os ≡ Some i → remove os i ≡ without c os
removed c os i at = go (nat_lt (position_or_len (has_number c) os) (length os)) refl at
  where
    walk : (os : List Open) (i : ℕ) → position_or_len (has_number c) os ≡ i → i < length os → remove os i ≡ without c os
    walk [] i e below = absurd (let k : i < 0 = below in omega arith)
    walk (o ∷ os) i e below = here (o.c == c) refl i e below (walk os)
      where
        here : (b : Bool) → (o.c == c) ≡ b → (i : ℕ) → (if not (o.c == c) then 1 + position_or_len (has_number c) os else 0) ≡ i
            → i < suc (length os) → ((i : ℕ) → position_or_len (has_number c) os ≡ i → i < length os → remove os i ≡ without c os)
            → remove (o ∷ os) i ≡ (if o.c == c then os else o ∷ without c os)
        here true f i e below ih =
            let z : 0 ≡ i = sym (λ j. if not (f j) then 1 + position_or_len (has_number c) os else 0) ∙ e in
            subst (λ (n : ℕ). remove (o ∷ os) n ≡ (if o.c == c then os else o ∷ without c os)) z
            (sym (λ j. if f j then os else o ∷ without c os))
        here false f zero e below ih = absurd (let z : 1 + position_or_len (has_number c) os ≡ 0 = sym (λ j. if not (f j) then 1 + position_or_len (has_number c) os else 0) ∙ e in omega arith)
        here false f (suc i) e below ih =
            let z : 1 + position_or_len (has_number c) os ≡ suc i = sym (λ j. if not (f j) then 1 + position_or_len (has_number c) os else 0) ∙ e in
            ap (λ (xs : List Open). o ∷ xs) (ih i (omega arith) (let b : suc i < suc (length os) = below in omega arith))
            ∙ sym (λ j. if f j then os else o ∷ without c os)

    go : (b : Bool) → nat_lt (position_or_len (has_number c) os) (length os) ≡ b → (if b then Some (position_or_len (has_number c) os) else None) ≡ Some i
        → remove os i ≡ without c os
    go true e h = walk os i (some-is (position_or_len (has_number c) os) i h) (let s = some-is (position_or_len (has_number c) os) i h in true-less i (length os) ((λ j. nat_lt (sym s j) (length os)) ∙ e))
    go false e h = absurd (cc)

pub not-removed : (c : ℕ) (os : List Open) → find (has_number c) os ≡ None → os ≡ without c os
not-removed c [] h = refl
not-removed c (o ∷ os) h = go (o.c == c) h (not-removed c os)
  where
    go : (b : Bool) → (if b then Some o else find (has_number c) os) ≡ None → (find (has_number c) os ≡ None → os ≡ without c os)
        → (o ∷ os) ≡ (if b then os else o ∷ without c os)
    go true h ih = absurd (cc)
    go false h ih = ap (λ (xs : List Open). o ∷ xs) (ih h)

pub find-others : (c d : ℕ) (os : List Open) → (c == d) ≡ false → find (has_number d) (without c os) ≡ find (has_number d) os
find-others c d [] apart = refl
find-others c d (o ∷ os) apart = go (o.c == c) refl (find-others c d os apart)
  where
    go : (b : Bool) → (o.c == c) ≡ b → find (has_number d) (without c os) ≡ find (has_number d) os
        → find (has_number d) (if b then os else o ∷ without c os) ≡ (if o.c == d then Some o else find (has_number d) os)
    go true e ih =
        let n : o.c ≡ c = eqb-true o.c c e in
        let other : (o.c == d) ≡ false = (λ j. n j == d) ∙ apart in
        sym (λ j. if other j then Some o else find (has_number d) os)
    go false e ih = λ j. if o.c == d then Some o else ih j

pub find-own : (c n : ℕ) (os : List Open) → are_below n os ≡ true → find (has_number c) (without c os) ≡ None
find-own c n [] below = refl
find-own c n (o ∷ os) below =
    let b = both (nat_lt o.c n) (are_below o.c os) below in
    go (o.c == c) refl b.1 (find-own c o.c os b.1)
  where
    go : (b : Bool) → (o.c == c) ≡ b → are_below o.c os ≡ true → find (has_number c) (without c os) ≡ None
        → find (has_number c) (if b then os else o ∷ without c os) ≡ None
    go true e below ih = below-none c os (subst (λ (m : ℕ). are_below m os ≡ true) (eqb-true o.c c e) below)
    go false e below ih = (λ j. if e j then Some o else find (has_number c) (without c os)) ∙ ih

pub length-without : (c : ℕ) (os : List Open) → IsSome (find (has_number c) os) → length (without c os) + 1 ≡ length os
length-without c [] some = absurd (cc)
length-without c (o ∷ os) some = go (o.c == c) some (length-without c os)
  where
    go : (b : Bool) → IsSome (if b then Some o else find (has_number c) os) → (IsSome (find (has_number c) os) → length (without c os) + 1 ≡ length os)
        → length (if b then os else o ∷ without c os) + 1 ≡ suc (length os)
    go true some ih = omega arith
    go false some ih = let n = ih some in omega arith
