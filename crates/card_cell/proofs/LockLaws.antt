-- A new connection is locked exactly where one that is kept bars it.
use Rattle.std.specs.Prelude.{not, nat_lt, ◌&&◌, ◌||◌, ◌==◌, option_map, if◌then◌else◌}
use Rattle.std.specs.List.{list_any}
use Rattle.std.proofs.Common.{◌≡◌, ◌≤◌, ℕ, zero, suc, Bool, true, false, List, [], ◌∷◌, Option, Some, None, refl, ap, sym, ◌∙◌, subst, arith, eq-eqb, eqb-true, find}
use Rattle.std.proofs.lemmas.Bool.Decides.{nat_tests}
use Rattle.piv_model.specs.declared.kinds.Interface.{Interface}
use Rattle.piv_model.specs.Base.{Base}
use Rattle.piv_model.specs.Entries.{Past}
use Rattle.piv_rules.specs.Connections.{is_open, side, is_exclusive, same_side}
use Rattle.piv_rules.specs.Legal.{IsLegal, is_locked, open_among, opened_count}
use Rattle.card_laws.proofs.Counting.{open-within}
use Rattle.card_cell.specs.declared.connections.Open.{Open}
use Rattle.card_cell.specs.Kept.{has_number, kept_in, kept_as, kept_of, are_below, bars}
use Rattle.card_cell.proofs.KeptLaws.{both, below-none}

found-any : (f q : Open → Bool) (os : List Open) (o : Open) → find f os ≡ Some o → q o ≡ true → list_any q os ≡ true
found-any f q [] o h k = absurd (cc)
found-any f q (x ∷ xs) o h k = go (f x) h (found-any f q xs o)
  where
    one : {A : Type 0} (a b : A) → Some a ≡ Some b → a ≡ b
    one a b e = cc

    either : (a b : Bool) → b ≡ true → (a || b) ≡ true
    either true b e = refl
    either false b e = e

    go : (b : Bool) → (if b then Some x else find f xs) ≡ Some o → (find f xs ≡ Some o → q o ≡ true → list_any q xs ≡ true) → (q x || list_any q xs) ≡ true
    go true h ih = let e : q x ≡ true = ap q (one x o h) ∙ k in λ j. e j || list_any q xs
    go false h ih = either (q x) (list_any q xs) (ih h k)

found-is : (f : Open → Bool) (os : List Open) (o : Open) → find f os ≡ Some o → f o ≡ true
found-is f [] o h = absurd (cc)
found-is f (x ∷ xs) o h = go (f x) refl h (found-is f xs o)
  where
    one : {A : Type 0} (a b : A) → Some a ≡ Some b → a ≡ b
    one a b e = cc

    go : (b : Bool) → f x ≡ b → (if b then Some x else find f xs) ≡ Some o → (find f xs ≡ Some o → f o ≡ true) → f o ≡ true
    go true e h ih = ap f (sym (one x o h)) ∙ e
    go false e h ih = ih h

-- the first one that passes is the one that is kept with its number
first-any : (q : Open → Bool) (n : ℕ) (os : List Open) → are_below n os ≡ true → list_any q os ≡ true
    → (o : Open) × (find (has_number o.c) os ≡ Some o) × (q o ≡ true)
first-any q n [] below h = absurd (cc)
first-any q n (x ∷ xs) below h =
    let b = both (nat_lt x.c n) (are_below x.c xs) below in
    go (q x) refl h b.1 (first-any q x.c xs b.1)
  where
    go : (b : Bool) → q x ≡ b → (b || list_any q xs) ≡ true → are_below x.c xs ≡ true
        → (list_any q xs ≡ true → (o : Open) × (find (has_number o.c) xs ≡ Some o) × (q o ≡ true))
        → (o : Open) × (find (has_number o.c) (x ∷ xs) ≡ Some o) × (q o ≡ true)
    go true e h below ih = (x, (λ j. if eq-eqb x.c x.c refl j then Some x else find (has_number x.c) xs), e)
    go false e h below ih =
        let r = ih h in
        let other : (x.c == r.0.c) ≡ false = by (x.c == r.0.c) r refl in
        (r.0, (λ j. if other j then Some x else find (has_number r.0.c) xs) ∙ r.1, r.2)
      where
        by : (b : Bool) → (r : (o : Open) × (find (has_number o.c) xs ≡ Some o) × (q o ≡ true)) → (x.c == r.0.c) ≡ b → (x.c == r.0.c) ≡ false
        by false r e = e
        by true r e =
            let n : x.c ≡ r.0.c = eqb-true x.c r.0.c e in
            absurd (let t : None ≡ Some r.0 = sym (below-none x.c xs below) ∙ (λ j. find (has_number (n j)) xs) ∙ r.1 in cc)

-- ---- the numbers 1 to n

upto-any : (ℕ → Bool) → ℕ → Bool
upto-any p zero = false
upto-any p (suc n) = p (suc n) || upto-any p n

among-upto : (H : Past) (p : ℕ → Bool) (n : ℕ) → list_any p (open_among H n) ≡ upto-any (λ d. is_open H d && p d) n
unfolding upto-any
among-upto H p zero = refl
among-upto H p (suc n) = go (is_open H (suc n)) (among-upto H p n)
  where
    go : (b : Bool) → list_any p (open_among H n) ≡ upto-any (λ d. is_open H d && p d) n
        → list_any p (if b then suc n ∷ open_among H n else open_among H n) ≡ ((b && p (suc n)) || upto-any (λ d. is_open H d && p d) n)
    go true ih = ap (λ b. p (suc n) || b) ih
    go false ih = ih

upto-some : (p : ℕ → Bool) (n d : ℕ) → 1 ≤ d → d ≤ n → p d ≡ true → upto-any p n ≡ true
unfolding upto-any
upto-some p zero d low high h = absurd (omega arith)
upto-some p (suc n) d low high h = go (d == suc n) refl (upto-some p n d low)
  where
    either : (a b : Bool) → b ≡ true → (a || b) ≡ true
    either true b e = refl
    either false b e = e

    go : (b : Bool) → (d == suc n) ≡ b → (d ≤ n → p d ≡ true → upto-any p n ≡ true) → (p (suc n) || upto-any p n) ≡ true
    go true e ih = let k : p (suc n) ≡ true = subst (λ (m : ℕ). p m ≡ true) (eqb-true d (suc n) e) h in λ j. k j || upto-any p n
    go false e ih = either (p (suc n)) (upto-any p n) (ih (let apart : (d == suc n) ≡ false = e in grind (arith, nat_tests)) h)

upto-one : (p : ℕ → Bool) (n : ℕ) → upto-any p n ≡ true → (d : ℕ) × (p d ≡ true)
unfolding upto-any
upto-one p zero h = absurd (cc)
upto-one p (suc n) h = go (p (suc n)) refl h (upto-one p n)
  where
    go : (b : Bool) → p (suc n) ≡ b → (b || upto-any p n) ≡ true → (upto-any p n ≡ true → (d : ℕ) × (p d ≡ true)) → (d : ℕ) × (p d ≡ true)
    go true e h ih = (suc n, e)
    go false e h ih = ih h

same-bool : (a b : Bool) → (a ≡ true → b ≡ true) → (b ≡ true → a ≡ true) → a ≡ b
same-bool true b f g = sym (f refl)
same-bool false false f g = refl
same-bool false true f g = g refl

-- what is kept of an open connection
kept-open : (H : Past) (os : List Open) (o : Open) → kept_in os o.c ≡ kept_of H o.c → find (has_number o.c) os ≡ Some o
    → (is_open H o.c ≡ true) × (side H o.c ≡ o.interface) × (is_exclusive H o.c ≡ not o.shared)
kept-open H os o kept some = go (is_open H o.c) refl (sym (ap (option_map (λ x. (x.interface, x.shared))) some) ∙ kept)
  where
    first : Option (Interface × Bool) → Interface
    first None = o.interface
    first (Some p) = p.0

    second : Option (Interface × Bool) → Bool
    second None = o.shared
    second (Some p) = p.1

    twice : (b : Bool) → not (not b) ≡ b
    twice true = refl
    twice false = refl

    go : (b : Bool) → is_open H o.c ≡ b → kept_as o.interface o.shared ≡ (if b then kept_as (side H o.c) (not (is_exclusive H o.c)) else None)
        → (is_open H o.c ≡ true) × (side H o.c ≡ o.interface) × (is_exclusive H o.c ≡ not o.shared)
    go true e h = (e, sym (ap first h), sym (twice (is_exclusive H o.c)) ∙ ap not (sym (ap second h)))
    go false e h = absurd (cc)

open-kept : (H : Past) (os : List Open) (d : ℕ) → kept_in os d ≡ kept_of H d → is_open H d ≡ true → (o : Open) × (find (has_number d) os ≡ Some o)
open-kept H os d kept opened = go (find (has_number d) os) refl (kept ∙ (λ j. if opened j then kept_as (side H d) (not (is_exclusive H d)) else None))
  where
    go : (r : Option Open) → find (has_number d) os ≡ r → option_map (λ x. (x.interface, x.shared)) r ≡ kept_as (side H d) (not (is_exclusive H d)) → (o : Open) × (find (has_number d) os ≡ Some o)
    go None e h = absurd (cc)
    go (Some o) e h = (o, e)

pub locked-kept : (B : Base) (H : Past) (os : List Open) (n : ℕ) (i : Interface) (shared : Bool) → IsLegal B H → are_below n os ≡ true → ((c : ℕ) → kept_in os c ≡ kept_of H c)
    → list_any (bars i shared) os ≡ is_locked H i shared
locked-kept B H os m i shared legal apart kept =
    same-bool (list_any (bars i shared) os) (upto-any r (opened_count H)) there back ∙ sym (among-upto H p (opened_count H))
  where
    p : ℕ → Bool
    p d = same_side i (side H d) && (not shared || is_exclusive H d)

    r : ℕ → Bool
    r d = is_open H d && p d

    there : list_any (bars i shared) os ≡ true → upto-any r (opened_count H) ≡ true
    there h =
        let o = first-any (bars i shared) m os apart h in
        let k = kept-open H os o.0 (kept o.0.c) o.1 in
        let w = open-within B H o.0.c legal k.0 in
        let e : r o.0.c ≡ true = (λ j. k.0 j && (same_side i (k.1 j) && (not shared || k.2 j))) ∙ o.2 in
        upto-some r (opened_count H) o.0.c w.0 w.1 e

    both : (a b : Bool) → (a && b) ≡ true → (a ≡ true) × (b ≡ true)
    both true b h = (refl, h)
    both false b h = absurd (cc)

    back : upto-any r (opened_count H) ≡ true → list_any (bars i shared) os ≡ true
    back h =
        let d = upto-one r (opened_count H) h in
        let e = both (is_open H d.0) (p d.0) d.1 in
        let o = open-kept H os d.0 (kept d.0) e.0 in
        let n : o.0.c ≡ d.0 = eqb-true o.0.c d.0 (found-is (has_number d.0) os o.0 o.1) in
        let some : find (has_number o.0.c) os ≡ Some o.0 = (λ j. find (has_number (n j)) os) ∙ o.1 in
        let k = kept-open H os o.0 (kept o.0.c) some in
        let q : p o.0.c ≡ true = subst (λ (m : ℕ). p m ≡ true) (sym n) e.1 in
        found-any (has_number d.0) (bars i shared) os o.0 o.1 ((λ j. same_side i (sym k.1 j) && (not shared || sym k.2 j)) ∙ q)
