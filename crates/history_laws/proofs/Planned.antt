-- The losses of power of a history that keeps to a plan.
use Rattle.std.proofs.Common.{◌≡◌, ◌≤◌, ◌<◌, ℕ, suc, ◌+◌, Bool, true, false, List, [], ◌∷◌, Some, None, refl, arith, unwrap_or, length}
use Rattle.std.specs.Prelude.{if◌then◌else◌, ◌&&◌, ◌||◌, nat_lt, nat_le, find, cond, count_by}
use Rattle.std.specs.List.{list_any}
use Rattle.std.proofs.lemmas.Bool.Decides.{nat_tests}
use Rattle.std.proofs.lemmas.List.Recursion.{is_count_by}
use Rattle.piv_model.specs.Entries.{Past, Opened, Closed, Call, Part, Rest, Bad, Reset, Cut, Up, Note}
use Rattle.piv_model.specs.Base.{Base}
use Rattle.piv_rules.specs.Plans.{ArePlanned, made, cost, first_above}
use Rattle.history_laws.specs.PlannedLaws.{is_loss, LossesAreFew}

-- how many numbers of the plan are at most n
below : ℕ → List ℕ → ℕ
below n [] = 0
below n (x ∷ L) = if nat_le x n then suc (below n L) else below n L

below-all : (n : ℕ) (L : List ℕ) → below n L ≤ length L
unfolding below
below-all n [] = omega arith
below-all n (x ∷ L) = go (nat_le x n) (below-all n L)
  where
    go : (b : Bool) → below n L ≤ length L → (if b then suc (below n L) else below n L) ≤ length (x ∷ L)
    go true h = omega arith
    go false h = omega arith

below-more : (m n : ℕ) (L : List ℕ) → m ≤ n → below m L ≤ below n L
unfolding below
below-more m n [] h = omega arith
below-more m n (x ∷ L) h = go (nat_le x m) (nat_le x n) refl refl (below-more m n L h)
  where
    go : (a b : Bool) → nat_le x m ≡ a → nat_le x n ≡ b → below m L ≤ below n L
        → (if a then suc (below m L) else below m L) ≤ (if b then suc (below n L) else below n L)
    go true true e f ih = omega arith
    go true false e f ih = absurd (let g : x ≤ m = grind (arith, nat_tests) in let k : n < x = grind (arith, nat_tests) in omega arith)
    go false true e f ih = omega arith
    go false false e f ih = ih

-- the first number above n, where there is one, is one more
first-more : (n : ℕ) (L : List ℕ) → list_any (nat_lt n) L ≡ true → (n < first_above L n) × (below n L + 1 ≤ below (first_above L n) L)
unfolding below
first-more n [] h = absurd (cc)
first-more n (x ∷ L) h = go (nat_lt n x) refl h (first-more n L)
  where
    later : (m : ℕ) → (n < m) × (below n L + 1 ≤ below m L) → nat_lt n x ≡ false → (b c : Bool) → nat_le x n ≡ b → nat_le x m ≡ c
        → (n < m) × ((if b then suc (below n L) else below n L) + 1 ≤ (if c then suc (below m L) else below m L))
    later m ih e true true f g = (ih.0, (let i = ih.1 in omega arith))
    later m ih e true false f g =
        absurd (let i = ih.0 in let a : x ≤ n = grind (arith, nat_tests) in let d : m < x = grind (arith, nat_tests) in omega arith)
    later m ih e false c f g = absurd (let a : n < x = grind (arith, nat_tests) in let d : x ≤ n = grind (arith, nat_tests) in omega arith)

    here : (b c : Bool) → nat_lt n x ≡ true → nat_le x n ≡ b → nat_le x x ≡ c
        → (n < x) × ((if b then suc (below n L) else below n L) + 1 ≤ (if c then suc (below x L) else below x L))
    here true c e f g = absurd (let a : n < x = grind (arith, nat_tests) in let d : x ≤ n = grind (arith, nat_tests) in omega arith)
    here false false e f g = absurd (let d : x < x = grind (arith, nat_tests) in omega arith)
    here false true e f g =
        let a : n < x = grind (arith, nat_tests) in
        let more = below-more n x L (omega arith) in (a, omega arith)

    go : (b : Bool) → nat_lt n x ≡ b → (b || list_any (nat_lt n) L) ≡ true
        → (list_any (nat_lt n) L ≡ true → (n < first_above L n) × (below n L + 1 ≤ below (first_above L n) L))
        → (n < unwrap_or (if b then Some x else find (nat_lt n) L) n)
        × (below n (x ∷ L) + 1 ≤ below (unwrap_or (if b then Some x else find (nat_lt n) L) n) (x ∷ L))
    go true e h ih = here (nat_le x n) (nat_le x x) e refl refl
    go false e h ih = later (first_above L n) (ih h) e (nat_le x n) (nat_le x (first_above L n)) refl refl

any-above : (n m : ℕ) (L : List ℕ) → list_any (λ x. nat_lt n x && nat_le x m) L ≡ true → list_any (nat_lt n) L ≡ true
any-above n m [] h = h
any-above n m (x ∷ L) h = go (nat_lt n x) (nat_le x m) h (any-above n m L)
  where
    go : (a b : Bool) → ((a && b) || list_any (λ y. nat_lt n y && nat_le y m) L) ≡ true
        → (list_any (λ y. nat_lt n y && nat_le y m) L ≡ true → list_any (nat_lt n) L ≡ true) → (a || list_any (nat_lt n) L) ≡ true
    go true b h ih = refl
    go false b h ih = ih h

-- the losses, entry by entry
losses : Past → ℕ
losses [] = 0
losses (e ∷ H) = cond (is_loss e) (1 + losses H) (losses H)

losses-are : (H : Past) → losses H ≡ count_by is_loss H
unfolding losses
losses-are H = is_count_by losses is_loss refl (λ e G. refl) H

losses-below : (put_cost : ℕ → ℕ) (B : Base) (L : List ℕ) (H : Past) → ArePlanned put_cost B L H → losses H ≤ below (made put_cost B L H) L
unfolding losses
losses-below put_cost B L [] planned = omega arith
losses-below put_cost B L (Cut (Some r) ∷ H) planned =
    let ih = losses-below put_cost B L H planned.0 in
    let more = (first-more (made put_cost B L H) L (any-above (made put_cost B L H) _ L planned.1)).1 in omega arith
losses-below put_cost B L (Call c k word block ∷ H) planned =
    let ih = losses-below put_cost B L H planned.0 in
    let more = below-more (made put_cost B L H) (made put_cost B L H + cost put_cost B H c k) L (omega arith) in omega arith
losses-below put_cost B L (Cut None ∷ H) planned = losses-below put_cost B L H planned.0
losses-below put_cost B L (Opened c i shared ∷ H) planned = losses-below put_cost B L H planned.0
losses-below put_cost B L (Closed c ∷ H) planned = losses-below put_cost B L H planned.0
losses-below put_cost B L (Part c ∷ H) planned = losses-below put_cost B L H planned.0
losses-below put_cost B L (Rest c ∷ H) planned = losses-below put_cost B L H planned.0
losses-below put_cost B L (Bad c word ∷ H) planned = losses-below put_cost B L H planned.0
losses-below put_cost B L (Reset i ∷ H) planned = losses-below put_cost B L H planned.0
losses-below put_cost B L (Up t ∷ H) planned = losses-below put_cost B L H planned.0
losses-below put_cost B L (Note a w ∷ H) planned = losses-below put_cost B L H planned.0

pub LossesAreFew-law : LossesAreFew
LossesAreFew-law put_cost B L H planned =
    let a = losses-below put_cost B L H planned in
    let b = below-all (made put_cost B L H) L in
    let e = losses-are H in omega arith

pub ruleset planned_laws = (LossesAreFew-law)
