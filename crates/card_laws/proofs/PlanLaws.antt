-- A plan of losses goes on by one entry.
use Rattle.std.specs.Prelude.{◌&&◌, ◌||◌, nat_lt, nat_le, filter, map, find, if◌then◌else◌, slice_index}
use Rattle.std.specs.List.{list_any}
use Rattle.std.specs.List.Sorted.{IsStrictlyIncreasing}
use Rattle.std.proofs.Common.{◌≡◌, ◌<◌, ◌≤◌, ◌+◌, ◌-◌, ℕ, suc, Bool, true, false, List, [], ◌∷◌, length, Some, None, refl, ap, sym, ◌∙◌, subst, arith, unwrap_or}
use Rattle.std.proofs.lemmas.Bool.Decides.{nat_tests}
use Rattle.power_loss.specs.Due.{is_due, after_writes, after_loss}
use Rattle.piv_model.specs.Entries.{Opened, Closed, Call, Part, Rest, Bad, Reset, Cut, Up, Note}
use Rattle.piv_rules.specs.Plans.{cost, first_above, made, meets, still_due}
use Rattle.card_laws.specs.PlanSteps.{PlansGoOn}

-- each number of the list is above x
abbrev AreAbove : ℕ → List ℕ → Type 0
AreAbove x [] = Unit {0}
AreAbove x (y ∷ ys) = (x < y) × AreAbove x ys

abbrev Rises : List ℕ → Type 0
Rises [] = Unit {0}
Rises (x ∷ xs) = AreAbove x xs × Rises xs

above-less : (x y : ℕ) (ys : List ℕ) → x < y → AreAbove y ys → AreAbove x ys
above-less x y [] h a = tt
above-less x y (z ∷ zs) h a = ((let k = a.0 in omega arith), above-less x y zs h a.1)

rises : (xs : List ℕ) → IsStrictlyIncreasing xs → Rises xs
rises [] inc = tt
rises (x ∷ []) inc = (tt, tt)
rises (x ∷ y ∷ ys) inc =
    let rest = rises (y ∷ ys) (λ k h. let e : suc k + 1 ≡ suc (k + 1) = omega arith in subst (λ (n : ℕ). slice_index (y ∷ ys) k < slice_index (x ∷ y ∷ ys) n) e (inc (suc k) (let b : suc k + 1 < suc (suc (length ys)) = let c : k + 1 < suc (length ys) = h in omega arith in b))) in
    let first : x < y = inc 0 (let b : 0 + 1 < suc (suc (length ys)) = omega arith in b) in
    ((first, above-less x y ys first rest.0), rest)

-- the numbers of a list above m, counted from there
after : List ℕ → ℕ → List ℕ
after L m = map (λ x. x - m) (filter (nat_lt m) L)

-- none of the numbers above x comes within writes that end below it
above-none : (m n x : ℕ) (ys : List ℕ) → m + n < x → AreAbove x ys → list_any (λ y. nat_lt m y && nat_le y (m + n)) ys ≡ false
above-none m n x [] h a = refl
above-none m n x (y ∷ ys) h a =
    let k = a.0 in
    let e : nat_le y (m + n) ≡ false = grind (arith, nat_tests) in
    let ih = above-none m n x ys h a.1 in
    by (nat_lt m y) (nat_le y (m + n)) _ e ih
  where
    by : (p q r : Bool) → q ≡ false → r ≡ false → ((p && q) || r) ≡ false
    by true q r e f = rw (e, f) refl
    by false q r e f = f

-- the first number that is told shows whether one comes
due-meets : (L : List ℕ) (m n : ℕ) → Rises L → is_due n (after L m) ≡ meets L m n
unfolding after
due-meets [] m n r = refl
due-meets (x ∷ xs) m n r = go (nat_lt m x) refl (due-meets xs m n r.1)
  where
    go : (b : Bool) → nat_lt m x ≡ b → is_due n (map (λ y. y - m) (filter (nat_lt m) xs)) ≡ list_any (λ y. nat_lt m y && nat_le y (m + n)) xs
        → is_due n (map (λ y. y - m) (if b then x ∷ filter (nat_lt m) xs else filter (nat_lt m) xs))
        ≡ ((b && nat_le x (m + n)) || list_any (λ y. nat_lt m y && nat_le y (m + n)) xs)
    go false e ih = ih
    go true e ih = here (nat_le x (m + n)) refl
      where
        here : (d : Bool) → nat_le x (m + n) ≡ d → nat_le (x - m) n ≡ (d || list_any (λ y. nat_lt m y && nat_le y (m + n)) xs)
        here true f = grind (arith, nat_tests)
        here false f =
            let past : m + n < x = grind (arith, nat_tests) in
            let none = above-none m n x xs past r.0 in
            let late : nat_le (x - m) n ≡ false = grind (arith, nat_tests) in
            late ∙ sym none

-- where none comes
after-none : (L : List ℕ) (m n : ℕ) → meets L m n ≡ false → after L (m + n) ≡ after_writes n (after L m)
unfolding after
after-none [] m n none = refl
after-none (x ∷ xs) m n none = go (nat_lt m x) refl (nat_lt (m + n) x) refl none (after-none xs m n)
  where
    go : (a : Bool) → nat_lt m x ≡ a → (b : Bool) → nat_lt (m + n) x ≡ b
        → ((a && nat_le x (m + n)) || list_any (λ y. nat_lt m y && nat_le y (m + n)) xs) ≡ false
        → (list_any (λ y. nat_lt m y && nat_le y (m + n)) xs ≡ false
        → map (λ y. y - (m + n)) (filter (nat_lt (m + n)) xs) ≡ map (λ d. d - n) (map (λ y. y - m) (filter (nat_lt m) xs)))
        → map (λ y. y - (m + n)) (if b then x ∷ filter (nat_lt (m + n)) xs else filter (nat_lt (m + n)) xs)
        ≡ map (λ d. d - n) (map (λ y. y - m) (if a then x ∷ filter (nat_lt m) xs else filter (nat_lt m) xs))
    go false e false f clear ih = ih clear
    go false e true f clear ih = absurd (let h : true ≡ false = sym f ∙ (let k : nat_lt (m + n) x ≡ false = grind (arith, nat_tests) in k) in cc)
    go true e true f clear ih =
        let late : nat_le x (m + n) ≡ false = grind (arith, nat_tests) in
        let rest : list_any (λ y. nat_lt m y && nat_le y (m + n)) xs ≡ false = sym (λ j. late j || list_any (λ y. nat_lt m y && nat_le y (m + n)) xs) ∙ clear in
        let s : x - (m + n) ≡ (x - m) - n = omega arith in
        λ j. s j ∷ ih rest j
    go true e false f clear ih =
        let soon : nat_le x (m + n) ≡ true = grind (arith, nat_tests) in
        absurd (let h : true ≡ false = sym (λ j. soon j || list_any (λ y. nat_lt m y && nat_le y (m + n)) xs) ∙ clear in cc)

-- where one comes
above-all : (m x : ℕ) (ys : List ℕ) → m < x → AreAbove x ys
    → map (λ y. y - x) (filter (nat_lt x) ys) ≡ map (λ d. d - (x - m)) (map (λ y. y - m) (filter (nat_lt m) ys))
above-all m x [] low a = refl
above-all m x (y ∷ ys) low a =
    let k = a.0 in
    let p : nat_lt x y ≡ true = grind (arith, nat_tests) in
    let q : nat_lt m y ≡ true = grind (arith, nat_tests) in
    let s : y - x ≡ (y - m) - (x - m) = omega arith in
    let ih = above-all m x ys low a.1 in
    (λ j. map (λ z. z - x) (if p j then y ∷ filter (nat_lt x) ys else filter (nat_lt x) ys))
    ∙ (λ j. s j ∷ ih j)
    ∙ sym (λ j. map (λ d. d - (x - m)) (map (λ z. z - m) (if q j then y ∷ filter (nat_lt m) ys else filter (nat_lt m) ys)))

first-low : (L : List ℕ) (m : ℕ) → m ≤ first_above L m
first-low [] m = omega arith
first-low (x ∷ xs) m = go (nat_lt m x) refl (first-low xs m)
  where
    go : (b : Bool) → nat_lt m x ≡ b → m ≤ unwrap_or (find (nat_lt m) xs) m → m ≤ unwrap_or (if b then Some x else find (nat_lt m) xs) m
    go true e ih = grind (arith, nat_tests)
    go false e ih = ih

after-first : (L : List ℕ) (m n : ℕ) → Rises L → is_due n (after L m) ≡ true → after L (first_above L m) ≡ after_loss (after L m)
unfolding after
after-first [] m n r due = absurd (cc)
after-first (x ∷ xs) m n r due = go (nat_lt m x) refl due (after-first xs m n r.1)
  where
    go : (b : Bool) → nat_lt m x ≡ b
        → is_due n (map (λ y. y - m) (if b then x ∷ filter (nat_lt m) xs else filter (nat_lt m) xs)) ≡ true
        → (is_due n (map (λ y. y - m) (filter (nat_lt m) xs)) ≡ true
        → map (λ y. y - first_above xs m) (filter (nat_lt (first_above xs m)) xs) ≡ after_loss (map (λ y. y - m) (filter (nat_lt m) xs)))
        → map (λ y. y - unwrap_or (if b then Some x else find (nat_lt m) xs) m) (filter (nat_lt (unwrap_or (if b then Some x else find (nat_lt m) xs) m)) (x ∷ xs))
        ≡ after_loss (map (λ y. y - m) (if b then x ∷ filter (nat_lt m) xs else filter (nat_lt m) xs))
    go true e due ih =
        let self : nat_lt x x ≡ false = grind (arith, nat_tests) in
        let low : m < x = grind (arith, nat_tests) in
        (λ j. map (λ y. y - x) (if self j then x ∷ filter (nat_lt x) xs else filter (nat_lt x) xs)) ∙ above-all m x xs low r.0
    go false e due ih =
        let f : ℕ = first_above xs m in
        let low : m ≤ first_above xs m = first-low xs m in
        let past : nat_lt (first_above xs m) x ≡ false = grind (arith, nat_tests) in
        (λ j. map (λ y. y - first_above xs m) (if past j then x ∷ filter (nat_lt (first_above xs m)) xs else filter (nat_lt (first_above xs m)) xs)) ∙ ih due

pub PlansGoOn-law : PlansGoOn
unfolding after
PlansGoOn-law put_cost B L G (Call c k word block) old new plan told =
    let m : ℕ = made put_cost B L G in
    let n : ℕ = cost put_cost B G c k in
    let none : meets L m n ≡ false = sym (due-meets L m n (rises L plan.rises)) ∙ sym (ap (is_due n) plan.due) ∙ told.0 in
    record {
      rises = plan.rises;
      planned = (plan.planned, rw none refl);
      due = told.1 ∙ ap (after_writes n) plan.due ∙ sym (after-none L m n none);
    }
PlansGoOn-law put_cost B L G (Cut (Some r)) old new plan told =
    let m : ℕ = made put_cost B L G in
    let n : ℕ = cost put_cost B G r.0 r.1 in
    let up = rises L plan.rises in
    let due : is_due n (still_due put_cost B L G) ≡ true = sym (ap (is_due n) plan.due) ∙ told.0 in
    record {
      rises = plan.rises;
      planned = (plan.planned, sym (due-meets L m n up) ∙ due);
      due = told.1 ∙ ap after_loss plan.due ∙ sym (after-first L m n up due);
    }
PlansGoOn-law put_cost B L G (Cut None) old new plan told = record { rises = plan.rises; planned = (plan.planned, tt); due = told ∙ plan.due }
PlansGoOn-law put_cost B L G (Opened c i shared) old new plan told = record { rises = plan.rises; planned = (plan.planned, tt); due = told ∙ plan.due }
PlansGoOn-law put_cost B L G (Closed c) old new plan told = record { rises = plan.rises; planned = (plan.planned, tt); due = told ∙ plan.due }
PlansGoOn-law put_cost B L G (Part c) old new plan told = record { rises = plan.rises; planned = (plan.planned, tt); due = told ∙ plan.due }
PlansGoOn-law put_cost B L G (Rest c) old new plan told = record { rises = plan.rises; planned = (plan.planned, tt); due = told ∙ plan.due }
PlansGoOn-law put_cost B L G (Bad c w) old new plan told = record { rises = plan.rises; planned = (plan.planned, tt); due = told ∙ plan.due }
PlansGoOn-law put_cost B L G (Reset i) old new plan told = record { rises = plan.rises; planned = (plan.planned, tt); due = told ∙ plan.due }
PlansGoOn-law put_cost B L G (Up t) old new plan told = record { rises = plan.rises; planned = (plan.planned, tt); due = told ∙ plan.due }
PlansGoOn-law put_cost B L G (Note a w) old new plan told = record { rises = plan.rises; planned = (plan.planned, tt); due = told ∙ plan.due }

pub ruleset plan_laws = (PlansGoOn-law)
