-- What n writes make of a plan.
use Rattle.std.proofs.Common.{◌≡◌, ℕ, ◌+◌, ◌-◌, ◌<◌, ◌≤◌, nat_le, Bool, true, false, List, [], ◌∷◌, length, Some, None, if◌then◌else◌, refl, ap, sym, ◌∙◌, arith}
use Rattle.std.specs.Prelude.{is_some}
use Rattle.std.proofs.lemmas.List.{length-map}
use Rattle.std.proofs.lemmas.Bool.Decides.{nat_tests}
use Rattle.power_loss.specs.Due.{RisesFrom, is_due, due_after, after_writes}
use Rattle.power_loss.specs.declared.loss.Loss.{Loss}
use Rattle.power_loss.specs.Plans.{write_numbers, counted_from, planned_in, losses_after, whole, plan_at}

counted_none : {H : Type 0} (losses : List (Loss H)) → counted_from 0 losses ≡ losses
counted_none [] = refl
counted_none (l ∷ losses) =
    let e : l.write - 0 ≡ l.write = omega arith in
    λ i. record l { write = e i } ∷ counted_none losses i

pub plan_at_first : {H : Type 0} (losses : List (Loss H)) → plan_at losses 0 0 ≡ whole losses
plan_at_first losses = ap (λ l. record (whole losses) { to_come = l }) (counted_none losses)

counted_more : {H : Type 0} (n m : ℕ) (losses : List (Loss H)) → counted_from m (counted_from n losses) ≡ counted_from (n + m) losses
counted_more n m [] = refl
counted_more n m (l ∷ losses) =
    let e : (l.write - n) - m ≡ l.write - (n + m) = omega arith in
    λ i. record l { write = e i } ∷ counted_more n m losses i

pub counted_lost : {H : Type 0} (made n : ℕ) (losses : List (Loss H)) (l : Loss H) (later : List (Loss H)) → losses ≡ l ∷ later → made ≤ l.write → l.write - made ≤ n
    → counted_from l.write later ≡ losses_after n (counted_from made losses)
counted_lost made n losses l later is before within =
    let now : nat_le (l.write - made) n ≡ true = grind (arith, nat_tests) in
    let all : made + (l.write - made) ≡ l.write = omega arith in
    rw is (rw now (ap (λ k. counted_from k later) (sym all) ∙ sym (counted_more made (l.write - made) later)))

pub counted_kept : {H : Type 0} (made n : ℕ) (losses : List (Loss H)) (l : Loss H) (later : List (Loss H)) → losses ≡ l ∷ later → n < l.write - made
    → counted_from (made + n) losses ≡ losses_after n (counted_from made losses)
counted_kept made n losses l later is more =
    let none : nat_le (l.write - made) n ≡ false = grind (arith, nat_tests) in
    rw is (rw none (sym (counted_more made n (l ∷ later))))

-- the first of them is above
pub above : {H : Type 0} (n : ℕ) (losses : List (Loss H)) (l : Loss H) (later : List (Loss H)) → losses ≡ l ∷ later → RisesFrom n (write_numbers losses) → (n < l.write) × RisesFrom l.write (write_numbers later)
above n losses l later is rises = rw is at rises

numbers_counted : {H : Type 0} (n : ℕ) (losses : List (Loss H)) → write_numbers (counted_from n losses) ≡ after_writes n (write_numbers losses)
numbers_counted n [] = refl
numbers_counted n (l ∷ losses) = λ i. (l.write - n) ∷ numbers_counted n losses i

pub numbers_after : {H : Type 0} (n : ℕ) (losses : List (Loss H)) → write_numbers (losses_after n losses) ≡ due_after n (write_numbers losses)
numbers_after n [] = refl
numbers_after n (l ∷ later) = by (nat_le l.write n) refl
  where
    by : (b : Bool) → nat_le l.write n ≡ b → write_numbers (losses_after n (l ∷ later)) ≡ due_after n (write_numbers (l ∷ later))
    by true now = rw now (numbers_counted l.write later)
    by false not = rw not (numbers_counted n (l ∷ later))

pub planned_due : {H : Type 0} (n : ℕ) (losses : List (Loss H)) → is_some (planned_in n losses) ≡ is_due n (write_numbers losses)
planned_due n [] = refl
planned_due n (l ∷ later) = by (nat_le l.write n) refl
  where
    by : (b : Bool) → nat_le l.write n ≡ b → is_some (planned_in n (l ∷ later)) ≡ nat_le l.write n
    by true now = rw now refl
    by false not = rw not refl

rises_counted : {H : Type 0} (n : ℕ) (losses : List (Loss H)) (low : ℕ) → n ≤ low → RisesFrom low (write_numbers losses) → RisesFrom (low - n) (write_numbers (counted_from n losses))
rises_counted n [] low le rises = tt
rises_counted n (l ∷ losses) low le rises = (omega (arith, rises.0), rises_counted n losses l.write (omega (arith, rises.0)) rises.1)

-- as many writes as were made were none of theirs
pub rises_from_none : {H : Type 0} (n : ℕ) (losses : List (Loss H)) → RisesFrom n (write_numbers losses) → RisesFrom 0 (write_numbers (counted_from n losses))
rises_from_none n [] rises = tt
rises_from_none n (l ∷ losses) rises = (omega (arith, rises.0), rises_counted n losses l.write (omega (arith, rises.0)) rises.1)

pub length-counted : {H : Type 0} (n : ℕ) (losses : List (Loss H)) → length (counted_from n losses) ≡ length losses
length-counted {H} n losses = length-map losses (λ (l : Loss H). record l { write = l.write - n })

pub length_after : {H : Type 0} (n : ℕ) (losses : List (Loss H)) → length losses ≡ length (losses_after n losses) + (if is_due n (write_numbers losses) then 1 else 0)
length_after n [] = refl
length_after n (l ∷ later) = by (nat_le l.write n) refl
  where
    by : (b : Bool) → nat_le l.write n ≡ b → length (l ∷ later) ≡ length (losses_after n (l ∷ later)) + (if nat_le l.write n then 1 else 0)
    by true now = rw now (omega (arith, length-counted l.write later))
    by false not = rw not (omega (arith, length-counted n (l ∷ later)))

pub length_planned : {H : Type 0} (n : ℕ) (losses : List (Loss H)) (how : H) → planned_in n losses ≡ Some how → length losses ≡ length (losses_after n losses) + 1
length_planned n [] how is = cc
length_planned n (l ∷ later) how is = by (nat_le l.write n) refl
  where
    by : (b : Bool) → nat_le l.write n ≡ b → length (l ∷ later) ≡ length (losses_after n (l ∷ later)) + 1
    by true now = rw now (omega (arith, length-counted l.write later))
    by false not = let some : None ≡ Some how = rw not at is in cc

pub length_kept : {H : Type 0} (n : ℕ) (losses : List (Loss H)) → planned_in n losses ≡ None → length (losses_after n losses) ≡ length losses
length_kept n [] is = refl
length_kept n (l ∷ later) is = by (nat_le l.write n) refl
  where
    by : (b : Bool) → nat_le l.write n ≡ b → length (losses_after n (l ∷ later)) ≡ length (l ∷ later)
    by true now = let some : Some l.how ≡ None = rw now at is in cc
    by false not = rw not (length-counted n (l ∷ later))
