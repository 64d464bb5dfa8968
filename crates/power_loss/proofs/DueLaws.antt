-- Calls of several writes, one after the other.
use Rattle.std.proofs.Common.{◌≡◌, ℕ, ◌+◌, ◌-◌, ◌≤◌, true, false, List, [], ◌∷◌, length, nat_le, if◌then◌else◌, Some, None, IfSome, refl, ap, sym, ◌∙◌, arith}
use Rattle.std.proofs.lemmas.Bool.Decides.{nat_tests}
use Rattle.std.specs.declared.option.Option.{Option}
use Rattle.std.specs.Option.{option_map}
use Rattle.power_loss.specs.Due.{RisesFrom, is_due, due_after, after_writes}

pub after_writes-after_writes : (n m : ℕ) (due : List ℕ) → after_writes m (after_writes n due) ≡ after_writes (n + m) due
after_writes-after_writes n m [] = refl
after_writes-after_writes n m (d ∷ later) =
    let e : (d - n) - m ≡ d - (n + m) = omega arith in
    λ i. e i ∷ after_writes-after_writes n m later i

after_first : (n d : ℕ) (later : List ℕ) → n ≤ d → after_writes (d - n) (after_writes n later) ≡ after_writes d later
after_first n d later le = after_writes-after_writes n (d - n) later ∙ ap (λ k. after_writes k later) (omega arith)

-- none of n writes was lost: m more make n + m
pub is_due-after : (n m : ℕ) (due : List ℕ) → is_due n due ≡ false → is_due m (due_after n due) ≡ is_due (n + m) due
is_due-after n m [] none = refl
is_due-after n m (d ∷ later) none = rw none (grind (arith, nat_tests))

pub due_after-after : (n m : ℕ) (due : List ℕ) → is_due n due ≡ false → due_after m (due_after n due) ≡ due_after (n + m) due
due_after-after n m [] none = refl
due_after-after n m (d ∷ later) none =
    let more : n ≤ d = grind (arith, nat_tests) in
    let start : due_after n (d ∷ later) ≡ (d - n) ∷ after_writes n later = rw none refl in
    let test : nat_le (d - n) m ≡ nat_le d (n + m) = sym (ap (is_due m) start) ∙ is_due-after n m (d ∷ later) none in
    let cut = after_first n d later more in
    let kept = after_writes-after_writes n m (d ∷ later) in
    ap (due_after m) start ∙ (λ i. if test i then cut i else kept i)

-- one of n writes was lost, so none came after it
pub due_after-lost : (n m : ℕ) (due : List ℕ) → is_due n due ≡ true → due_after n due ≡ due_after (n + m) due
due_after-lost n m [] now = refl
due_after-lost n m (d ∷ later) now =
    let too : is_due (n + m) (d ∷ later) ≡ true = grind (arith, nat_tests) in
    rw (now, too) refl

-- the same, where a device tells
pub told_after-after : (n m : ℕ) (told : Option (List ℕ)) → IfSome told (λ due. is_due n due ≡ false) → option_map (due_after m) (option_map (due_after n) told) ≡ option_map (due_after (n + m)) told
told_after-after n m None none = refl
told_after-after n m (Some due) none = ap Some (due_after-after n m due none)

pub told_after-lost : (n m : ℕ) (told : Option (List ℕ)) → IfSome told (λ due. is_due n due ≡ true) → option_map (due_after n) told ≡ option_map (due_after (n + m)) told
told_after-lost n m None now = refl
told_after-lost n m (Some due) now = ap Some (due_after-lost n m due now)

-- a call with no write
after_none : (due : List ℕ) → after_writes 0 due ≡ due
after_none [] = refl
after_none (d ∷ later) =
    let e : d - 0 ≡ d = omega arith in
    λ i. e i ∷ after_none later i

pub due_after-none : (due : List ℕ) → RisesFrom 0 due → due_after 0 due ≡ due
due_after-none [] rises = refl
due_after-none (d ∷ later) rises =
    let more = rises.0 in
    let not_due : nat_le d 0 ≡ false = grind (arith, nat_tests) in
    rw not_due (after_none (d ∷ later))

pub told_after-none : (told : Option (List ℕ)) (span : ℕ) → IfSome told (λ due. RisesFrom 0 due × (length due ≤ span)) → option_map (due_after 0) told ≡ told
told_after-none None span rises = refl
told_after-none (Some due) span rises = ap Some (due_after-none due rises.0)

pub ruleset due_steps = (is_due-after, due_after-after, due_after-lost, due_after-none)

pub ruleset told_steps = (is_due-after, due_after-after, due_after-lost, due_after-none, told_after-after, told_after-lost, told_after-none)
