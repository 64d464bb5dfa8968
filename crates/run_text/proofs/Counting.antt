-- Entries that are counted one after the other.
use Rattle.std.proofs.Common.{◌≡◌, ℕ, ◌+◌, ◌<◌, ◌≤◌, Bool, true, false, cond, [], ◌∷◌, length, take, Option, Some, None, refl, ap, ◌∙◌, arith, length-append}
use Rattle.std.specs.Prelude.{reverse, not, ◌==◌, is_some}
use Rattle.std.specs.Int.{from_bool}
use Rattle.std.specs.List.{filter}
use Rattle.std.proofs.lemmas.List.{length-take, take_all, reverse-append}
use Rattle.std.proofs.lemmas.List.Elements.{filter-append}
use Rattle.std.proofs.lemmas.List.Filters.{length-filter_more}
use Rattle.std.proofs.lemmas.Option.{get_or_from_slice_get}
use Rattle.piv_model.specs.Entries.{CardEntry, Past}
use Rattle.piv_model.specs.Written.{at_place}
use Rattle.run_text.specs.Summaries.{word_of, grants, refuses, is_call, is_granted, is_refused, number_of}

-- among the oldest so many
pub counted : (CardEntry → Bool) → Past → ℕ → ℕ
counted test H k = length (filter test (take k (reverse H)))

pub counted-next : (test : CardEntry → Bool) (H : Past) (k : ℕ) (e : CardEntry) → k < length (reverse H) → at_place H k ≡ Some e
    → counted test H (k + 1) ≡ counted test H k + cond (test e) 1 0
unfolding counted
counted-next test H k e within at =
    length-filter_more test (reverse H) k e within ∙ ap (λ (x : CardEntry). counted test H k + cond (test x) 1 0) (get_or_from_slice_get (reverse H) k e e at)

turned : (test : CardEntry → Bool) (H : Past) → length (filter test (reverse H)) ≡ length (filter test H)
turned test [] = refl
turned test (e ∷ H) =
    ap (λ (l : Past). length (filter test l)) (reverse-append (e ∷ []) H)
    ∙ ap length (filter-append test (reverse H) (e ∷ []))
    ∙ length-append (filter test (reverse H)) (filter test (e ∷ []))
    ∙ step (test e) e (length (filter test (reverse H))) (filter test H) (turned test H)
  where
    step : (b : Bool) (e : CardEntry) (n : ℕ) (l : Past) → n ≡ length l → n + length (cond b (e ∷ []) []) ≡ length (cond b (e ∷ l) l)
    step true e n l h = omega (arith, h)
    step false e n l h = omega (arith, h)

pub counted-all : (test : CardEntry → Bool) (H : Past) (k : ℕ) → length (reverse H) ≤ k → counted test H k ≡ number_of test H
unfolding counted
counted-all test H k all = ap (λ (l : Past). length (filter test l)) (take_all k (reverse H) all) ∙ turned test H

both-of : (word : Option ℕ) → cond (grants word) 1 0 + cond (refuses word) 1 0 ≡ cond (is_some word) 1 0
both-of None = refl
both-of (Some sw) = by_test (sw == 0x9000)
  where
    by_test : (b : Bool) → cond b 1 0 + cond (not b) 1 0 ≡ 1
    by_test true = refl
    by_test false = refl

pub all-calls : (H : Past) → number_of is_granted H + number_of is_refused H ≡ number_of is_call H
all-calls [] = refl
all-calls (e ∷ H) =
    let g = one is_granted e H in
    let r = one is_refused e H in
    let c = one is_call e H in
    let b = both-of (word_of e) in
    let h = all-calls H in
    omega (arith, g, r, c, b, h)
  where
    one : (test : CardEntry → Bool) (e : CardEntry) (H : Past) → number_of test (e ∷ H) ≡ cond (test e) 1 0 + number_of test H
    one test e H = by_test (test e) e (filter test H)
      where
        by_test : (b : Bool) (e : CardEntry) (l : Past) → length (cond b (e ∷ l) l) ≡ cond b 1 0 + length l
        by_test true e l = omega arith
        by_test false e l = omega arith

pub few-calls : (test : CardEntry → Bool) (H : Past) → number_of test H ≤ length H
few-calls test [] = omega arith
few-calls test (e ∷ H) = let h = few-calls test H in by_test (test e) e (filter test H) H h
  where
    by_test : (b : Bool) (e : CardEntry) (l H : Past) → length l ≤ length H → length (cond b (e ∷ l) l) ≤ length (e ∷ H)
    by_test true e l H h = omega (arith, h)
    by_test false e l H h = omega (arith, h)

pub counted-none : (test : CardEntry → Bool) (H : Past) → 0 ≡ counted test H 0
unfolding counted
counted-none test H = refl

pub counted-few : (test : CardEntry → Bool) (H : Past) (k : ℕ) → counted test H k ≤ k
unfolding counted
counted-few test H k =
    let few = few-calls test (take k (reverse H)) in
    let n = length-take k (reverse H) in
    omega (arith, few, n)

pub as-number : (b : Bool) → from_bool b ≡ cond b 1 0
as-number true = refl
as-number false = refl
