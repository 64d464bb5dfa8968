-- Lists of blocks.
use Rattle.std.proofs.Common.{◌≡◌, ◌≢◌, inl, inr, ℕ, zero, suc, ◌+◌, ◌<◌, ◌≤◌, Bool, List, [], ◌∷◌, length, map, get_or, set, sum_by, IsTrue, refl, ap, sym, ◌∙◌, arith}
use Rattle.std.specs.List.{range_with_len, list_all}
use Rattle.std.proofs.lemmas.Bool.{cases_eq, and_parts}
use Rattle.std.proofs.lemmas.Bool.Decides.{nat_tests}
use Rattle.std.proofs.lemmas.List.{same_lists, length-set, get_or-set_same, get_or-set_other}
use Rattle.std.proofs.lemmas.List.Sums.{sum_by-cons}
use Rattle.std.proofs.lemmas.List.FromFn.{length-map-range_with_len, get_or-map-range_with_len}
use Rattle.block_store.specs.Blocks.{times}

abbrev pub AllOf : {A : Type 0} → (A → Type 0) → List A → Type 0
AllOf P [] = Unit {0}
AllOf P (x ∷ xs) = P x × AllOf P xs

pub all_of : {A : Type 0} (P Q : A → Type 0) → ((x : A) → P x → Q x) → (xs : List A) → AllOf P xs → AllOf Q xs
all_of P Q implies [] all = tt
all_of P Q implies (x ∷ xs) all = (implies x all.0, all_of P Q implies xs all.1)

pub all_both : {A : Type 0} (P Q : A → Type 0) (xs : List A) → AllOf P xs → AllOf Q xs → AllOf (λ x. P x × Q x) xs
all_both P Q [] p q = tt
all_both P Q (x ∷ xs) p q = ((p.0, q.0), all_both P Q xs p.1 q.1)

pub all_at : (P : ℕ → Type 0) (xs : List ℕ) (i : ℕ) → i < length xs → AllOf P xs → P (get_or xs i 0)
all_at P [] i below all = absurd (omega arith)
all_at P (x ∷ xs) zero below all = all.0
all_at P (x ∷ xs) (suc i) below all = all_at P xs i (omega arith) all.1

pub all_from : (P : ℕ → Type 0) (xs : List ℕ) → ((i : ℕ) → i < length xs → P (get_or xs i 0)) → AllOf P xs
all_from P [] each = tt
all_from P (x ∷ xs) each = (each 0 (omega arith), all_from P xs (λ i below. each (suc i) (omega arith)))

-- a test of all
pub all_true : {A : Type 0} (p : A → Bool) (xs : List A) → IsTrue (list_all p xs) → AllOf (λ x. IsTrue (p x)) xs
all_true p [] test = tt
all_true p (x ∷ xs) test = let parts = and_parts (p x) (list_all p xs) test in (parts.0, all_true p xs parts.1)

pub true_all : {A : Type 0} (p : A → Bool) (xs : List A) → AllOf (λ x. IsTrue (p x)) xs → IsTrue (list_all p xs)
true_all p [] all = refl
true_all p (x ∷ xs) all = rw (all.0, true_all p xs all.1) refl

-- of all numbers of a range
pub range_true : (p : ℕ → Bool) (from n k : ℕ) → IsTrue (list_all p (range_with_len from n)) → from ≤ k → k < from + n → IsTrue (p k)
range_true p from zero k test low high = absurd (omega arith)
range_true p from (suc n) k test low high =
    let parts = and_parts (p from) (list_all p (range_with_len (from + 1) n)) test in
    elim (cases_eq k from) [ inl here ↦ rw here parts.0 | inr later ↦ range_true p (from + 1) n k parts.1 (omega arith) (omega arith) ]

pub true_range : (p : ℕ → Bool) (from n : ℕ) → ((k : ℕ) → from ≤ k → k < from + n → IsTrue (p k)) → IsTrue (list_all p (range_with_len from n))
true_range p from zero each = refl
true_range p from (suc n) each = rw (each from (omega arith) (omega arith), true_range p (from + 1) n (λ k low high. each k (omega arith) (omega arith))) refl

-- how often a block stands in a list
pub times_cons : (b x : ℕ) (xs : List ℕ) → times b xs ≤ times b (x ∷ xs)
times_cons b x xs = elim (cases_eq x b) [ inl same ↦ grind (arith, nat_tests) | inr differs ↦ grind (arith, nat_tests) ]

pub times_here : (x : ℕ) (xs : List ℕ) → 1 ≤ times x (x ∷ xs)
times_here x xs = grind (arith, nat_tests)

-- each member stands there
pub members : (xs : List ℕ) → AllOf (λ x. 1 ≤ times x xs) xs
members [] = tt
members (x ∷ xs) = (times_here x xs, all_of (λ y. 1 ≤ times y xs) (λ y. 1 ≤ times y (x ∷ xs)) (λ y le. omega (arith, le, times_cons y x xs)) xs (members xs))

-- a block that isn't any of them
pub none_of : (b : ℕ) (xs : List ℕ) → AllOf (λ x. x ≢ b) xs → times b xs ≡ 0
none_of b [] all = refl
none_of b (x ∷ xs) all = let differs = all.0 in let later = none_of b xs all.1 in grind (arith, nat_tests)

-- sums over a range
pub sum_le : (f g : ℕ → ℕ) (from n : ℕ) → ((k : ℕ) → from ≤ k → k < from + n → f k ≤ g k) → sum_by f (range_with_len from n) ≤ sum_by g (range_with_len from n)
sum_le f g from zero each = omega arith
sum_le f g from (suc n) each =
    let one = sum_by-cons f from (range_with_len (from + 1) n) in
    let two = sum_by-cons g from (range_with_len (from + 1) n) in
    omega (arith, one, two, each from (omega arith) (omega arith), sum_le f g (from + 1) n (λ k low high. each k (omega arith) (omega arith)))

-- one term has grown by at most so much
pub sum_with : (f g : ℕ → ℕ) (at more from n : ℕ) → ((k : ℕ) → from ≤ k → k < from + n → k ≢ at → f k ≤ g k) → f at ≤ more → sum_by f (range_with_len from n) ≤ sum_by g (range_with_len from n) + more
sum_with f g at more from zero each few = omega arith
sum_with f g at more from (suc n) each few =
    let one = sum_by-cons f from (range_with_len (from + 1) n) in
    let two = sum_by-cons g from (range_with_len (from + 1) n) in
    elim (cases_eq from at) [
      | inl here ↦ let first : f from ≤ more = rw here few in let later = sum_le f g (from + 1) n (λ k low high. each k (omega arith) (omega arith) (omega arith)) in omega (arith, one, two, first, later)
      | inr differs ↦ omega (arith, one, two, each from (omega arith) (omega arith) differs, sum_with f g at more (from + 1) n (λ k low high ne. each k (omega arith) (omega arith) ne) few)
    ]

pub term_le : (f : ℕ → ℕ) (from n k : ℕ) → from ≤ k → k < from + n → f k ≤ sum_by f (range_with_len from n)
term_le f from zero k low high = absurd (omega arith)
term_le f from (suc n) k low high =
    let one = sum_by-cons f from (range_with_len (from + 1) n) in
    elim (cases_eq k from) [ inl here ↦ rw here (omega (arith, one)) | inr later ↦ omega (arith, one, term_le f (from + 1) n k (omega arith) (omega arith)) ]

-- a list over a range, with one element another
pub map_with : (f g : ℕ → List ℕ) (at n : ℕ) (v : List ℕ) → at < n → ((k : ℕ) → k < n → k ≢ at → f k ≡ g k) → f at ≡ v → map f (range_with_len 0 n) ≡ set (map g (range_with_len 0 n)) at v
map_with f g at n v within each is =
    let one = length-map-range_with_len f 0 n in
    let two = length-map-range_with_len g 0 n in
    same_lists _ _ (one ∙ sym (length-set (map g (range_with_len 0 n)) at v ∙ two)) (λ k d h.
    let here : k < n = omega arith in
    let left = get_or-map-range_with_len f 0 n k k d here (omega arith) in
    elim (cases_eq k at) [
      | inl same ↦ left ∙ ap f same ∙ is ∙ sym (ap (λ j. get_or (set (map g (range_with_len 0 n)) at v) j d) same ∙ (let inside : at < length (map g (range_with_len 0 n)) = omega arith in get_or-set_same (map g (range_with_len 0 n)) at v d inside))
      | inr differs ↦ left ∙ each k here differs ∙ sym (get_or-set_other (map g (range_with_len 0 n)) at k v d differs ∙ get_or-map-range_with_len g 0 n k k d here (omega arith))
    ])
