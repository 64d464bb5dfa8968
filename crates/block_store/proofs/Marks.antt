-- Marks of the blocks that are read, and the blocks that aren't.
use Rattle.std.proofs.Common.{◌≡◌, ◌≢◌, inl, inr, ℕ, zero, suc, ◌+◌, ◌-◌, ◌<◌, ◌≤◌, ◌==◌, ◌||◌, nat_lt, Bool, true, false, if◌then◌else◌, List, [], ◌∷◌, length, get_or, set, sum_by, refl, ap, sym, ◌∙◌, subst, arith}
use Rattle.std.specs.List.{range_with_len}
use Rattle.std.specs.Prelude.{replicate}
use Rattle.std.proofs.lemmas.Bool.{cases_eq, cases_lt}
use Rattle.std.proofs.lemmas.Bool.Decides.{nat_tests}
use Rattle.std.proofs.lemmas.List.{get_or-set_same, get_or-set_other}
use Rattle.std.proofs.lemmas.List.Sums.{sum_by-cons}
use Rattle.piv_model.specs.Memory.{blocks}
use Rattle.block_store.specs.Blocks.{length_in, first_in, next_in, chain, chain_of, times, reads, reads_below}
use Rattle.block_store.specs.Writes.{is_marked, free_below, IsLowest, is_in}
use Rattle.block_store.proofs.Lists.{sum_le, all_from}
use Rattle.block_store.proofs.Chains.{AreFree}

-- a block stands in a list where it stands there at least once
pub in_times : (b : ℕ) (xs : List ℕ) → is_in b xs ≡ nat_lt 0 (times b xs)
in_times b [] = refl
in_times b (x ∷ xs) = let later = in_times b xs in by_first (x == b) later
  where
    by_first : (c : Bool) → is_in b xs ≡ nat_lt 0 (times b xs) → (c || is_in b xs) ≡ nat_lt 0 (if c then times b xs + 1 else times b xs)
    by_first true later = grind (arith, nat_tests)
    by_first false later = later

-- one more mark
pub marked_more : (used : List Bool) (block b : ℕ) → block < length used → is_marked (set used block true) b ≡ ((block == b) || is_marked used b)
marked_more used block b within = elim (cases_eq block b) [
  | inl same ↦ (let test : (block == b) ≡ true = grind (arith, nat_tests) in ap (λ k. get_or (set used block true) k false) (sym same) ∙ get_or-set_same used block true false within ∙ rw test refl)
  | inr differs ↦ (let test : (block == b) ≡ false = grind (arith, nat_tests) in get_or-set_other used block b true false (λ e. differs (sym e)) ∙ rw test refl)
]

pub marked_none : (used : List Bool) (block b : ℕ) → b < length used → length used ≤ block → is_marked used b ≡ ((block == b) || is_marked used b)
marked_none used block b within past = let test : (block == b) ≡ false = grind (arith, nat_tests) in rw test refl

swap_or : (c m r : Bool) → ((c || m) || r) ≡ (m || (c || r))
swap_or true true r = refl
swap_or true false r = refl
swap_or false true r = refl
swap_or false false r = refl

-- a step along a chain: what is marked and what is to come is the same as before
pub along : (d : List ℕ) (old now : Bool) (n i block b : ℕ) → i < n → now ≡ ((block == b) || old) → (now || is_in b (chain d (n - (i + 1)) (next_in d block))) ≡ (old || is_in b (chain d (n - i) block))
along d old now n i block b low is =
    let more : n - i ≡ suc (n - (i + 1)) = omega arith in
    ap (λ m. m || is_in b (chain d (n - (i + 1)) (next_in d block))) is ∙ swap_or (block == b) old (is_in b (chain d (n - (i + 1)) (next_in d block)))
    ∙ sym (ap (λ k. old || is_in b (chain d k block)) more)

sum_suc : (f : ℕ → ℕ) (from n : ℕ) → sum_by f (range_with_len from (suc n)) ≡ sum_by f (range_with_len from n) + f (from + n)
sum_suc f from zero =
    let one = sum_by-cons f from [] in
    let here : f from ≡ f (from + 0) = ap f (omega arith) in
    omega (arith, one, here)
sum_suc f from (suc n) =
    let one = sum_by-cons f from (range_with_len (from + 1) (suc n)) in
    let two = sum_by-cons f from (range_with_len (from + 1) n) in
    let later = sum_suc f (from + 1) n in
    let here : f (from + 1 + n) ≡ f (from + suc n) = ap f (omega arith) in
    omega (arith, one, two, later, here)

pub reads_suc : (d : List ℕ) (k b : ℕ) → reads_below (suc k) d b ≡ reads_below k d b + times b (chain_of d k)
unfolding reads_below
reads_suc d k b = sum_suc (λ k. times b (chain_of d k)) 0 k ∙ (let here : 0 + k ≡ k = omega arith in ap (λ j. sum_by (λ k. times b (chain_of d k)) (range_with_len 0 k) + times b (chain_of d j)) here)

pub reads_none : (d : List ℕ) (b : ℕ) → reads_below 0 d b ≡ 0
unfolding reads_below
reads_none d b = refl

-- what is marked after one more object
pub marked_suc : (d : List ℕ) (old now : Bool) (k b : ℕ) → old ≡ nat_lt 0 (reads_below k d b) → now ≡ (old || is_in b (chain_of d k)) → now ≡ nat_lt 0 (reads_below (k + 1) d b)
marked_suc d old now k b before is =
    let more : k + 1 ≡ suc k = omega arith in
    is ∙ (λ i. before i || in_times b (chain_of d k) i) ∙ or_sum (reads_below k d b) (times b (chain_of d k)) ∙ sym (ap (nat_lt 0) (ap (λ n. reads_below n d b) more ∙ reads_suc d k b))
  where
    or_sum : (m n : ℕ) → (nat_lt 0 m || nat_lt 0 n) ≡ nat_lt 0 (m + n)
    or_sum m n = grind (arith, nat_tests)

-- ---- how many blocks are free

sum_grown : (f g : ℕ → ℕ) (at more from n : ℕ) → ((k : ℕ) → from ≤ k → k < from + n → k ≢ at → f k ≤ g k) → f at ≤ g at + more → sum_by f (range_with_len from n) ≤ sum_by g (range_with_len from n) + more
sum_grown f g at more from zero each few = omega arith
sum_grown f g at more from (suc n) each few =
    let one = sum_by-cons f from (range_with_len (from + 1) n) in
    let two = sum_by-cons g from (range_with_len (from + 1) n) in
    elim (cases_eq from at) [
      | inl here ↦ (let first : f from ≤ g from + more = rw here few in let later = sum_le f g (from + 1) n (λ k low high. each k (omega arith) (omega arith) (omega arith)) in omega (arith, one, two, first, later))
      | inr differs ↦ omega (arith, one, two, each from (omega arith) (omega arith) differs, sum_grown f g at more (from + 1) n (λ k low high ne. each k (omega arith) (omega arith) ne) few)
    ]

sum_none : (from n : ℕ) → sum_by (λ (b : ℕ). 0) (range_with_len from n) ≡ 0
sum_none from zero = refl
sum_none from (suc n) = let one = sum_by-cons (λ (b : ℕ). 0) from (range_with_len (from + 1) n) in omega (arith, one, sum_none (from + 1) n)

sum_add : (f g : ℕ → ℕ) (from n : ℕ) → sum_by (λ b. f b + g b) (range_with_len from n) ≡ sum_by f (range_with_len from n) + sum_by g (range_with_len from n)
sum_add f g from zero = refl
sum_add f g from (suc n) =
    let one = sum_by-cons (λ b. f b + g b) from (range_with_len (from + 1) n) in
    let two = sum_by-cons f from (range_with_len (from + 1) n) in
    let three = sum_by-cons g from (range_with_len (from + 1) n) in
    omega (arith, one, two, three, sum_add f g (from + 1) n)

-- all blocks together stand in a list at most as often as it is long
spread : (xs : List ℕ) (n : ℕ) → sum_by (λ b. times b xs) (range_with_len 0 n) ≤ length xs
spread [] n = let none = sum_none 0 n in omega (arith, none)
spread (x ∷ xs) n =
    let later = spread xs n in
    let grown = sum_grown (λ b. times b (x ∷ xs)) (λ b. times b xs) x 1 0 n (λ b low high differs. other (x == b) (times b xs) (grind (arith, nat_tests))) (here (x == x) (times x xs)) in
    omega (arith, later, grown)
  where
    other : (c : Bool) (m : ℕ) → c ≡ false → (if c then m + 1 else m) ≤ m
    other true m no_way = cc
    other false m no_way = omega arith

    here : (c : Bool) (m : ℕ) → (if c then m + 1 else m) ≤ m + 1
    here true m = omega arith
    here false m = omega arith

all_reads : (d : List ℕ) (k n : ℕ) → sum_by (λ b. reads_below k d b) (range_with_len 0 n) ≤ sum_by (λ k. length (chain_of d k)) (range_with_len 0 k)
all_reads d zero n =
    let none = sum_none 0 n in
    let le = sum_le (λ b. reads_below 0 d b) (λ b. 0) 0 n (λ b low high. let z = reads_none d b in omega (arith, z)) in
    omega (arith, none, le)
all_reads d (suc k) n =
    let before = all_reads d k n in
    let here = spread (chain_of d k) n in
    let le = sum_le (λ b. reads_below (suc k) d b) (λ b. reads_below k d b + times b (chain_of d k)) 0 n (λ b low high. let e = reads_suc d k b in omega (arith, e)) in
    let both = sum_add (λ b. reads_below k d b) (λ b. times b (chain_of d k)) 0 n in
    let last = sum_suc (λ k. length (chain_of d k)) 0 k in
    let at : length (chain_of d (0 + k)) ≡ length (chain_of d k) = ap (λ j. length (chain_of d j)) (omega arith) in
    omega (arith, before, here, le, both, last, at)

free_enough : (d : List ℕ) (used : List Bool) (n : ℕ) → n ≤ 2048 → ((b : ℕ) → b < 2048 → is_marked used b ≡ nat_lt 0 (reads d b)) → n ≤ free_below used n + sum_by (λ b. reads d b) (range_with_len 0 n)
unfolding free_below
free_enough d used zero few marks = omega arith
free_enough d used (suc n) few marks =
    let before = free_enough d used n (omega arith) marks in
    let more = sum_suc (λ b. reads d b) 0 n in
    let at : reads d (0 + n) ≡ reads d n = ap (reads d) (omega arith) in
    by_mark (is_marked used n) (marks n (omega arith)) before more at
  where
    by_mark : (c : Bool) → c ≡ nat_lt 0 (reads d n) → n ≤ free_below used n + sum_by (λ b. reads d b) (range_with_len 0 n) → sum_by (λ b. reads d b) (range_with_len 0 (suc n)) ≡ sum_by (λ b. reads d b) (range_with_len 0 n) + reads d (0 + n) → reads d (0 + n) ≡ reads d n
        → suc n ≤ (if c then free_below used n else free_below used n + 1) + sum_by (λ b. reads d b) (range_with_len 0 (suc n))
    by_mark true is before more at = let some : 0 < reads d n = grind (arith, nat_tests) in omega (arith, before, more, at, some)
    by_mark false is before more at = omega (arith, before, more, at)

pub free_rises : (used : List Bool) (n m : ℕ) → free_below used n ≤ free_below used (n + m)
unfolding free_below
free_rises used n zero = let e : free_below used (n + 0) ≡ free_below used n = ap (free_below used) (omega arith) in omega (arith, e)
free_rises used n (suc m) =
    let before = free_rises used n m in
    let e : n + suc m ≡ suc (n + m) = omega arith in
    rw e (by_mark (is_marked used (n + m)) (free_below used (n + m)) before)
  where
    by_mark : (c : Bool) (f : ℕ) → free_below used n ≤ f → free_below used n ≤ (if c then f else f + 1)
    by_mark true f le = le
    by_mark false f le = omega arith

-- ---- the lowest free blocks

found_at : (b : ℕ) (xs : List ℕ) → 1 ≤ times b xs → (j : ℕ) × ((j < length xs) × (get_or xs j 0 ≡ b))
found_at b [] some = absurd (omega arith)
found_at b (x ∷ xs) some = elim (cases_eq x b) [
  | inl same ↦ (0, (omega arith, same))
  | inr differs ↦ (let test : (x == b) ≡ false = grind (arith, nat_tests) in let later : 1 ≤ times b xs = subst (λ c. 1 ≤ (if c then times b xs + 1 else times b xs)) test some in let r = found_at b xs later in (suc r.0, (omega (arith, r.1.0), r.1.1)))
]

pub once_only : (b : ℕ) (xs : List ℕ) → ((i j : ℕ) → i < j → j < length xs → get_or xs i 0 ≢ get_or xs j 0) → times b xs ≤ 1
once_only b [] differ = omega arith
once_only b (x ∷ xs) differ =
    let later = once_only b xs (λ i j less below. differ (suc i) (suc j) (omega arith) (omega arith)) in
    elim (cases_eq x b) [
      | inr differs ↦ (let test : (x == b) ≡ false = grind (arith, nat_tests) in rw test later)
      | inl same ↦ elim (cases_lt 0 (times b xs)) [
        | inl some ↦ absurd (let r = found_at b xs (omega arith) in differ 0 (suc r.0) (omega arith) (omega (arith, r.1.0)) (same ∙ sym r.1.1))
        | inr none ↦ (let test : (x == b) ≡ true = grind (arith, nat_tests) in rw test (omega arith))
      ]
    ]

module _ (budget : ℕ) (d : List ℕ) (used : List Bool) (chosen : List ℕ) (few : budget ≤ 2048) (marks : (b : ℕ) → b < 2048 → is_marked used b ≡ nat_lt 0 (reads d b)) (room : length chosen + sum_by (λ k. length (chain_of d k)) (range_with_len 0 33) ≤ budget) where
  pub enough_free : length chosen ≤ free_below used budget
  enough_free = let all = all_reads d 33 budget in let free = free_enough d used budget few marks in omega (arith, all, free, room)

  module _ (lowest : (j : ℕ) → j < length chosen → IsLowest used j (get_or chosen j 0)) where
    pub lowest_differ : (i j : ℕ) → i < j → j < length chosen → get_or chosen i 0 ≢ get_or chosen j 0
    lowest_differ i j less below = λ same. let one = (lowest i (omega arith)).before in let two = (lowest j below).before in let e = ap (free_below used) same in omega (arith, one, two, e, less)

    pub low_budget : (j : ℕ) → j < length chosen → get_or chosen j 0 < budget
    low_budget j below = elim (cases_lt (get_or chosen j 0) budget) [
      | inl low ↦ low
      | inr high ↦ absurd (let rises = free_rises used budget (get_or chosen j 0 - budget) in let e : budget + (get_or chosen j 0 - budget) ≡ get_or chosen j 0 = omega arith in let f = ap (free_below used) e in let is = (lowest j below).before in let enough = enough_free in omega (arith, rises, f, is, enough))
    ]

    pub lowest_free : AreFree budget d chosen
    lowest_free = record {
      free = λ b some. let r = found_at b chosen some in let l = lowest r.0 r.1.0 in let low = l.low in let unmarked : is_marked used b ≡ false = ap (is_marked used) (sym r.1.1) ∙ l.free in let in_range : b < 2048 = subst (λ n. n < 2048) r.1.1 low in let m = sym (marks b in_range) ∙ unmarked in none_read (reads d b) m;
      once = λ b. once_only b chosen lowest_differ;
      below = all_from (λ b. b < budget) chosen low_budget;
    }
      where
        none_read : (n : ℕ) → nat_lt 0 n ≡ false → n ≡ 0
        none_read n test = grind (arith, nat_tests)

pub unmarked_all : (n b : ℕ) → get_or (replicate n false) b false ≡ false
unmarked_all zero b = refl
unmarked_all (suc n) zero = refl
unmarked_all (suc n) (suc b) = unmarked_all n b

pub unmarked : (d : List ℕ) (b : ℕ) → get_or (replicate 2048 false) b false ≡ nat_lt 0 (reads_below 0 d b)
unmarked d b = unmarked_all 2048 b ∙ ap (nat_lt 0) (sym (reads_none d b))

pub chain_is_of : (d : List ℕ) (k count n first : ℕ) → count ≡ blocks n → n ≡ length_in d k → first ≡ first_in d k → chain d count first ≡ chain_of d k
unfolding chain_of
chain_is_of d k count n first is_count is_n is_first = λ i. chain d ((is_count ∙ ap blocks is_n) i) (is_first i)

-- one block more
pub free_marked : (used : List Bool) (n : ℕ) → is_marked used n ≡ true → free_below used (n + 1) ≡ free_below used n
unfolding free_below
free_marked used n marked = let e : n + 1 ≡ suc n = omega arith in ap (free_below used) e ∙ rw marked refl

pub free_unmarked : (used : List Bool) (n : ℕ) → is_marked used n ≡ false → free_below used (n + 1) ≡ free_below used n + 1
unfolding free_below
free_unmarked used n unmarked = let e : n + 1 ≡ suc n = omega arith in ap (free_below used) e ∙ rw unmarked refl

pub free_none : (used : List Bool) → free_below used 0 ≡ 0
unfolding free_below
free_none used = refl

pub zeros_low : (n j : ℕ) → get_or (replicate n 0) j 0 < 2048
zeros_low zero j = omega arith
zeros_low (suc n) zero = omega arith
zeros_low (suc n) (suc j) = zeros_low n j

pub ruleset free_steps = (free_marked, free_unmarked)

-- one more block is chosen
pub low_more : (chosen : List ℕ) (found block : ℕ) → length chosen ≡ 256 → found < 256 → block < 2048 → ((j : ℕ) → j < 256 → get_or chosen j 0 < 2048) → (j : ℕ) → j < 256 → get_or (set chosen found block) j 0 < 2048
low_more chosen found block size room low before j below = elim (cases_eq j found) [
  | inl same ↦ (let is : get_or (set chosen found block) j 0 ≡ block = ap (λ k. get_or (set chosen found block) k 0) same ∙ get_or-set_same chosen found block 0 (omega arith) in omega (arith, is, low))
  | inr differs ↦ (let is = get_or-set_other chosen found j block 0 differs in let b = before j below in omega (arith, is, b))
]

pub lowest_more : (used : List Bool) (chosen : List ℕ) (found block : ℕ) → length chosen ≡ 256 → found < 256 → block < 2048 → is_marked used block ≡ false → found ≡ free_below used block → ((j : ℕ) → j < found → IsLowest used j (get_or chosen j 0))
    → (j : ℕ) → j < found + 1 → IsLowest used j (get_or (set chosen found block) j 0)
lowest_more used chosen found block size room low unmarked is before j below = elim (cases_eq j found) [
  | inl same ↦ (let there : get_or (set chosen found block) j 0 ≡ block = ap (λ k. get_or (set chosen found block) k 0) same ∙ get_or-set_same chosen found block 0 (omega arith) in
      subst (λ b. IsLowest used j b) (sym there) (record { low = low; free = unmarked; before = sym is ∙ sym same }))
  | inr differs ↦ subst (λ b. IsLowest used j b) (sym (get_or-set_other chosen found j block 0 differs)) (before j (omega arith))
]
