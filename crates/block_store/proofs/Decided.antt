-- What a walk along the chains decides.
use Rattle.std.proofs.Common.{◌≡◌, ◌≢◌, ◌⊎◌, inl, inr, ℕ, zero, suc, ◌+◌, ◌-◌, ◌<◌, ◌≤◌, ◌==◌, nat_lt, Bool, true, false, if◌then◌else◌, List, length, get_or, set, sum_by, IsTrue, refl, ap, sym, ◌∙◌, subst, arith}
use Rattle.std.specs.List.{range_with_len, list_all}
use Rattle.std.specs.Prelude.{replicate}
use Rattle.std.proofs.lemmas.Bool.{cases_eq}
use Rattle.std.proofs.lemmas.Bool.Decides.{nat_tests}
use Rattle.std.proofs.lemmas.List.{get_or-set_same, get_or-set_other}
use Rattle.std.proofs.lemmas.List.Sums.{sum_by-cons}
use Rattle.block_store.specs.Blocks.{length_in, next_in, chain, chain_of, times, reads, reads_below, are_chains}
use Rattle.block_store.specs.Writes.{is_marked, count_of, ChainFits}
use Rattle.block_store.proofs.Lists.{all_of, all_true, true_all, times_here}
use Rattle.block_store.proofs.Chains.{chains_of, are_chains_by}
use Rattle.block_store.proofs.Marks.{reads_suc, reads_none, unmarked_all}

-- a step along a chain
pub below_step : (p : ℕ → Bool) (d : List ℕ) (n i block next : ℕ) → i < n → p block ≡ true → next ≡ next_in d block → list_all p (chain d (n - (i + 1)) next) ≡ list_all p (chain d (n - i) block)
below_step p d n i block next low passes is =
    let more : n - i ≡ suc (n - (i + 1)) = omega arith in
    ap (λ k. list_all p (chain d (n - (i + 1)) k)) is ∙ sym (ap (λ k. list_all p (chain d k block)) more ∙ rw passes refl)

pub count_step : (d : List ℕ) (used : List Bool) (n i block next b : ℕ) → i < n → block < length used → is_marked used block ≡ false → next ≡ next_in d block
    → count_of (set used block true) b + times b (chain d (n - (i + 1)) next) ≡ count_of used b + times b (chain d (n - i) block)
count_step d used n i block next b low within free is =
    let more : n - i ≡ suc (n - (i + 1)) = omega arith in
    let rest = chain d (n - (i + 1)) (next_in d block) in
    ap (λ k. count_of (set used block true) b + times b (chain d (n - (i + 1)) k)) is ∙ by_block (cases_eq block b) rest
    ∙ sym (ap (λ k. count_of used b + times b (chain d k block)) more)
  where
    by_block : (block ≡ b) ⊎ (block ≢ b) → (rest : List ℕ) → count_of (set used block true) b + times b rest ≡ count_of used b + (if block == b then times b rest + 1 else times b rest)
    by_block (inl same) rest =
        let test : (block == b) ≡ true = grind (arith, nat_tests) in
        let marked : is_marked (set used block true) b ≡ true = ap (λ k. get_or (set used block true) k false) (sym same) ∙ get_or-set_same used block true false within in
        let before : is_marked used b ≡ false = ap (is_marked used) (sym same) ∙ free in
        rw (test, marked, before) (omega arith)
    by_block (inr differs) rest =
        let test : (block == b) ≡ false = grind (arith, nat_tests) in
        let other : is_marked (set used block true) b ≡ is_marked used b = get_or-set_other used block b true false (λ e. differs (sym e)) in
        rw (test, other) refl

header_of_chain : (p : ℕ → Bool) (d : List ℕ) (n i block : ℕ) → i < n → list_all p (chain d (n - i) block) ≡ true → p block ≡ true
header_of_chain p d n i block low all =
    let more : n - i ≡ suc (n - (i + 1)) = omega arith in
    (all_true p (chain d (suc (n - (i + 1))) block) (sym (ap (λ k. list_all p (chain d k block)) more) ∙ all)).0

-- a block that isn't below the budget
pub not_below : (budget n i block : ℕ) (d : List ℕ) (old : List Bool) (first : ℕ) → i < n → budget ≤ block → list_all (λ b. nat_lt b budget) (chain d (n - i) block) ≡ list_all (λ b. nat_lt b budget) (chain d n first) → ChainFits budget old (chain d n first) → ⊥
not_below budget n i block d old first low high same fits =
    let test = header_of_chain (λ b. nat_lt b budget) d n i block low (same ∙ fits.below) in
    let lower : block < budget = grind (arith, nat_tests) in
    absurd (omega (arith, lower, high))

-- a block that was marked
pub met_again : (budget n i block : ℕ) (d : List ℕ) (old used : List Bool) (first : ℕ) → budget ≤ 2048 → i < n → block < budget → is_marked used block ≡ true
    → ((b : ℕ) → b < 2048 → count_of used b + times b (chain d (n - i) block) ≡ count_of old b + times b (chain d n first)) → ChainFits budget old (chain d n first) → ⊥
met_again budget n i block d old used first few low in_budget marked counts fits =
    let more : n - i ≡ suc (n - (i + 1)) = omega arith in
    let here : 1 ≤ times block (chain d (n - i) block) = subst (λ k. 1 ≤ times block (chain d k block)) (sym more) (times_here block (chain d (n - (i + 1)) (next_in d block))) in
    let one : count_of used block ≡ 1 = rw marked refl in
    let all = counts block (omega arith) in
    let most = fits.once block in_budget in
    absurd (omega (arith, here, one, all, most))

-- at the end of a chain
pub all_fit : (budget n : ℕ) (d : List ℕ) (old used : List Bool) (first block : ℕ) → budget ≤ 2048 → list_all (λ b. nat_lt b budget) (chain d 0 block) ≡ list_all (λ b. nat_lt b budget) (chain d n first)
    → ((b : ℕ) → b < 2048 → count_of used b + 0 ≡ count_of old b + times b (chain d n first)) → ChainFits budget old (chain d n first)
all_fit budget n d old used first block few same counts = record {
  below = sym same;
  once = λ b low. let all = counts b (omega arith) in let most = few_marks (is_marked used b) in omega (arith, all, most);
}
  where
    few_marks : (c : Bool) → (if c then 1 else 0) ≤ 1
    few_marks true = omega arith
    few_marks false = omega arith

-- ---- all chains

prefix_le : (f : ℕ → ℕ) (from n m : ℕ) → n ≤ m → sum_by f (range_with_len from n) ≤ sum_by f (range_with_len from m)
prefix_le f from zero m le = omega arith
prefix_le f from (suc n) zero le = absurd (omega arith)
prefix_le f from (suc n) (suc m) le =
    let one = sum_by-cons f from (range_with_len (from + 1) n) in
    let two = sum_by-cons f from (range_with_len (from + 1) m) in
    omega (arith, one, two, prefix_le f (from + 1) n m (omega arith))

reads_prefix : (d : List ℕ) (n b : ℕ) → n ≤ 33 → reads_below n d b ≤ reads d b
unfolding reads_below
reads_prefix d n b le = prefix_le (λ k. times b (chain_of d k)) 0 n 33 le

not_true : (b : Bool) → (b ≡ true → ⊥) → false ≡ b
not_true true no_way = absurd (no_way refl)
not_true false no_way = refl

pub too_long : (budget k : ℕ) (d : List ℕ) → k < 33 → 16384 < length_in d k → false ≡ are_chains budget d
too_long budget k d place long = not_true (are_chains budget d) (λ test. let are = chains_of budget d test in let short = are.short k place in absurd (omega (arith, short, long)))

pub no_fit : (budget k : ℕ) (d : List ℕ) (used : List Bool) (chain_k : List ℕ) → budget ≤ 2048 → k < 33 → chain_k ≡ chain_of d k → ((b : ℕ) → b < 2048 → count_of used b ≡ reads_below k d b) → (ChainFits budget used chain_k → ⊥) → false ≡ are_chains budget d
no_fit budget k d used chain_k few place is counts no_fits = not_true (are_chains budget d) (λ test.
    let are = chains_of budget d test in
    no_fits (record {
      below = ap (list_all (λ b. nat_lt b budget)) is ∙ true_all (λ b. nat_lt b budget) (chain_of d k) (all_of (λ b. b < budget) (λ b. IsTrue (nat_lt b budget)) (λ b low. grind (arith, nat_tests)) (chain_of d k) (are.below k place));
      once = λ b low.
          let count = counts b (omega arith) in
          let same = ap (times b) is in
          let next = reads_suc d k b in
          let prefix = reads_prefix d (suc k) b (omega arith) in
          let most = are.once b low in
          omega (arith, count, same, next, prefix, most);
    }))

pub all_chains : (budget : ℕ) (d : List ℕ) (used : List Bool) (n : ℕ) → n ≡ 33 → budget ≤ 2048 → ((j : ℕ) → j < n → length_in d j ≤ 16384) → ((j : ℕ) → j < n → IsTrue (list_all (λ b. nat_lt b budget) (chain_of d j))) → ((b : ℕ) → b < 2048 → count_of used b ≡ reads_below n d b) → true ≡ are_chains budget d
all_chains budget d used n last few short below counts = sym (are_chains_by budget d (record {
  short = λ k place. short k (omega arith);
  below = λ k place. all_of (λ b. IsTrue (nat_lt b budget)) (λ b. b < budget) (λ b test. grind (arith, nat_tests)) (chain_of d k) (all_true (λ b. nat_lt b budget) (chain_of d k) (below k (omega arith)));
  once = λ b low. let count = counts b (omega arith) ∙ ap (λ m. reads_below m d b) last in let most = few_marks (is_marked used b) in omega (arith, count, most);
}))
  where
    few_marks : (c : Bool) → (if c then 1 else 0) ≤ 1
    few_marks true = omega arith
    few_marks false = omega arith

pub counts_none : (d : List ℕ) (b : ℕ) → count_of (replicate 2048 false) b ≡ reads_below 0 d b
counts_none d b = let none = unmarked_all 2048 b in rw none (sym (reads_none d b))

pub counts_more : (d : List ℕ) (old now : List Bool) (k b : ℕ) (chain_k : List ℕ) → chain_k ≡ chain_of d k → count_of old b ≡ reads_below k d b → count_of now b ≡ count_of old b + times b chain_k → count_of now b ≡ reads_below (k + 1) d b
counts_more d old now k b chain_k is before step =
    let more : k + 1 ≡ suc k = omega arith in
    step ∙ (λ i. before i + times b (is i)) ∙ sym (ap (λ n. reads_below n d b) more ∙ reads_suc d k b)

pub one_more_short : (d : List ℕ) (k n : ℕ) → n ≡ length_in d k → n ≤ 16384 → ((j : ℕ) → j < k → length_in d j ≤ 16384) → (j : ℕ) → j < k + 1 → length_in d j ≤ 16384
one_more_short d k n is few before j below = elim (cases_eq j k) [ inl same ↦ (let e = ap (length_in d) same in omega (arith, e, is)) | inr differs ↦ before j (omega arith) ]

pub one_more_below : (budget k : ℕ) (d chain_k : List ℕ) → chain_k ≡ chain_of d k → IsTrue (list_all (λ b. nat_lt b budget) chain_k) → ((j : ℕ) → j < k → IsTrue (list_all (λ b. nat_lt b budget) (chain_of d j))) → (j : ℕ) → j < k + 1 → IsTrue (list_all (λ b. nat_lt b budget) (chain_of d j))
one_more_below budget k d chain_k is here before j below = elim (cases_eq j k) [ inl same ↦ ap (λ k. list_all (λ b. nat_lt b budget) (chain_of d k)) same ∙ sym (ap (list_all (λ b. nat_lt b budget)) is) ∙ here | inr differs ↦ before j (omega arith) ]
