-- What an entry makes of the chains.
use Rattle.std.proofs.Common.{◌≡◌, ◌≢◌, inl, inr, ℕ, zero, suc, ◌+◌, ◌<◌, ◌≤◌, ◌&&◌, nat_le, nat_lt, Bool, true, List, ◌∷◌, length, IsTrue, refl, ap, sym, ◌∙◌, subst, arith}
use Rattle.std.specs.List.{range_with_len, list_all}
use Rattle.std.proofs.lemmas.Bool.{cases_eq, cases_lt, and_parts}
use Rattle.std.proofs.lemmas.Bool.Decides.{nat_tests}
use Rattle.piv_model.specs.Memory.{blocks}
use Rattle.block_store.specs.Blocks.{length_in, first_in, next_in, chain, chain_of, times, reads, reads_below, are_chains}
use Rattle.block_store.specs.Writes.{IsEntered}
use Rattle.block_store.proofs.Lists.{AllOf, all_of, all_both, all_true, true_all, range_true, true_range, members, sum_with, term_le}

pub record AreChains (budget : ℕ) (d : List ℕ) : Type 0 where
  pub short : (k : ℕ) → k < 33 → length_in d k ≤ 16384
  pub below : (k : ℕ) → k < 33 → AllOf (λ b. b < budget) (chain_of d k)
  pub once : (b : ℕ) → b < budget → reads d b ≤ 1

three : (a b c : Bool) → (a && b && c) ≡ true → IsTrue a × IsTrue b × IsTrue c
three a b c h = let parts = and_parts (a && b) c h in let first = and_parts a b parts.0 in (first.0, first.1, parts.1)

pub chains_of : (budget : ℕ) (d : List ℕ) → IsTrue (are_chains budget d) → AreChains budget d
unfolding are_chains
chains_of budget d test =
    let parts = three (list_all (λ k. nat_le (length_in d k) 16384) (range_with_len 0 33)) (list_all (λ k. list_all (λ b. nat_lt b budget) (chain_of d k)) (range_with_len 0 33)) (list_all (λ b. nat_le (reads d b) 1) (range_with_len 0 budget)) test in
    record {
      short = λ k low. let t = range_true (λ k. nat_le (length_in d k) 16384) 0 33 k parts.0 (omega arith) (omega arith) in grind (arith, nat_tests);
      below = λ k low. all_of (λ b. IsTrue (nat_lt b budget)) (λ b. b < budget) (λ b t. grind (arith, nat_tests)) (chain_of d k) (all_true (λ b. nat_lt b budget) (chain_of d k) (range_true (λ k. list_all (λ b. nat_lt b budget) (chain_of d k)) 0 33 k parts.1 (omega arith) (omega arith)));
      once = λ b low. let t = range_true (λ b. nat_le (reads d b) 1) 0 budget b parts.2 (omega arith) (omega arith) in grind (arith, nat_tests);
    }

pub are_chains_by : (budget : ℕ) (d : List ℕ) → AreChains budget d → IsTrue (are_chains budget d)
unfolding are_chains
are_chains_by budget d are =
    let short = true_range (λ k. nat_le (length_in d k) 16384) 0 33 (λ k low high. let le = are.short k (omega arith) in grind (arith, nat_tests)) in
    let below = true_range (λ k. list_all (λ b. nat_lt b budget) (chain_of d k)) 0 33 (λ k low high. true_all (λ b. nat_lt b budget) (chain_of d k) (all_of (λ b. b < budget) (λ b. IsTrue (nat_lt b budget)) (λ b lt. grind (arith, nat_tests)) (chain_of d k) (are.below k (omega arith)))) in
    let once = true_range (λ b. nat_le (reads d b) 1) 0 budget (λ b low high. let le = are.once b (omega arith) in grind (arith, nat_tests)) in
    rw (short, below, once) refl

pub length-chain : (d : List ℕ) (n b : ℕ) → length (chain d n b) ≡ n
length-chain d zero b = refl
length-chain d (suc n) b = let later = length-chain d n (next_in d b) in omega (arith, later)

pub length-chain_of : (d : List ℕ) (k : ℕ) → length (chain_of d k) ≡ blocks (length_in d k)
unfolding chain_of
length-chain_of d k = length-chain d (blocks (length_in d k)) (first_in d k)

chain_same : (d new : List ℕ) (n b : ℕ) → AllOf (λ x. next_in new x ≡ next_in d x) (chain d n b) → chain new n b ≡ chain d n b
chain_same d new zero b all = refl
chain_same d new (suc n) b all = (λ i. b ∷ chain new n (all.0 i)) ∙ ap (λ xs. b ∷ xs) (chain_same d new n (next_in d b) all.1)

-- a block of a chain is read
pub reads_at : (d : List ℕ) (k b : ℕ) → k < 33 → times b (chain_of d k) ≤ reads d b
unfolding reads_below
reads_at d k b low = term_le (λ k. times b (chain_of d k)) 0 33 k (omega arith) (omega arith)

pub are_read : (d : List ℕ) (k : ℕ) → k < 33 → AllOf (λ b. 1 ≤ reads d b) (chain_of d k)
are_read d k low = all_of (λ b. 1 ≤ times b (chain_of d k)) (λ b. 1 ≤ reads d b) (λ b le. omega (arith, le, reads_at d k b low)) (chain_of d k) (members (chain_of d k))

reads_with : (d new chosen : List ℕ) (k b : ℕ) → k < 33 → ((j : ℕ) → j < 33 → j ≢ k → chain_of new j ≡ chain_of d j) → chain_of new k ≡ chosen → reads new b ≤ reads d b + times b chosen
unfolding reads_below
reads_with d new chosen k b low others is =
    sum_with (λ k. times b (chain_of new k)) (λ k. times b (chain_of d k)) k (times b chosen) 0 33
    (λ j from below ne. let same = ap (times b) (others j (omega arith) ne) in omega (arith, same))
    (let same = ap (times b) is in omega (arith, same))

-- blocks of which none is read, each once and below the budget
pub record AreFree (budget : ℕ) (d chosen : List ℕ) : Type 0 where
  pub free : (b : ℕ) → 1 ≤ times b chosen → reads d b ≡ 0
  pub once : (b : ℕ) → times b chosen ≤ 1
  pub below : AllOf (λ b. b < budget) chosen

module _ (budget k n : ℕ) (d new chosen : List ℕ) (few : budget ≤ 2048) (place : k < 33) (are : AreChains budget d) (free : AreFree budget d chosen) (entered : IsEntered k n chosen d new) (size : length chosen ≡ blocks n) where
  -- a block that is read isn't chosen
  none_chosen : (b : ℕ) → 1 ≤ reads d b → times b chosen ≡ 0
  none_chosen b read = elim (cases_lt 0 (times b chosen)) [ inl some ↦ absurd (let none = free.free b (omega arith) in omega (arith, none, read)) | inr none ↦ omega arith ]

  pub chain_stands : (j : ℕ) → j < 33 → j ≢ k → chain_of new j ≡ chain_of d j
  unfolding chain_of
  chain_stands j low differs =
      let kept : AllOf (λ b. next_in new b ≡ next_in d b) (chain_of d j) = all_of (λ b. (b < budget) × (1 ≤ reads d b)) (λ b. next_in new b ≡ next_in d b) (λ b both. entered.nexts b (omega (arith, both.0)) (none_chosen b both.1)) (chain_of d j) (all_both (λ b. b < budget) (λ b. 1 ≤ reads d b) (chain_of d j) (are.below j low) (are_read d j low)) in
      (λ i. chain new (blocks (entered.lengths j low differs i)) (entered.firsts j low differs i)) ∙ chain_same d new (blocks (length_in d j)) (first_in d j) kept

  pub chain_is : chain_of new k ≡ chosen
  unfolding chain_of
  chain_is = ap (λ m. chain new m (first_in new k)) (ap blocks entered.length_is ∙ sym size) ∙ entered.chain_is

  pub chains_stand : n ≤ 16384 → AreChains budget new
  chains_stand short = record {
    short = λ j low. elim (cases_eq j k) [ inl same ↦ (let is = entered.length_is in rw same (omega (arith, is))) | inr differs ↦ (let same = entered.lengths j low differs in let le = are.short j low in omega (arith, same, le)) ];
    below = λ j low. elim (cases_eq j k) [
      | inl same ↦ subst (λ (xs : List ℕ). AllOf (λ b. b < budget) xs) (sym (ap (chain_of new) same ∙ chain_is)) free.below
      | inr differs ↦ subst (λ (xs : List ℕ). AllOf (λ b. b < budget) xs) (sym (chain_stands j low differs)) (are.below j low)
    ];
    once = λ b low.
        let all = reads_with d new chosen k b place chain_stands chain_is in
        let before = are.once b low in
        elim (cases_lt 0 (times b chosen)) [
          | inl some ↦ (let none = free.free b (omega arith) in let one = free.once b in omega (arith, all, none, one))
          | inr none ↦ omega (arith, all, before)
        ];
  }
