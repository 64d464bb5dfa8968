-- Numbers of two bytes in a directory.
use Rattle.std.proofs.Common.{◌≡◌, ◌≢◌, ◌⊎◌, inl, inr, ℕ, zero, suc, ◌+◌, ◌-◌, ◌*◌, ◌/◌, ◌%◌, ◌<◌, ◌≤◌, List, [], ◌∷◌, length, get_or, set, refl, ap, sym, ◌∙◌, arith}
use Rattle.std.proofs.lemmas.List.{length-set, get_or-set_same, get_or-set_other}
use Rattle.card_image.specs.Header.{number_in}
use Rattle.std.proofs.lemmas.Bool.{cases_eq, cases_lt}
use Rattle.std.proofs.lemmas.Bool.Decides.{nat_tests}
use Rattle.block_store.specs.Blocks.{first_in, next_in, chain, times}
use Rattle.block_store.specs.Writes.{with_number, Differ, LinkedTo, IsEntered}

pub length-with_number : (d : List ℕ) (at n : ℕ) → length (with_number d at n) ≡ length d
length-with_number d at n = length-set (set d at (n / 256)) (at + 1) (n % 256) ∙ length-set d at (n / 256)

pub number_there : (d : List ℕ) (at n : ℕ) → at + 1 < length d → number_in (with_number d at n) at ≡ n
number_there d at n within =
    let one : get_or (with_number d at n) at 0 ≡ n / 256 = get_or-set_other (set d at (n / 256)) (at + 1) at (n % 256) 0 (omega arith) ∙ get_or-set_same d at (n / 256) 0 (omega arith) in
    let two : get_or (with_number d at n) (at + 1) 0 ≡ n % 256 = get_or-set_same (set d at (n / 256)) (at + 1) (n % 256) 0 (omega (arith, length-set d at (n / 256))) in
    omega (arith, one, two)

byte_kept : (d : List ℕ) (at n k : ℕ) → k ≢ at → k ≢ at + 1 → get_or (with_number d at n) k 0 ≡ get_or d k 0
byte_kept d at n k one two = get_or-set_other (set d at (n / 256)) (at + 1) k (n % 256) 0 two ∙ get_or-set_other d at k (n / 256) 0 one

pub number_kept : (d : List ℕ) (at n other : ℕ) → (other + 1 < at) ⊎ (at + 1 < other) → number_in (with_number d at n) other ≡ number_in d other
number_kept d at n other (inl before) = λ i. 256 * byte_kept d at n other (omega arith) (omega arith) i + byte_kept d at n (other + 1) (omega arith) (omega arith) i
number_kept d at n other (inr after) = λ i. 256 * byte_kept d at n other (omega arith) (omega arith) i + byte_kept d at n (other + 1) (omega arith) (omega arith) i

-- blocks of which each names the next
pub chain_from : (d : List ℕ) (x : ℕ) (xs : List ℕ) → ((i : ℕ) → i < length xs → next_in d (get_or (x ∷ xs) i 0) ≡ get_or (x ∷ xs) (suc i) 0) → chain d (suc (length xs)) x ≡ x ∷ xs
chain_from d x [] each = refl
chain_from d x (y ∷ ys) each =
    ap (λ (l : List ℕ). x ∷ l) ((λ i. chain d (suc (length ys)) (each 0 (omega arith) i)) ∙ chain_from d y ys (λ i below. each (suc i) (omega arith)))

-- ---- links

-- a block that doesn't stand in a list differs from each that does
never : (b : ℕ) (chosen : List ℕ) → times b chosen ≡ 0 → (j : ℕ) → j < length chosen → get_or chosen j 0 ≢ b
never b [] none j below = absurd (omega arith)
never b (x ∷ chosen) none zero below = λ same. grind (arith, nat_tests)
never b (x ∷ chosen) none (suc j) below = never b chosen (fewer_times (cases_eq x b)) j (omega arith)
  where
    fewer_times : (x ≡ b) ⊎ (x ≢ b) → times b chosen ≡ 0
    fewer_times (inl same) = grind (arith, nat_tests)
    fewer_times (inr differs) = grind (arith, nat_tests)

pub none_linked : (n : ℕ) (chosen d : List ℕ) → n ≡ 0 → LinkedTo n chosen d d
none_linked n chosen d is = record { size = refl; entries = λ at low. refl; nexts = λ b low none. refl; linked = λ differ i below. absurd (omega arith) }

pub linked_more : (j : ℕ) (chosen d now : List ℕ) → 1 ≤ j → j < length chosen → length d ≡ 4228 → ((i : ℕ) → i < length chosen → get_or chosen i 0 < 2048) → LinkedTo (j - 1) chosen d now
    → LinkedTo (j + 1 - 1) chosen d (with_number now (132 + 2 * get_or chosen (j - 1) 0) (get_or chosen j 0))
linked_more j chosen d now some below size low so_far =
    let at = 132 + 2 * get_or chosen (j - 1) 0 in
    let n = get_or chosen j 0 in
    let here = low (j - 1) (omega arith) in
    record {
      size = length-with_number now at n ∙ so_far.size;
      entries = λ k small. byte_kept now at n k (omega arith) (omega arith) ∙ so_far.entries k small;
      nexts = λ b few none. let differs = never b chosen none (j - 1) (omega arith) in number_kept now at n (132 + 2 * b) (apart b (get_or chosen (j - 1) 0) differs) ∙ so_far.nexts b few none;
      linked = λ differ i lt. elim (cases_eq i (j - 1)) [
        | inl same ↦ (let whole = so_far.size in let e : j ≡ i + 1 = omega arith in
            ap (λ k. next_in (with_number now at n) (get_or chosen k 0)) same ∙ number_there now at n (omega (arith, whole, size, here)) ∙ ap (λ k. get_or chosen k 0) e)
        | inr other ↦ (let ne = differ i (j - 1) (omega arith) (omega arith) in number_kept now at n (132 + 2 * get_or chosen i 0) (apart (get_or chosen i 0) (get_or chosen (j - 1) 0) (λ e. ne (sym e))) ∙ so_far.linked differ i (omega arith))
      ];
    }
  where
    apart : (a b : ℕ) → b ≢ a → (132 + 2 * a + 1 < 132 + 2 * b) ⊎ (132 + 2 * b + 1 < 132 + 2 * a)
    apart a b ne = elim (cases_lt a b) [ inl less ↦ inl (omega arith) | inr more ↦ inr (omega arith) ]

-- an entry on top of the links
pub entered_by : (k n : ℕ) (chosen d linked : List ℕ) → k < 33 → n ≤ 16384 → length d ≡ 4228 → LinkedTo (length chosen - 1) chosen d linked → Differ chosen
    → IsEntered k n chosen d (with_number (with_number linked (4 * k) n) (4 * k + 2) (get_or chosen 0 0))
entered_by k n chosen d linked place short size so_far differ =
    let first = get_or chosen 0 0 in
    let one = with_number linked (4 * k) n in
    let new = with_number one (4 * k + 2) first in
    let whole : length linked ≡ 4228 = so_far.size ∙ size in
    let whole_one : length one ≡ 4228 = length-with_number linked (4 * k) n ∙ whole in
    let other : (at : ℕ) → (at + 1 < 4 * k) ⊎ (4 * k + 3 < at) → number_in new at ≡ number_in linked at =
    λ at apart. number_kept one (4 * k + 2) first at (after at apart) ∙ number_kept linked (4 * k) n at (before at apart) in
    let entry : (at : ℕ) → at + 1 < 132 → number_in linked at ≡ number_in d at = λ at low. λ i. 256 * so_far.entries at (omega arith) i + so_far.entries (at + 1) low i in
    record {
      size = length-with_number one (4 * k + 2) first ∙ length-with_number linked (4 * k) n ∙ so_far.size;
      lengths = λ j low differs. other (4 * j) (sides j differs) ∙ entry (4 * j) (omega arith);
      firsts = λ j low differs. other (4 * j + 2) (sides_first j differs) ∙ entry (4 * j + 2) (omega arith);
      nexts = λ b low none. other (132 + 2 * b) (inr (omega arith)) ∙ so_far.nexts b low none;
      length_is = number_kept one (4 * k + 2) first (4 * k) (inl (omega arith)) ∙ number_there linked (4 * k) n (omega arith);
      chain_is = chain_all chosen new (λ i lt. other (132 + 2 * get_or chosen i 0) (inr (omega arith)) ∙ so_far.linked differ i lt) (number_there one (4 * k + 2) first (omega arith));
    }
  where
    after : (at : ℕ) → (at + 1 < 4 * k) ⊎ (4 * k + 3 < at) → (at + 1 < 4 * k + 2) ⊎ (4 * k + 2 + 1 < at)
    after at (inl low) = inl (omega arith)
    after at (inr high) = inr (omega arith)

    before : (at : ℕ) → (at + 1 < 4 * k) ⊎ (4 * k + 3 < at) → (at + 1 < 4 * k) ⊎ (4 * k + 1 < at)
    before at (inl low) = inl (omega arith)
    before at (inr high) = inr (omega arith)

    sides : (j : ℕ) → j ≢ k → (4 * j + 1 < 4 * k) ⊎ (4 * k + 3 < 4 * j)
    sides j ne = elim (cases_lt j k) [ inl less ↦ inl (omega arith) | inr more ↦ inr (omega arith) ]

    sides_first : (j : ℕ) → j ≢ k → (4 * j + 2 + 1 < 4 * k) ⊎ (4 * k + 3 < 4 * j + 2)
    sides_first j ne = elim (cases_lt j k) [ inl less ↦ inl (omega arith) | inr more ↦ inr (omega arith) ]

    chain_all : (chosen new : List ℕ) → ((i : ℕ) → i < length chosen - 1 → next_in new (get_or chosen i 0) ≡ get_or chosen (i + 1) 0) → number_in new (4 * k + 2) ≡ get_or chosen 0 0 → chain new (length chosen) (first_in new k) ≡ chosen
    chain_all [] new each first = refl
    chain_all (x ∷ xs) new each first = ap (chain new (suc (length xs))) first ∙ chain_from new x xs (λ i below. each i (omega arith) ∙ (let e : i + 1 ≡ suc i = omega arith in ap (λ j. get_or (x ∷ xs) j 0) e))

pub linked_fewer : (n m : ℕ) (chosen d now : List ℕ) → m ≤ n → LinkedTo n chosen d now → LinkedTo m chosen d now
linked_fewer n m chosen d now le linked = record { size = linked.size; entries = linked.entries; nexts = linked.nexts; linked = λ differ i below. linked.linked differ i (omega arith) }
