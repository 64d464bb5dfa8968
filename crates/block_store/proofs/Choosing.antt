-- The blocks that a put chooses.
use Rattle.std.proofs.Common.{◌≡◌, ℕ, zero, suc, ◌+◌, ◌-◌, ◌<◌, ◌≤◌, nat_lt, min, Bool, List, length, take, map, get_or, sum_by, Option, Some, None, IfSome, refl, ap, sym, ◌∙◌, subst, arith, length-take}
use Rattle.std.specs.List.{range_with_len}
use Rattle.std.proofs.lemmas.List.{get_or-take}
use Rattle.std.proofs.lemmas.List.Sums.{sum_by-cons}
use Rattle.std.proofs.lemmas.List.FromFn.{length-map-range_with_len}
use Rattle.piv_model.specs.Memory.{blocks, blocks_used}
use Rattle.card_image.specs.Images.{budget_of, KeepsObjects}
use Rattle.block_store.specs.Blocks.{directory_of, length_in, chain_of, reads, byte_of, object_at, objects_of, block_form, blocks_read}
use Rattle.block_store.specs.Writes.{Differ, IsEntered, FreeToChoose, is_marked, free_below, IsLowest}
use Rattle.block_store.proofs.Lists.{all_from}
use Rattle.block_store.proofs.Chains.{chains_of, length-chain_of}
use Rattle.block_store.proofs.Marks.{free_rises, enough_free, lowest_differ, lowest_free, low_budget}
use Rattle.block_store.proofs.Entering.{Chosen}

pub free_to_choose : (budget count : ℕ) (d : List ℕ) (used : List Bool) (all : List ℕ) → budget ≤ 2048 → length all ≡ 256 → count ≤ 256 → ((b : ℕ) → b < 2048 → is_marked used b ≡ nat_lt 0 (reads d b)) → count + blocks_read d ≤ budget
    → ((j : ℕ) → j < min count (free_below used 2048) → IsLowest used j (get_or all j 0)) → FreeToChoose budget d (take count all)
unfolding blocks_read
free_to_choose budget count d used all few size small marks room lowest =
    let chosen = take count all in
    let long : length chosen ≡ count = omega (arith, length-take count all) in
    let fits : length chosen + sum_by (λ k. length (chain_of d k)) (range_with_len 0 33) ≤ budget = omega (arith, long, room) in
    let enough = enough_free budget d used chosen few marks fits in
    let rises = free_rises used budget (2048 - budget) in
    let all_blocks : budget + (2048 - budget) ≡ 2048 = omega arith in
    let most = ap (free_below used) all_blocks in
    let each : (j : ℕ) → j < length chosen → IsLowest used j (get_or chosen j 0) = λ j below.
    let here : j < count = omega (arith, long, below) in
    subst (λ b. IsLowest used j b) (sym (get_or-take count all j 0 here)) (lowest j (omega (arith, here, enough, rises, most, long))) in
    let free = lowest_free budget d used chosen few marks fits each in
    record {
      free = free.free;
      once = free.once;
      below = low_budget budget d used chosen few marks fits each;
      differ = lowest_differ budget d used chosen few marks fits each;
    }

sum_of_map : (f : ℕ → List ℕ) (g : ℕ → ℕ) (from n : ℕ) → ((k : ℕ) → blocks (length (f k)) ≡ g k) → sum_by (λ (o : List ℕ). blocks (length o)) (map f (range_with_len from n)) ≡ sum_by g (range_with_len from n)
sum_of_map f g from zero same = refl
sum_of_map f g from (suc n) same =
    sum_by-cons (λ (o : List ℕ). blocks (length o)) (f from) (map f (range_with_len (from + 1) n)) ∙ (λ i. same from i + sum_of_map f g (from + 1) n same i)
    ∙ sym (sum_by-cons g from (range_with_len (from + 1) n))

pub length-object : (row d : List ℕ) (k : ℕ) → length (object_at row d k) ≡ length_in d k
unfolding object_at
length-object row d k = length-map-range_with_len (byte_of row (chain_of d k)) 0 (length_in d k)

pub used_are_read : (row : List ℕ) → blocks_used (objects_of row) ≡ blocks_read (directory_of row)
unfolding objects_of blocks_read
used_are_read row = sum_of_map (object_at row (directory_of row)) (λ k. length (chain_of (directory_of row) k)) 0 33 (λ k. ap blocks (length-object row (directory_of row) k) ∙ sym (length-chain_of (directory_of row) k))

-- what is known of the row before the writes
pub chosen_told : (k count : ℕ) (v d all now : List ℕ) (told : Option (List ℕ)) → count ≡ blocks (length v)
    → IfSome told (λ row. 1114112 ≤ length row) → IfSome told (λ row. d ≡ directory_of row) → IfSome told (λ row. KeepsObjects block_form row)
    → IfSome told (λ row. blocks (length v) + blocks_used (objects_of row) ≤ budget_of row)
    → ((budget : ℕ) → budget ≤ 2048 → count + blocks_read d ≤ budget → FreeToChoose budget d (take count all)) → (Differ (take count all) → IsEntered k (length v) (take count all) d now)
    → IfSome told (λ row. Chosen (budget_of row) k v (take count all) now row)
chosen_told k count v d all now None is enough read keeps room free entered = tt
chosen_told k count v d all now (Some row) is enough read keeps room free entered =
    let used = used_are_read row in
    let same : blocks_read d ≡ blocks_read (directory_of row) = ap blocks_read read in
    let f = free (budget_of row) keeps.few (omega (arith, room, used, same, is)) in
    let chosen = take count all in
    record {
      enough = enough;
      few = keeps.few;
      is_budget = refl;
      are = chains_of (budget_of row) (directory_of row) keeps.are;
      free = record { free = λ b some. sym (ap (λ d. reads d b) read) ∙ f.free b some; once = f.once; below = all_from (λ b. b < budget_of row) chosen f.below };
      differ = f.differ;
      entered = subst (λ d. IsEntered k (length v) chosen d now) read (entered f.differ);
    }

pub chosen_long : (count : ℕ) (all : List ℕ) (n : ℕ) → length all ≡ 256 → count ≡ blocks n → n ≤ 16384 → length (take count all) ≡ blocks n
chosen_long count all n size is short = omega (arith, length-take count all)

pub chosen_low : (count : ℕ) (all : List ℕ) → length all ≡ 256 → ((j : ℕ) → j < length all → get_or all j 0 < 2048) → (j : ℕ) → j < length (take count all) → get_or (take count all) j 0 < 2048
chosen_low count all size low j below =
    let long = length-take count all in
    let here : j < count = omega (arith, long, below) in
    subst (λ b. b < 2048) (sym (get_or-take count all j 0 here)) (low j (omega (arith, long, below)))
