-- Objects that are read.
use Rattle.std.proofs.Common.{◌≡◌, inl, inr, ℕ, zero, suc, ◌+◌, ◌-◌, ◌*◌, ◌/◌, ◌%◌, ◌<◌, ◌≤◌, min, List, [], ◌∷◌, length, take, drop, map, get_or, Option, Some, None, IfSome, refl, ap, sym, ◌∙◌, subst, arith, drop-cons}
use Rattle.std.specs.List.{range_with_len}
use Rattle.std.proofs.lemmas.Bool.{cases_lt}
use Rattle.std.proofs.lemmas.List.{same_lists}
use Rattle.std.proofs.lemmas.List.FromFn.{length-map-range_with_len, get_or-map-range_with_len}
use Rattle.nvm_device.specs.Bytes.{bytes_at, overwrite}
use Rattle.nvm_device.proofs.Row.{length-bytes_at, length-overwrite, get_or-bytes_at, get_or-overwrite_at, get_or-overwrite_below}
use Rattle.piv_model.specs.Memory.{blocks}
use Rattle.card_image.specs.Images.{budget_of, KeepsObjects}
use Rattle.block_store.specs.Blocks.{directory_of, length_in, first_in, next_in, chain, chain_of, place_of_block, byte_of, object_at, objects_of, block_form}
use Rattle.block_store.proofs.Lists.{AllOf, all_at}
use Rattle.block_store.proofs.Chains.{chains_of, length-chain_of}
use Rattle.block_store.proofs.Choosing.{length-object}

pub object_is : (row : List ℕ) (k : ℕ) → k < 33 → get_or (objects_of row) k [] ≡ object_at row (directory_of row) k
unfolding objects_of
object_is row k low = get_or-map-range_with_len (object_at row (directory_of row)) 0 33 k k [] low (omega arith)

pub length_told : (told : Option (List ℕ)) (d : List ℕ) (k n m : ℕ) → k < 33 → IfSome told (λ row. d ≡ directory_of row) → n ≡ length_in d k → m ≡ min n 16384 → IfSome told (λ row. KeepsObjects block_form row → m ≡ length (get_or (objects_of row) k []))
length_told None d k n m low read is_n is_m = tt
length_told (Some row) d k n m low read is_n is_m = λ keeps.
    let short = (chains_of (budget_of row) (directory_of row) keeps.are).short k low in
    let here = is_n ∙ ap (λ d. length_in d k) read in
    let long = ap (λ (o : List ℕ). length o) (object_is row k low) ∙ length-object row (directory_of row) k in
    omega (arith, short, here, long, is_m)

-- how far an object was read
pub record FilledTo (row d : List ℕ) (k j block : ℕ) (out : List ℕ) : Type 0 where
  pub rest : drop j (chain_of d k) ≡ chain d (blocks (length_in d k) - j) block
  pub bytes : (i : ℕ) → i < 64 * j → i < length out → get_or out i 0 ≡ byte_of row (chain_of d k) i

pub none_filled : (row d : List ℕ) (k block : ℕ) (out : List ℕ) → block ≡ first_in d k → FilledTo row d k 0 block out
unfolding chain_of
none_filled row d k block out is = record {
  rest = (let e : blocks (length_in d k) - 0 ≡ blocks (length_in d k) = omega arith in ap (chain d (blocks (length_in d k))) (sym is) ∙ ap (λ n. chain d n block) (sym e));
  bytes = λ i below within. absurd (omega arith);
}

tail_of : List ℕ → List ℕ
tail_of [] = []
tail_of (x ∷ xs) = xs

-- the next block of a chain
rest_more : (xs d : List ℕ) (j n block : ℕ) → j < n → length xs ≡ n → drop j xs ≡ chain d (n - j) block → (get_or xs j 0 ≡ block) × (drop (j + 1) xs ≡ chain d (n - (j + 1)) (next_in d block))
unfolding tail_of
rest_more xs d j n block low size is =
    let more : n - j ≡ suc (n - (j + 1)) = omega arith in
    let one : j + 1 ≡ suc j = omega arith in
    let both : get_or xs j 0 ∷ drop (suc j) xs ≡ block ∷ chain d (n - (j + 1)) (next_in d block) = sym (drop-cons xs j 0 (omega arith)) ∙ is ∙ ap (λ m. chain d m block) more in
    (ap (λ (l : List ℕ). get_or l 0 0) both, ap (λ m. drop m xs) one ∙ ap tail_of both)

pub filled_more : (row d : List ℕ) (k j block n : ℕ) (out : List ℕ) → 139840 ≤ length row → length out ≡ length_in d k → j < blocks (length_in d k) → block < 2048 → n ≡ min (length out - 64 * j) 64 → FilledTo row d k j block out
    → FilledTo row d k (j + 1) (next_in d block) (overwrite out (64 * j) (bytes_at row (place_of_block block) n))
filled_more row d k j block n out enough size low small is_n filled =
    let next = rest_more (chain_of d k) d j (blocks (length_in d k)) block low (length-chain_of d k) filled.rest in
    let part = bytes_at row (place_of_block block) n in
    let long : length part ≡ n = length-bytes_at row (place_of_block block) n (omega arith) in
    let fits : 64 * j + length part ≤ length out = omega arith in
    let all = length-overwrite out (64 * j) part fits in
    record {
      rest = next.1;
      bytes = λ i below within. elim (cases_lt i (64 * j)) [
        | inl before ↦ get_or-overwrite_below out (64 * j) part i 0 before fits ∙ filled.bytes i before (omega (arith, within, all))
        | inr here ↦ (let k_in : i - 64 * j < length part = omega (arith, within, all, below, here, long, is_n) in
            let at : 64 * j + (i - 64 * j) ≡ i = omega arith in
            let j_is : i / 64 ≡ j = omega (arith, below, here) in
            let off : i % 64 ≡ i - 64 * j = omega (arith, below, here) in
            ap (λ p. get_or (overwrite out (64 * j) part) p 0) (sym at) ∙ get_or-overwrite_at out (64 * j) part (i - 64 * j) 0 k_in fits
            ∙ get_or-bytes_at row (place_of_block block) n (i - 64 * j) 0 (omega (arith, k_in, long))
            ∙ sym (λ t. get_or row (place_of_block ((ap (λ q. get_or (chain_of d k) q 0) j_is ∙ next.0) t) + off t) 0))
      ];
    }

pub all_filled : (row d : List ℕ) (k j block : ℕ) (out : List ℕ) → length out ≡ length_in d k → length out ≤ 64 * j → FilledTo row d k j block out → out ≡ object_at row d k
unfolding object_at
all_filled row d k j block out size enough filled =
    let one = length-map-range_with_len (byte_of row (chain_of d k)) 0 (length_in d k) in
    same_lists _ _ (size ∙ sym one) (λ i e h.
    any_default out i e h ∙ filled.bytes i (omega arith) h ∙ sym (get_or-map-range_with_len (byte_of row (chain_of d k)) 0 (length_in d k) i i e (omega (arith, size, h)) (omega arith)))
  where
    any_default : (v : List ℕ) (i d : ℕ) → i < length v → get_or v i d ≡ get_or v i 0
    any_default [] i d below = absurd (omega arith)
    any_default (x ∷ v) zero d below = refl
    any_default (x ∷ v) (suc i) d below = any_default v i d (omega arith)

-- ---- where a row is told

pub none_told : (told : Option (List ℕ)) (d : List ℕ) (k block : ℕ) (out : List ℕ) (P : List ℕ → Type 0) → block ≡ first_in d k → IfSome told (λ row. KeepsObjects block_form row → P row → FilledTo row d k 0 block out)
none_told None d k block out P is = tt
none_told (Some row) d k block out P is = λ keeps p. none_filled row d k block out is

pub more_told : (told : Option (List ℕ)) (d : List ℕ) (k j block next n whole : ℕ) (out new : List ℕ) → k < 33 → length out ≡ whole → 64 * j < whole → n ≡ min (whole - 64 * j) 64 → next ≡ next_in d block → IfSome told (λ row. 1114112 ≤ length row) → IfSome told (λ row. d ≡ directory_of row)
    → IfSome told (λ row. block < 2048 → new ≡ overwrite out (64 * j) (bytes_at row (place_of_block block) n))
    → IfSome told (λ row. KeepsObjects block_form row → whole ≡ length (get_or (objects_of row) k []) → FilledTo row d k j block out)
    → IfSome told (λ row. KeepsObjects block_form row → whole ≡ length (get_or (objects_of row) k []) → FilledTo row d k (j + 1) next new)
more_told None d k j block next n whole out new low is_whole some is_n is_next enough read write filled = tt
more_told (Some row) d k j block next n whole out new low is_whole some is_n is_next enough read write filled = λ keeps same.
    let so_far = filled keeps same in
    let are = chains_of (budget_of row) (directory_of row) keeps.are in
    let size : length out ≡ length_in d k = is_whole ∙ same ∙ ap (λ (o : List ℕ). length o) (object_is row k low) ∙ length-object row (directory_of row) k ∙ sym (ap (λ d. length_in d k) read) in
    let within : j < blocks (length_in d k) = omega (arith, some, size) in
    let here = rest_more (chain_of d k) d j (blocks (length_in d k)) block within (length-chain_of d k) so_far.rest in
    let long = length-chain_of d k in
    let below : get_or (chain_of d k) j 0 < budget_of row = all_at (λ b. b < budget_of row) (chain_of d k) j (omega (arith, within, long)) (subst (λ d. AllOf (λ b. b < budget_of row) (chain_of d k)) (sym read) (are.below k low)) in
    let few = keeps.few in
    let small : block < 2048 = let h = here.0 in omega (arith, below, few, h) in
    subst (FilledTo row d k (j + 1) next) (sym (write small)) (subst (λ b. FilledTo row d k (j + 1) b (overwrite out (64 * j) (bytes_at row (place_of_block block) n))) (sym is_next)
    (filled_more row d k j block n out (omega arith) size within small (is_n ∙ ap (λ m. min (m - 64 * j) 64) (sym is_whole)) so_far))

pub filled_told : (told : Option (List ℕ)) (d : List ℕ) (k j block size : ℕ) (out : List ℕ) → k < 33 → length out ≡ size → size ≤ 64 * j → IfSome told (λ row. d ≡ directory_of row)
    → IfSome told (λ row. KeepsObjects block_form row → size ≡ length (get_or (objects_of row) k []) → FilledTo row d k j block out)
    → IfSome told (λ row. KeepsObjects block_form row → size ≡ length (get_or (objects_of row) k []) → out ≡ get_or (objects_of row) k [])
filled_told None d k j block size out low is enough read filled = tt
filled_told (Some row) d k j block size out low is enough read filled = λ keeps same.
    let long : length out ≡ length_in d k = is ∙ same ∙ ap (λ (o : List ℕ). length o) (object_is row k low) ∙ length-object row (directory_of row) k ∙ sym (ap (λ d. length_in d k) read) in
    all_filled row d k j block out long (omega arith) (filled keeps same) ∙ ap (λ d. object_at row d k) read ∙ sym (object_is row k low)

-- ---- a part

-- a chain that was followed for a while
pub record Followed (d : List ℕ) (k j block : ℕ) : Type 0 where
  pub rest : j ≤ blocks (length_in d k) → drop j (chain_of d k) ≡ chain d (blocks (length_in d k) - j) block

pub none_followed : (d : List ℕ) (k block : ℕ) → block ≡ first_in d k → Followed d k 0 block
unfolding chain_of
none_followed d k block is = record {
  rest = λ within. (let e : blocks (length_in d k) - 0 ≡ blocks (length_in d k) = omega arith in ap (chain d (blocks (length_in d k))) (sym is) ∙ ap (λ n. chain d n block) (sym e));
}

pub more_followed : (d : List ℕ) (k j block next : ℕ) → next ≡ next_in d block → Followed d k j block → Followed d k (j + 1) next
more_followed d k j block next is followed = record {
  rest = λ within.
      (rest_more (chain_of d k) d j (blocks (length_in d k)) block (omega arith) (length-chain_of d k) (followed.rest (omega arith))).1
      ∙ ap (chain d (blocks (length_in d k) - (j + 1))) (sym is);
}

pub block_there : (d : List ℕ) (k j number block : ℕ) → j ≡ number → Followed d k j block → number < blocks (length_in d k)
    → block ≡ get_or (chain_of d k) number 0
block_there d k j number block is followed below =
    sym (rest_more (chain_of d k) d j (blocks (length_in d k)) block (omega arith) (length-chain_of d k) (followed.rest (omega arith))).0
    ∙ ap (λ i. get_or (chain_of d k) i 0) is

-- the bytes of a block are those of the object
part_is : (row d : List ℕ) (k j block n : ℕ) → n ≤ 64 → 64 * j + n ≤ length_in d k → place_of_block block + n ≤ length row
    → block ≡ get_or (chain_of d k) j 0 → bytes_at row (place_of_block block) n ≡ bytes_at (object_at row d k) (64 * j) n
unfolding object_at
part_is row d k j block n few within inside is =
    let object = map (byte_of row (chain_of d k)) (range_with_len 0 (length_in d k)) in
    let long : length object ≡ length_in d k = length-map-range_with_len (byte_of row (chain_of d k)) 0 (length_in d k) in
    let one = length-bytes_at row (place_of_block block) n inside in
    let two = length-bytes_at object (64 * j) n (omega (arith, long, within)) in
    same_lists _ _ (one ∙ sym two) (λ i e h.
    let here : i < n = omega (arith, one, h) in
    let j_is : (64 * j + i) / 64 ≡ j = omega (arith, here, few) in
    let off : (64 * j + i) % 64 ≡ i = omega (arith, here, few) in
    get_or-bytes_at row (place_of_block block) n i e here
    ∙ any_default row (place_of_block block + i) e (omega (arith, here, inside))
    ∙ sym (λ t. get_or row (place_of_block ((ap (λ q. get_or (chain_of d k) q 0) j_is ∙ sym is) t) + off t) 0)
    ∙ sym (get_or-map-range_with_len (byte_of row (chain_of d k)) 0 (length_in d k) (64 * j + i) (64 * j + i) e (omega (arith, here, within)) (omega arith))
    ∙ sym (get_or-bytes_at object (64 * j) n i e here))
  where
    any_default : (v : List ℕ) (i d : ℕ) → i < length v → get_or v i d ≡ get_or v i 0
    any_default [] i d below = absurd (omega arith)
    any_default (x ∷ v) zero d below = refl
    any_default (x ∷ v) (suc i) d below = any_default v i d (omega arith)

pub part_told : (told : Option (List ℕ)) (d : List ℕ) (k number block low n : ℕ) (out : List ℕ) → k < 33 → n ≤ 64 → 0 < n
    → low ≡ min block 2047 → (number < blocks (length_in d k) → block ≡ get_or (chain_of d k) number 0)
    → IfSome told (λ row. 1114112 ≤ length row) → IfSome told (λ row. d ≡ directory_of row)
    → IfSome told (λ row. out ≡ bytes_at row (place_of_block low) n)
    → IfSome told (λ row. KeepsObjects block_form row → 64 * number + n ≤ length (get_or (objects_of row) k [])
    → out ≡ bytes_at (get_or (objects_of row) k []) (64 * number) n)
part_told None d k number block low n out below few some is_low is_block enough read filled = tt
part_told (Some row) d k number block low n out below few some is_low is_block enough read filled = λ keeps within.
    let are = chains_of (budget_of row) (directory_of row) keeps.are in
    let is = object_is row k below in
    let same_length = ap (λ d. length_in d k) read in
    let long = ap (λ (o : List ℕ). length o) is ∙ length-object row (directory_of row) k ∙ sym same_length in
    let in_chain : number < blocks (length_in d k) = omega (arith, within, long, some) in
    let size = length-chain_of d k in
    let bounded : get_or (chain_of d k) number 0 < budget_of row = all_at (λ b. b < budget_of row) (chain_of d k) number (omega (arith, in_chain, size)) (subst (λ d. AllOf (λ b. b < budget_of row) (chain_of d k)) (sym read) (are.below k below)) in
    let budget = keeps.few in
    let there = is_block in_chain in
    let low_is : low ≡ block = omega (arith, is_low, bounded, budget, there) in
    filled ∙ part_is row d k number low n few (omega (arith, within, long)) (omega (arith, enough, few, low_is, bounded, budget, there)) (low_is ∙ there)
    ∙ ap (λ d. bytes_at (object_at row d k) (64 * number) n) read ∙ ap (λ (o : List ℕ). bytes_at o (64 * number) n) (sym is)

pub no_part : (told : Option (List ℕ)) (k number n : ℕ) (out : List ℕ) → n ≡ 0 → length out ≡ n
    → IfSome told (λ row. KeepsObjects block_form row → 64 * number + n ≤ length (get_or (objects_of row) k [])
    → out ≡ bytes_at (get_or (objects_of row) k []) (64 * number) n)
unfolding bytes_at
no_part None k number n out none size = tt
no_part (Some row) k number n [] none size = λ keeps within. ap (λ n. take n (drop (64 * number) (get_or (objects_of row) k []))) (sym none)
no_part (Some row) k number n (x ∷ out) none size = absurd (omega arith)

pub any_part : (told : Option (List ℕ)) (d : List ℕ) (k number block low n : ℕ) (out : List ℕ) → k < 33 → n ≤ 64 → length out ≡ n
    → low ≡ min block 2047 → (number < blocks (length_in d k) → block ≡ get_or (chain_of d k) number 0)
    → IfSome told (λ row. 1114112 ≤ length row) → IfSome told (λ row. d ≡ directory_of row)
    → IfSome told (λ row. out ≡ bytes_at row (place_of_block low) n)
    → IfSome told (λ row. KeepsObjects block_form row → 64 * number + n ≤ length (get_or (objects_of row) k [])
    → out ≡ bytes_at (get_or (objects_of row) k []) (64 * number) n)
any_part told d k number block low zero out below few size is_low is_block enough read filled = no_part told k number 0 out refl size
any_part told d k number block low (suc n) out below few size is_low is_block enough read filled =
    part_told told d k number block low (suc n) out below few (omega arith) is_low is_block enough read filled
