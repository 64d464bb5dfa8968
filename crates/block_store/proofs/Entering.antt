-- What a put makes of the objects.
use Rattle.std.proofs.Common.{◌≡◌, ◌≢◌, ◌⊎◌, inl, inr, ℕ, zero, suc, ◌+◌, ◌*◌, ◌/◌, ◌%◌, ◌<◌, ◌≤◌, List, [], ◌∷◌, length, map, get_or, set, refl, ap, sym, ◌∙◌, arith}
use Rattle.std.specs.List.{range_with_len}
use Rattle.std.proofs.lemmas.Bool.{cases_eq, cases_lt}
use Rattle.std.proofs.lemmas.Bool.Decides.{nat_tests}
use Rattle.std.proofs.lemmas.List.{same_lists}
use Rattle.std.proofs.lemmas.List.FromFn.{length-map-range_with_len, get_or-map-range_with_len}
use Rattle.nvm_device.specs.Bytes.{bytes_at}
use Rattle.nvm_device.proofs.Row.{get_or-bytes_at}
use Rattle.nvm_slots.specs.Slots.{slot_of, live_bytes, IsOutside, KeepsOutside, Replaced, ReplacedOrNot}
use Rattle.piv_model.specs.Memory.{blocks}
use Rattle.card_image.specs.Images.{HasObject, MayHaveObject, budget_of}
use Rattle.card_image.proofs.Heads.{head_stands}
use Rattle.block_store.specs.Blocks.{directory_twin, directory_of, length_in, chain_of, times, reads, are_chains, place_of_block, byte_of, object_at, objects_of, block_form}
use Rattle.block_store.specs.Writes.{KeepsOthers, part_size, HoldsParts, WroteParts, Differ, IsEntered}
use Rattle.block_store.proofs.Lists.{AllOf, all_of, all_both, all_at, map_with}
use Rattle.block_store.proofs.Chains.{AreChains, AreFree, are_chains_by, length-chain_of, are_read, chain_stands, chain_is, chains_stand}

block_stands : List ℕ → List ℕ → ℕ → Type 0
block_stands old new b = bytes_at new (place_of_block b) 64 ≡ bytes_at old (place_of_block b) 64

byte_same : (old new chosen : List ℕ) (i : ℕ) → i / 64 < length chosen → AllOf (λ b. bytes_at new (place_of_block b) 64 ≡ bytes_at old (place_of_block b) 64) chosen → byte_of new chosen i ≡ byte_of old chosen i
byte_same old new chosen i below all =
    let place = place_of_block (get_or chosen (i / 64) 0) in
    let here : i % 64 < 64 = omega arith in
    let same = all_at (λ b. bytes_at new (place_of_block b) 64 ≡ bytes_at old (place_of_block b) 64) chosen (i / 64) below all in
    sym (get_or-bytes_at new place 64 (i % 64) 0 here) ∙ ap (λ (l : List ℕ). get_or l (i % 64) 0) same ∙ get_or-bytes_at old place 64 (i % 64) 0 here

map_same : (f g : ℕ → ℕ) (n : ℕ) → ((k : ℕ) → k < n → f k ≡ g k) → map f (range_with_len 0 n) ≡ map g (range_with_len 0 n)
map_same f g n same =
    let one = length-map-range_with_len f 0 n in
    let two = length-map-range_with_len g 0 n in
    same_lists _ _ (one ∙ sym two) (λ k d h.
    let here : k < n = omega arith in
    get_or-map-range_with_len f 0 n k k d here (omega arith) ∙ same k here ∙ sym (get_or-map-range_with_len g 0 n k k d here (omega arith)))

-- an object whose blocks stand
pub object_same : (old new d now : List ℕ) (j : ℕ) → length_in now j ≡ length_in d j → chain_of now j ≡ chain_of d j → AllOf (λ b. bytes_at new (place_of_block b) 64 ≡ bytes_at old (place_of_block b) 64) (chain_of d j) → object_at new now j ≡ object_at old d j
unfolding object_at
object_same old new d now j same_length same_chain all =
    (λ i. map (byte_of new (same_chain i)) (range_with_len 0 (same_length i)))
    ∙ map_same (byte_of new (chain_of d j)) (byte_of old (chain_of d j)) (length_in d j) (λ i below.
    let size = length-chain_of d j in
    byte_same old new (chain_of d j) i (omega (arith, size)) all)

-- the object that was written
pub object_new : (new now chosen v : List ℕ) (k : ℕ) → length_in now k ≡ length v → chain_of now k ≡ chosen → length chosen ≡ blocks (length v) → HoldsParts (length chosen) chosen v new → object_at new now k ≡ v
unfolding object_at
object_new new now chosen v k same_length same_chain size holds =
    (λ i. map (byte_of new (same_chain i)) (range_with_len 0 (same_length i)))
    ∙ (let one = length-map-range_with_len (byte_of new chosen) 0 (length v) in
    same_lists _ _ one (λ i d h.
    let here : i < length v = omega arith in
    let j = i / 64 in
    let low : j < length chosen = omega arith in
    let place = place_of_block (get_or chosen j 0) in
    let inside : i % 64 < part_size v j = omega arith in
    let whole : 64 * j + part_size v j ≤ length v = omega arith in
    let at : 64 * j + i % 64 ≡ i = omega arith in
    get_or-map-range_with_len (byte_of new chosen) 0 (length v) i i d here (omega arith)
    ∙ sym (get_or-bytes_at new place (part_size v j) (i % 64) 0 inside) ∙ ap (λ (l : List ℕ). get_or l (i % 64) 0) (holds j low)
    ∙ get_or-bytes_at v (64 * j) (part_size v j) (i % 64) 0 inside ∙ ap (λ n. get_or v n 0) at ∙ any_default v i d here))
  where
    any_default : (v : List ℕ) (i d : ℕ) → i < length v → get_or v i 0 ≡ get_or v i d
    any_default [] i d below = absurd (omega arith)
    any_default (x ∷ v) zero d below = refl
    any_default (x ∷ v) (suc i) d below = any_default v i d (omega arith)

-- blocks behind the directory
block_outside : (b m : ℕ) → IsOutside directory_twin (place_of_block b) m
block_outside b m = record { selector = inl (omega arith); first = inl (omega arith); second = inl (omega arith) }

head_outside : IsOutside directory_twin 0 256
head_outside = record { selector = inr (omega arith); first = inr (omega arith); second = inr (omega arith) }

never : (b : ℕ) (chosen : List ℕ) → times b chosen ≡ 0 → (j : ℕ) → j < length chosen → get_or chosen j 0 ≢ b
never b [] none j below = absurd (omega arith)
never b (x ∷ chosen) none zero below = λ same. grind (arith, nat_tests)
never b (x ∷ chosen) none (suc j) below = never b chosen (fewer_times (cases_eq x b)) j (omega arith)
  where
    fewer_times : (x ≡ b) ⊎ (x ≢ b) → times b chosen ≡ 0
    fewer_times (inl same) = grind (arith, nat_tests)
    fewer_times (inr differs) = grind (arith, nat_tests)

-- the head and the blocks that are read stand
pub record Stands (budget : ℕ) (d old new : List ℕ) : Type 0 where
  pub size : length new ≡ length old
  pub head : bytes_at new 0 256 ≡ bytes_at old 0 256
  pub blocks_stand : (b : ℕ) → b < budget → 1 ≤ reads d b → bytes_at new (place_of_block b) 64 ≡ bytes_at old (place_of_block b) 64

module _ (budget : ℕ) (old mid new chosen : List ℕ) (few : budget ≤ 2048) (enough : 1114112 ≤ length old) (free : AreFree budget (directory_of old) chosen) (low : (j : ℕ) → j < length chosen → get_or chosen j 0 < 2048) (keeps : KeepsOthers chosen old mid) where
  stand_mid : Stands budget (directory_of old) old mid
  stand_mid = record {
    size = keeps.size;
    head = keeps.others 0 256 (omega arith) (λ j below. inr (omega arith));
    blocks_stand = λ b in_budget read.
        let none = none_read b read in
        keeps.others (place_of_block b) 64 (omega arith) (λ j below. let differs = never b chosen none j below in elim (cases_lt (get_or chosen j 0) b) [ inl before ↦ inl (omega arith) | inr after ↦ inr (omega arith) ]);
  }
    where
      none_read : (b : ℕ) → 1 ≤ reads (directory_of old) b → times b chosen ≡ 0
      none_read b read = elim (cases_lt 0 (times b chosen)) [ inl some ↦ absurd (let none = free.free b (omega arith) in omega (arith, none, read)) | inr none ↦ omega arith ]

  stand_new : KeepsOutside directory_twin mid new → Stands budget (directory_of old) old new
  stand_new kept = let mid_stands = stand_mid in record {
    size = kept.size ∙ keeps.size;
    head = kept.outside 0 256 (let size = keeps.size in omega (arith, size)) head_outside ∙ mid_stands.head;
    blocks_stand = λ b in_budget read. kept.outside (place_of_block b) 64 (let size = keeps.size in omega (arith, size)) (block_outside b 64) ∙ mid_stands.blocks_stand b in_budget read;
  }

blocks_of_stand : (budget : ℕ) (old new : List ℕ) (j : ℕ) → j < 33 → AreChains budget (directory_of old) → Stands budget (directory_of old) old new → AllOf (λ b. bytes_at new (place_of_block b) 64 ≡ bytes_at old (place_of_block b) 64) (chain_of (directory_of old) j)
blocks_of_stand budget old new j low are stands =
    all_of (λ b. (b < budget) × (1 ≤ reads (directory_of old) b)) (λ b. bytes_at new (place_of_block b) 64 ≡ bytes_at old (place_of_block b) 64) (λ b both. stands.blocks_stand b both.0 both.1) (chain_of (directory_of old) j)
    (all_both (λ b. b < budget) (λ b. 1 ≤ reads (directory_of old) b) (chain_of (directory_of old) j) (are.below j low) (are_read (directory_of old) j low))

-- nothing was entered
pub old_objects : (budget : ℕ) (old new : List ℕ) → AreChains budget (directory_of old) → Stands budget (directory_of old) old new → directory_of new ≡ directory_of old → objects_of new ≡ objects_of old
unfolding objects_of
old_objects budget old new are stands same =
    ap (λ d. map (object_at new d) (range_with_len 0 33)) same
    ∙ map_lists (object_at new (directory_of old)) (object_at old (directory_of old)) 33 (λ j low. object_same old new (directory_of old) (directory_of old) j refl refl (blocks_of_stand budget old new j low are stands))
  where
    map_lists : (f g : ℕ → List ℕ) (n : ℕ) → ((k : ℕ) → k < n → f k ≡ g k) → map f (range_with_len 0 n) ≡ map g (range_with_len 0 n)
    map_lists f g n same =
        let one = length-map-range_with_len f 0 n in
        let two = length-map-range_with_len g 0 n in
        same_lists _ _ (one ∙ sym two) (λ k d h.
        let here : k < n = omega arith in
        get_or-map-range_with_len f 0 n k k d here (omega arith) ∙ same k here ∙ sym (get_or-map-range_with_len g 0 n k k d here (omega arith)))

-- the object was entered
pub new_objects : (budget k : ℕ) (old new chosen v now : List ℕ) → budget ≤ 2048 → k < 33 → AreChains budget (directory_of old) → AreFree budget (directory_of old) chosen → IsEntered k (length v) chosen (directory_of old) now → length chosen ≡ blocks (length v)
    → Stands budget (directory_of old) old new → HoldsParts (length chosen) chosen v new → directory_of new ≡ now → objects_of new ≡ set (objects_of old) k v
unfolding objects_of
new_objects budget k old new chosen v now few place are free entered size stands holds is =
    let d = directory_of old in
    ap (λ d. map (object_at new d) (range_with_len 0 33)) is
    ∙ map_with (object_at new now) (object_at old d) k 33 v place
    (λ j low differs. object_same old new d now j (entered.lengths j low differs) (chain_stands budget k (length v) d now chosen few place are free entered size j low differs) (blocks_of_stand budget old new j low are stands))
    (object_new new now chosen v k entered.length_is (chain_is budget k (length v) d now chosen few place are free entered size) size holds)

-- ---- the writes of a put, from the old row on

directory_stands : (chosen old mid : List ℕ) → 1114112 ≤ length old → KeepsOthers chosen old mid → directory_of mid ≡ directory_of old
directory_stands chosen old mid enough keeps =
    let part : (at n : ℕ) → at + n ≤ 8768 → bytes_at mid at n ≡ bytes_at old at n = λ at n within. keeps.others at n (omega arith) (λ j below. inr (omega arith)) in
    let selector : get_or mid 256 0 ≡ get_or old 256 0 = sym (get_or-bytes_at mid 256 1 0 0 (omega arith)) ∙ ap (λ (l : List ℕ). get_or l 0 0) (part 256 1 (omega arith)) ∙ get_or-bytes_at old 256 1 0 0 (omega arith) in
    ap (λ b. bytes_at mid (slot_of directory_twin (b % 2)) 4228) selector ∙ by_slot part (get_or old 256 0 % 2) (omega arith)
  where
    by_slot : ((at n : ℕ) → at + n ≤ 8768 → bytes_at mid at n ≡ bytes_at old at n) → (k : ℕ) → k < 2 → bytes_at mid (slot_of directory_twin k) 4228 ≡ bytes_at old (slot_of directory_twin k) 4228
    by_slot part zero below = part 257 4228 (omega arith)
    by_slot part (suc zero) below = part 4485 4228 (omega arith)
    by_slot part (suc (suc k)) below = absurd (omega arith)

-- what is known before the writes
pub record Chosen (budget k : ℕ) (v chosen now old : List ℕ) : Type 0 where
  pub enough : 1114112 ≤ length old
  pub few : budget ≤ 2048
  pub is_budget : budget_of old ≡ budget
  pub are : AreChains budget (directory_of old)
  pub free : AreFree budget (directory_of old) chosen
  pub differ : Differ chosen
  pub entered : IsEntered k (length v) chosen (directory_of old) now

module _ (budget k : ℕ) (v chosen now : List ℕ) (place : k < 33) (short : length v ≤ 16384) (size : length chosen ≡ blocks (length v)) (low : (j : ℕ) → j < length chosen → get_or chosen j 0 < 2048) (whole : length now ≡ 4228) where
  entered_now : (old mid new : List ℕ) → Chosen budget k v chosen now old → WroteParts (length chosen) chosen v old mid → KeepsOutside directory_twin mid new → live_bytes directory_twin (length now) new ≡ now → HasObject block_form k v old new
  entered_now old mid new known wrote kept begins =
      let d_new : directory_of new ≡ now = ap (λ n. live_bytes directory_twin n new) (sym whole) ∙ begins in
      let stands = stand_new budget old mid new chosen known.few known.enough known.free low wrote.keeps kept in
      let holds : HoldsParts (length chosen) chosen v new = λ j below. kept.outside (place_of_block (get_or chosen j 0)) (part_size v j) (let same = wrote.keeps.size in let b = low j below in let enough = known.enough in omega (arith, same, b, enough)) (block_outside (get_or chosen j 0) (part_size v j)) ∙ wrote.holds known.differ j below in
      record {
        size = stands.size;
        head = head_stands old new stands.head;
        are = ap (λ b. are_chains b (directory_of new)) known.is_budget ∙ ap (are_chains budget) d_new ∙ are_chains_by budget now (chains_stand budget k (length v) (directory_of old) now chosen known.few place known.are known.free known.entered size short);
        objects = new_objects budget k old new chosen v now known.few place known.are known.free known.entered size stands holds d_new;
      }

  stands_still : (old new : List ℕ) → Chosen budget k v chosen now old → Stands budget (directory_of old) old new → directory_of new ≡ directory_of old → MayHaveObject block_form k v old new
  stands_still old new known stands same = record {
    size = stands.size;
    head = head_stands old new stands.head;
    are = ap (λ b. are_chains b (directory_of new)) known.is_budget ∙ ap (are_chains budget) same ∙ are_chains_by budget (directory_of old) known.are;
    objects = inl (old_objects budget old new known.are stands same);
  }

  pub has_object : (old mid new : List ℕ) → Chosen budget k v chosen now old → WroteParts (length chosen) chosen v old mid → Replaced directory_twin now mid new → HasObject block_form k v old new
  has_object old mid new known wrote r = entered_now old mid new known wrote r.kept r.begins

  pub may_have_object : (old mid new : List ℕ) → Chosen budget k v chosen now old → WroteParts (length chosen) chosen v old mid → ReplacedOrNot directory_twin now mid new → MayHaveObject block_form k v old new
  may_have_object old mid new known wrote r = elim r.which [
    | inl same ↦ stands_still old new known (stand_new budget old mid new chosen known.few known.enough known.free low wrote.keeps r.kept) (same ∙ directory_stands chosen old mid known.enough wrote.keeps)
    | inr begins ↦ (let has = entered_now old mid new known wrote r.kept begins in record { size = has.size; head = has.head; are = has.are; objects = inr has.objects })
  ]

  pub lost_a_block : (old new : List ℕ) → Chosen budget k v chosen now old → KeepsOthers chosen old new → MayHaveObject block_form k v old new
  lost_a_block old new known keeps = stands_still old new known (stand_mid budget old new new chosen known.few known.enough known.free low keeps) (directory_stands chosen old new known.enough keeps)
