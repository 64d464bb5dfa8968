-- Objects stand behind the first 256 bytes.
use Rattle.std.proofs.Common.{◌≡◌, ℕ, zero, suc, ◌+◌, ◌-◌, ◌*◌, ◌%◌, ◌<◌, ◌≤◌, nat_le, true, IsTrue, length-take, List, length, take, drop, map, get_or, refl, ap, sym, ◌∙◌, arith}
use Rattle.std.specs.List.{range_with_len, list_all}
use Rattle.std.proofs.lemmas.Bool.{and_parts}
use Rattle.std.proofs.lemmas.Bool.Decides.{nat_tests}
use Rattle.piv_model.specs.Memory.{is_short}
use Rattle.std.proofs.lemmas.List.{drop-drop, get_or-drop}
use Rattle.std.proofs.lemmas.List.FromFn.{length-map-range_with_len}
use Rattle.nvm_device.specs.Bytes.{bytes_at}
use Rattle.nvm_slots.specs.Slots.{slot_of, record_of}
use Rattle.card_image.specs.Forms.{StandsBehind, IsForm}
use Rattle.twin_store.specs.Twins.{object_twin, length_at, value_in, object_at, objects_of, are_short, twin_form}

byte_behind : (old new : List ℕ) → StandsBehind old new → (at : ℕ) → 256 ≤ at → get_or new at 0 ≡ get_or old at 0
byte_behind old new stands at low =
    let e : 256 + (at - 256) ≡ at = omega arith in
    ap (λ k. get_or new k 0) (sym e) ∙ sym (get_or-drop 256 new (at - 256) 0) ∙ ap (λ (l : List ℕ). get_or l (at - 256) 0) stands.behind ∙ get_or-drop 256 old (at - 256) 0 ∙ ap (λ k. get_or old k 0) e

part_behind : (old new : List ℕ) → StandsBehind old new → (at n : ℕ) → 256 ≤ at → bytes_at new at n ≡ bytes_at old at n
unfolding bytes_at
part_behind old new stands at n low =
    let e : 256 + (at - 256) ≡ at = omega arith in
    let over : (row : List ℕ) → drop at row ≡ drop (at - 256) (drop 256 row) = λ row. ap (λ k. drop k row) (omega arith) ∙ sym (drop-drop (at - 256) 256 row) in
    ap (take n) (over new ∙ ap (drop (at - 256)) stands.behind ∙ sym (over old))

record_behind : (old new : List ℕ) → StandsBehind old new → (k : ℕ) → record_of (object_twin k) new ≡ record_of (object_twin k) old
record_behind old new stands k =
    ap (λ b. bytes_at new (slot_of (object_twin k) (b % 2)) 16386) (byte_behind old new stands (256 + 32773 * k) (omega arith)) ∙ by_slot (get_or old (256 + 32773 * k) 0 % 2) (omega arith)
  where
    by_slot : (j : ℕ) → j < 2 → bytes_at new (slot_of (object_twin k) j) 16386 ≡ bytes_at old (slot_of (object_twin k) j) 16386
    by_slot zero below = part_behind old new stands (257 + 32773 * k) 16386 (omega arith)
    by_slot (suc zero) below = part_behind old new stands (16643 + 32773 * k) 16386 (omega arith)
    by_slot (suc (suc j)) below = absurd (omega arith)

short_behind : (old new : List ℕ) → StandsBehind old new → are_short new ≡ are_short old
unfolding are_short
short_behind old new stands = λ i. list_all (λ k. nat_le (ap (λ (r : List ℕ). 256 * get_or r 0 0 + get_or r 1 0) (record_behind old new stands k) i) 16384) (range_with_len 0 33)

objects_behind : (old new : List ℕ) → StandsBehind old new → objects_of new ≡ objects_of old
unfolding objects_of
objects_behind old new stands = λ i. map (λ k. value_in (record_behind old new stands k i)) (range_with_len 0 33)

places : (row : List ℕ) → length (objects_of row) ≡ 33
unfolding objects_of
places row = length-map-range_with_len (object_at row) 0 33

few_bytes : (part : List ℕ) (n : ℕ) → n ≤ 16384 → length (bytes_at part 2 n) ≤ 16384
unfolding bytes_at
few_bytes part n le = omega (arith, length-take n (drop 2 part))

short_map : (row : List ℕ) (from n : ℕ) → IsTrue (list_all (λ k. nat_le (length_at row k) 16384) (range_with_len from n)) → IsTrue (list_all is_short (map (object_at row) (range_with_len from n)))
short_map row from zero test = refl
short_map row from (suc n) test =
    let parts = and_parts (nat_le (length_at row from) 16384) (list_all (λ k. nat_le (length_at row k) 16384) (range_with_len (from + 1) n)) test in
    let le : length_at row from ≤ 16384 = (let t = parts.0 in grind (arith, nat_tests)) in
    let few = few_bytes (record_of (object_twin from) row) (length_at row from) le in
    let here : nat_le (length (object_at row from)) 16384 ≡ true = grind (arith, nat_tests) in
    rw (here, short_map row (from + 1) n parts.1) refl

short : (budget : ℕ) (row : List ℕ) → IsTrue (are_short row) → IsTrue (list_all is_short (objects_of row))
unfolding objects_of are_short
short budget row test = short_map row 0 33 test

pub is_twin_form : IsForm twin_form
is_twin_form = record { are_objects = λ budget old new stands. short_behind old new stands; objects_of = objects_behind; places = places; short = short; mark_size = refl; mark_first = refl }
