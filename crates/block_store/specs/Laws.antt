-- Objects stand behind the first 256 bytes. The proof stands here, since code can cite only the specs of its own crate.
use Rattle.std.proofs.Common.{◌≡◌, ℕ, zero, suc, ◌+◌, ◌-◌, ◌%◌, ◌<◌, ◌≤◌, ◌&&◌, nat_le, nat_lt, Bool, true, IsTrue, List, length, take, drop, map, get_or, refl, ap, sym, ◌∙◌, arith}
use Rattle.std.specs.List.{range_with_len, list_all}
use Rattle.std.proofs.lemmas.Bool.{and_parts}
use Rattle.piv_model.specs.Memory.{is_short}
use Rattle.std.proofs.lemmas.List.{drop-drop, get_or-drop}
use Rattle.std.proofs.lemmas.List.FromFn.{length-map-range_with_len}
use Rattle.nvm_device.specs.Bytes.{bytes_at}
use Rattle.nvm_slots.specs.Slots.{slot_of}
use Rattle.card_image.specs.Forms.{StandsBehind, IsForm}
use Rattle.block_store.specs.Blocks.{directory_twin, directory_of, are_chains, byte_of, chain_of, length_in, reads, object_at, objects_of, block_form}

byte_behind : (old new : List ℕ) → StandsBehind old new → (at : ℕ) → 256 ≤ at → get_or new at 0 ≡ get_or old at 0
byte_behind old new stands at low =
    let e : 256 + (at - 256) ≡ at = omega arith in
    ap (λ k. get_or new k 0) (sym e) ∙ sym (get_or-drop 256 new (at - 256) 0) ∙ ap (λ (l : List ℕ). get_or l (at - 256) 0) stands.behind ∙ get_or-drop 256 old (at - 256) 0 ∙ ap (λ k. get_or old k 0) e

part_behind : (old new : List ℕ) → StandsBehind old new → (at n : ℕ) → 256 ≤ at → bytes_at new at n ≡ bytes_at old at n
unfolding bytes_at
part_behind old new stands at n low =
    let e : 256 + (at - 256) ≡ at = omega arith in
    let over : (row : List ℕ) → drop at row ≡ drop (at - 256) (drop 256 row) = λ row. ap (λ k. drop k row) (omega arith) ∙ sym (drop-drop (at - 256) 256 row) in
    ap (take n) (over new ∙ ap (drop (at - 256)) stands.behind ∙ sym (over old))

directory_behind : (old new : List ℕ) → StandsBehind old new → directory_of new ≡ directory_of old
directory_behind old new stands =
    ap (λ b. bytes_at new (slot_of directory_twin (b % 2)) 4228) (byte_behind old new stands 256 (omega arith)) ∙ by_slot (get_or old 256 0 % 2) (omega arith)
  where
    by_slot : (k : ℕ) → k < 2 → bytes_at new (slot_of directory_twin k) 4228 ≡ bytes_at old (slot_of directory_twin k) 4228
    by_slot zero below = part_behind old new stands 257 4228 (omega arith)
    by_slot (suc zero) below = part_behind old new stands 4485 4228 (omega arith)
    by_slot (suc (suc k)) below = absurd (omega arith)

map_same : {A : Type 0} (f g : ℕ → A) (from n : ℕ) → ((k : ℕ) → f k ≡ g k) → map f (range_with_len from n) ≡ map g (range_with_len from n)
map_same f g from n same = λ i. map (λ k. same k i) (range_with_len from n)

objects_behind : (old new : List ℕ) → StandsBehind old new → objects_of new ≡ objects_of old
unfolding objects_of object_at
objects_behind old new stands =
    ap (λ d. map (object_at new d) (range_with_len 0 33)) (directory_behind old new stands)
    ∙ map_same (object_at new (directory_of old)) (object_at old (directory_of old)) 0 33 (λ k.
    map_same (byte_of new (chain_of (directory_of old) k)) (byte_of old (chain_of (directory_of old) k)) 0 (length_in (directory_of old) k) (λ i. byte_behind old new stands _ (omega arith)))

places : (row : List ℕ) → length (objects_of row) ≡ 33
unfolding objects_of
places row = length-map-range_with_len (object_at row (directory_of row)) 0 33

short_map : (f : ℕ → List ℕ) (g : ℕ → ℕ) (from n : ℕ) → ((k : ℕ) → length (f k) ≡ g k) → IsTrue (list_all (λ k. nat_le (g k) 16384) (range_with_len from n)) → IsTrue (list_all is_short (map f (range_with_len from n)))
short_map f g from zero same test = refl
short_map f g from (suc n) same test =
    let parts = and_parts (nat_le (g from) 16384) (list_all (λ k. nat_le (g k) 16384) (range_with_len (from + 1) n)) test in
    let here : nat_le (length (f from)) 16384 ≡ true = ap (λ m. nat_le m 16384) (same from) ∙ parts.0 in
    rw (here, short_map f g (from + 1) n same parts.1) refl

first_of_three : (a b c : Bool) → (a && b && c) ≡ true → a ≡ true
first_of_three a b c h = (and_parts a b (and_parts (a && b) c h).0).0

length-object : (row d : List ℕ) (k : ℕ) → length (object_at row d k) ≡ length_in d k
unfolding object_at
length-object row d k = length-map-range_with_len (byte_of row (chain_of d k)) 0 (length_in d k)

short : (budget : ℕ) (row : List ℕ) → IsTrue (are_chains budget (directory_of row)) → IsTrue (list_all is_short (objects_of row))
unfolding objects_of are_chains
short budget row test =
    let d = directory_of row in
    short_map (object_at row d) (length_in d) 0 33 (length-object row d)
    (first_of_three (list_all (λ k. nat_le (length_in d k) 16384) (range_with_len 0 33)) (list_all (λ k. list_all (λ b. nat_lt b budget) (chain_of d k)) (range_with_len 0 33)) (list_all (λ b. nat_le (reads d b) 1) (range_with_len 0 budget)) test)

pub is_block_form : IsForm block_form
is_block_form = record {
  are_objects = λ budget old new stands. ap (are_chains budget) (directory_behind old new stands);
  objects_of = objects_behind;
  places = places;
  short = short;
  mark_size = refl;
  mark_first = refl;
}
