-- What a replacement makes of the objects.
use Rattle.std.proofs.Common.{◌≡◌, ◌≢◌, inl, inr, ℕ, zero, suc, ◌+◌, ◌*◌, ◌/◌, ◌<◌, ◌≤◌, ◌%◌, nat_le, min, Bool, true, false, List, [], length, map, get_or, set, Option, Some, None, IfSome, IsTrue, refl, ap, sym, ◌∙◌, subst, arith}
use Rattle.std.specs.List.{range_with_len, list_all}
use Rattle.std.proofs.lemmas.Bool.{cases_eq, cases_lt, and_parts}
use Rattle.std.proofs.lemmas.Bool.Decides.{nat_tests}
use Rattle.std.proofs.lemmas.List.{same_lists, length-set, get_or-set_same, get_or-set_other, take_all}
use Rattle.std.proofs.lemmas.List.FromFn.{length-map-range_with_len, get_or-map-range_with_len}
use Rattle.nvm_device.specs.Bytes.{bytes_at}
use Rattle.nvm_device.specs.Device.{DeviceState}
use Rattle.nvm_device.proofs.Row.{get_or-bytes_at, bytes_at-bytes_at, length-bytes_at}
use Rattle.nvm_slots.specs.Slots.{slot_of, live, live_bytes, record_of, IsRecordIn, IsDisjoint, IsOutside, KeepsOutside, Replaced, ReplacedOrNot, Kept, Cut}
use Rattle.nvm_slots.proofs.Rows.{slot_in}
use Rattle.nvm_slots.proofs.KeptLaws.{kept_implies, cut_implies}
use Rattle.card_image.specs.Header.{header_of, number_in}
use Rattle.card_image.specs.Images.{HasObject, MayHaveObject, KeepsObjects}
use Rattle.card_image.proofs.Heads.{head_stands}
use Rattle.twin_store.specs.Twins.{object_twin, length_at, value_in, object_at, objects_of, are_short, spelled, twin_form, value_twin, part_twin}

pub record_in : (k size : ℕ) → 1114112 ≤ size → k < 33 → IsRecordIn size (object_twin k)
record_in k size enough low = record { selector_in = omega arith; first_in = omega arith; second_in = omega arith }

pub disjoint : (k : ℕ) → IsDisjoint (object_twin k)
disjoint k = record { slots_apart = inl (omega arith); first_apart = inl (omega arith); second_apart = inl (omega arith) }

-- of all numbers of a range
range_true : (p : ℕ → Bool) (from n k : ℕ) → IsTrue (list_all p (range_with_len from n)) → from ≤ k → k < from + n → IsTrue (p k)
range_true p from zero k test low high = absurd (omega arith)
range_true p from (suc n) k test low high =
    let parts = and_parts (p from) (list_all p (range_with_len (from + 1) n)) test in
    elim (cases_eq k from) [ inl here ↦ rw here parts.0 | inr later ↦ range_true p (from + 1) n k parts.1 (omega arith) (omega arith) ]

true_range : (p : ℕ → Bool) (from n : ℕ) → ((k : ℕ) → from ≤ k → k < from + n → IsTrue (p k)) → IsTrue (list_all p (range_with_len from n))
true_range p from zero each = refl
true_range p from (suc n) each = rw (each from (omega arith) (omega arith), true_range p (from + 1) n (λ k low high. each k (omega arith) (omega arith))) refl

map_with : (f g : ℕ → List ℕ) (at n : ℕ) (v : List ℕ) → at < n → ((k : ℕ) → k < n → k ≢ at → f k ≡ g k) → f at ≡ v → map f (range_with_len 0 n) ≡ set (map g (range_with_len 0 n)) at v
map_with f g at n v within each is =
    let one = length-map-range_with_len f 0 n in
    let two = length-map-range_with_len g 0 n in
    same_lists _ _ (one ∙ sym (length-set (map g (range_with_len 0 n)) at v ∙ two)) (λ k d h.
    let here : k < n = omega arith in
    let left = get_or-map-range_with_len f 0 n k k d here (omega arith) in
    elim (cases_eq k at) [
      | inl same ↦ left ∙ ap f same ∙ is ∙ sym (ap (λ j. get_or (set (map g (range_with_len 0 n)) at v) j d) same ∙ (let inside : at < length (map g (range_with_len 0 n)) = omega arith in get_or-set_same (map g (range_with_len 0 n)) at v d inside))
      | inr differs ↦ left ∙ each k here differs ∙ sym (get_or-set_other (map g (range_with_len 0 n)) at k v d differs ∙ get_or-map-range_with_len g 0 n k k d here (omega arith))
    ])

pub map_same : (f g : ℕ → List ℕ) (n : ℕ) → ((k : ℕ) → k < n → f k ≡ g k) → map f (range_with_len 0 n) ≡ map g (range_with_len 0 n)
map_same f g n same =
    let one = length-map-range_with_len f 0 n in
    let two = length-map-range_with_len g 0 n in
    same_lists _ _ (one ∙ sym two) (λ k d h.
    let here : k < n = omega arith in
    get_or-map-range_with_len f 0 n k k d here (omega arith) ∙ same k here ∙ sym (get_or-map-range_with_len g 0 n k k d here (omega arith)))

pub lengths_of : (row : List ℕ) → IsTrue (are_short row) → (k : ℕ) → k < 33 → length_at row k ≤ 16384
unfolding are_short
lengths_of row test k low = let t = range_true (λ k. nat_le (length_at row k) 16384) 0 33 k test (omega arith) (omega arith) in grind (arith, nat_tests)

pub short_by : (row : List ℕ) → ((k : ℕ) → k < 33 → length_at row k ≤ 16384) → IsTrue (are_short row)
unfolding are_short
short_by row each = true_range (λ k. nat_le (length_at row k) 16384) 0 33 (λ k low high. let le = each k (omega arith) in grind (arith, nat_tests))

-- a record apart from the one that was replaced
module _ (k j : ℕ) (old new : List ℕ) (enough : 1114112 ≤ length old) (low_k : k < 33) (low_j : j < 33) (differs : j ≢ k) (kept : KeepsOutside (object_twin k) old new) where
  -- any range within record j
  outside : (at n : ℕ) → 256 + 32773 * j ≤ at → at + n ≤ 256 + 32773 * j + 32773 → IsOutside (object_twin k) at n
  outside at n from to = elim (cases_lt j k) [
    | inl below ↦ record { selector = inr (omega arith); first = inr (omega arith); second = inr (omega arith) }
    | inr above ↦ record { selector = inl (omega arith); first = inl (omega arith); second = inl (omega arith) }
  ]

  pub record_kept : record_of (object_twin j) new ≡ record_of (object_twin j) old
  record_kept =
      let selector : get_or new (256 + 32773 * j) 0 ≡ get_or old (256 + 32773 * j) 0 =
      (let here : 256 + 32773 * j + 0 ≡ 256 + 32773 * j = omega arith in
      ap (λ a. get_or new a 0) (sym here) ∙ sym (get_or-bytes_at new (256 + 32773 * j) 1 0 0 (omega arith)) ∙ ap (λ (l : List ℕ). get_or l 0 0) (kept.outside (256 + 32773 * j) 1 (omega arith) (outside (256 + 32773 * j) 1 (omega arith) (omega arith)))
      ∙ get_or-bytes_at old (256 + 32773 * j) 1 0 0 (omega arith) ∙ ap (λ a. get_or old a 0) here) in
      ap (λ b. bytes_at new (slot_of (object_twin j) (b % 2)) 16386) selector ∙ by_slot (get_or old (256 + 32773 * j) 0 % 2) (omega arith)
    where
      by_slot : (i : ℕ) → i < 2 → bytes_at new (slot_of (object_twin j) i) 16386 ≡ bytes_at old (slot_of (object_twin j) i) 16386
      by_slot zero below = kept.outside (257 + 32773 * j) 16386 (omega arith) (outside (257 + 32773 * j) 16386 (omega arith) (omega arith))
      by_slot (suc zero) below = kept.outside (16643 + 32773 * j) 16386 (omega arith) (outside (16643 + 32773 * j) 16386 (omega arith) (omega arith))
      by_slot (suc (suc i)) below = absurd (omega arith)

head_outside : (k : ℕ) → IsOutside (object_twin k) 0 256
head_outside k = record { selector = inr (omega arith); first = inr (omega arith); second = inr (omega arith) }

-- a record that begins with a value as it is written
pub spelled_length : (part v : List ℕ) → bytes_at part 0 (length v + 2) ≡ spelled v → number_in part 0 ≡ length v
spelled_length part v begins =
    let one : get_or part 0 0 ≡ length v / 256 = sym (get_or-bytes_at part 0 (length v + 2) 0 0 (omega arith)) ∙ ap (λ (l : List ℕ). get_or l 0 0) begins in
    let two : get_or part 1 0 ≡ length v % 256 = sym (get_or-bytes_at part 0 (length v + 2) 1 0 (omega arith)) ∙ ap (λ (l : List ℕ). get_or l 1 0) begins in
    omega (arith, one, two)

behind : (v : List ℕ) → bytes_at (spelled v) 2 (length v) ≡ v
unfolding bytes_at
behind v = take_all (length v) v (omega arith)

pub spelled_value : (part v : List ℕ) → bytes_at part 0 (length v + 2) ≡ spelled v → value_in part ≡ v
spelled_value part v begins =
    ap (bytes_at part 2) (spelled_length part v begins) ∙ sym (bytes_at-bytes_at part 0 (length v + 2) 2 (length v) (omega arith)) ∙ ap (λ (l : List ℕ). bytes_at l 2 (length v)) begins ∙ behind v

module _ (k : ℕ) (v old new : List ℕ) (low : k < 33) (short : length v ≤ 16384) (enough : 1114112 ≤ length old) (keeps : KeepsObjects twin_form old) (kept : KeepsOutside (object_twin k) old new) where
  head_same : header_of new ≡ header_of old
  head_same = head_stands old new (kept.outside 0 256 (omega arith) (head_outside k))

  put_now : live_bytes (object_twin k) (length (spelled v)) new ≡ spelled v → HasObject twin_form k v old new
  unfolding objects_of
  put_now begins =
      let part = record_of (object_twin k) new in
      let front : bytes_at part 0 (length v + 2) ≡ spelled v =
      (let here : slot_of (object_twin k) (live (object_twin k) new) + 0 ≡ slot_of (object_twin k) (live (object_twin k) new) = omega arith in
      let long : length v + 2 ≡ length (spelled v) = omega arith in
      bytes_at-bytes_at new (slot_of (object_twin k) (live (object_twin k) new)) 16386 0 (length v + 2) (omega arith) ∙ ap (λ a. bytes_at new a (length v + 2)) here ∙ ap (bytes_at new (slot_of (object_twin k) (live (object_twin k) new))) long ∙ begins) in
      record {
        size = kept.size;
        head = head_same;
        are = short_by new (λ j low_j. elim (cases_eq j k) [
          | inl same ↦ (let e = ap (length_at new) same in let is = spelled_length part v front in omega (arith, e, is))
          | inr differs ↦ (let e = ap (λ (r : List ℕ). number_in r 0) (record_kept k j old new enough low low_j differs kept) in let le = lengths_of old keeps.are j low_j in omega (arith, e, le))
        ]);
        objects = map_with (object_at new) (object_at old) k 33 v low (λ j low_j differs. ap value_in (record_kept k j old new enough low low_j differs kept)) (spelled_value part v front);
      }

  put_not : record_of (object_twin k) new ≡ record_of (object_twin k) old → MayHaveObject twin_form k v old new
  unfolding objects_of
  put_not same =
      let all : (j : ℕ) → j < 33 → record_of (object_twin j) new ≡ record_of (object_twin j) old = λ j low_j. elim (cases_eq j k) [
        | inl here ↦ subst (λ i. record_of (object_twin i) new ≡ record_of (object_twin i) old) (sym here) same
        | inr differs ↦ record_kept k j old new enough low low_j differs kept
      ] in
      record {
        size = kept.size;
        head = head_same;
        are = short_by new (λ j low_j. let e = ap (λ (r : List ℕ). number_in r 0) (all j low_j) in let le = lengths_of old keeps.are j low_j in omega (arith, e, le));
        objects = inl (map_same (object_at new) (object_at old) 33 (λ j low_j. ap value_in (all j low_j)));
      }

-- what is known of the row before a put
pub record Before (row : List ℕ) : Type 0 where
  pub enough : 1114112 ≤ length row
  pub keeps : KeepsObjects twin_form row

pub before_put : (told : Option (List ℕ)) (size : ℕ) → 1114112 ≤ size → IfSome told (λ row. length row ≡ size) → IfSome told (λ row. KeepsObjects twin_form row) → IfSome told Before
before_put None size enough is keeps = tt
before_put (Some row) size enough is keeps = record { enough = omega arith; keeps = keeps }

module _ (k : ℕ) (v : List ℕ) (s t : DeviceState) (low : k < 33) (short : length v ≤ 16384) (before : IfSome s.bytes Before) where
  pub has_object : Kept 2 (Replaced (object_twin k) (spelled v)) s t → Kept 2 (HasObject twin_form k v) s t
  has_object = kept_implies 2 Before (Replaced (object_twin k) (spelled v)) (HasObject twin_form k v) (λ old new b r. put_now k v old new low short b.enough b.keeps r.kept r.begins) s t before

  pub may_have_object : Cut 2 (ReplacedOrNot (object_twin k) (spelled v)) s t → Cut 2 (MayHaveObject twin_form k v) s t
  may_have_object = cut_implies 2 Before (ReplacedOrNot (object_twin k) (spelled v)) (MayHaveObject twin_form k v) (λ old new b r. elim r.which [
    | inl same ↦ put_not k v old new low short b.enough b.keeps r.kept same
    | inr begins ↦ (let has = put_now k v old new low short b.enough b.keeps r.kept begins in record { size = has.size; head = has.head; are = has.are; objects = inr has.objects })
  ]) s t before

-- ---- reading

pub object_is : (row : List ℕ) (k : ℕ) → k < 33 → get_or (objects_of row) k [] ≡ object_at row k
unfolding objects_of
object_is row k low = get_or-map-range_with_len (object_at row) 0 33 k k [] low (omega arith)

pub length-record : (row : List ℕ) (k : ℕ) → 1114112 ≤ length row → k < 33 → length (record_of (object_twin k) row) ≡ 16386
length-record row k enough low =
    let slot = slot_in (object_twin k) (length row) (record_in k (length row) enough low) (live (object_twin k) row) (omega arith) in
    length-bytes_at row (slot_of (object_twin k) (live (object_twin k) row)) 16386 slot

pub length-object : (row : List ℕ) (k : ℕ) → 1114112 ≤ length row → k < 33 → length_at row k ≤ 16384 → length (object_at row k) ≡ length_at row k
length-object row k enough low short = length-bytes_at (record_of (object_twin k) row) 2 (length_at row k) (omega (arith, length-record row k enough low))

-- ---- where a row is told

pub written_told : (told : Option (List ℕ)) (k : ℕ) (out : List ℕ) → IfSome told (λ row. out ≡ live_bytes (object_twin k) 2 row) → IfSome told (λ row. 256 * get_or out 0 0 + get_or out 1 0 ≡ length_at row k)
written_told None k out read = tt
written_told (Some row) k out read =
    let slot = slot_of (object_twin k) (live (object_twin k) row) in
    let byte : (i : ℕ) → i < 2 → get_or out i 0 ≡ get_or (record_of (object_twin k) row) i 0 = λ i low. ap (λ (l : List ℕ). get_or l i 0) read ∙ get_or-bytes_at row slot 2 i 0 low ∙ sym (get_or-bytes_at row slot 16386 i 0 (omega arith)) in
    λ i. 256 * byte 0 (omega arith) i + byte 1 (omega arith) i

pub length_told : (told : Option (List ℕ)) (k n m : ℕ) → k < 33 → IfSome told (λ row. 1114112 ≤ length row) → IfSome told (λ row. n ≡ length_at row k) → m ≡ min n 16384 → IfSome told (λ row. KeepsObjects twin_form row → m ≡ length (get_or (objects_of row) k []))
length_told None k n m low enough read is = tt
length_told (Some row) k n m low enough read is = λ keeps.
    let short = lengths_of row keeps.are k low in
    let long = ap (λ (o : List ℕ). length o) (object_is row k low) ∙ length-object row k enough low short in
    omega (arith, short, long, read, is)

value_part : (row : List ℕ) (k n : ℕ) → n ≤ 16384 → live_bytes (value_twin k) n row ≡ bytes_at (record_of (object_twin k) row) 2 n
value_part row k n few = by_slot (get_or row (256 + 32773 * k) 0 % 2) (omega arith)
  where
    by_slot : (i : ℕ) → i < 2 → bytes_at row (slot_of (value_twin k) i) n ≡ bytes_at (bytes_at row (slot_of (object_twin k) i) 16386) 2 n
    by_slot zero below = ap (λ a. bytes_at row a n) (omega arith) ∙ sym (bytes_at-bytes_at row (257 + 32773 * k) 16386 2 n (omega arith))
    by_slot (suc zero) below = ap (λ a. bytes_at row a n) (omega arith) ∙ sym (bytes_at-bytes_at row (16643 + 32773 * k) 16386 2 n (omega arith))
    by_slot (suc (suc i)) below = absurd (omega arith)

pub filled_told : (told : Option (List ℕ)) (k n : ℕ) (out : List ℕ) → k < 33 → n ≤ 16384 → IfSome told (λ row. 1114112 ≤ length row) → IfSome told (λ row. out ≡ live_bytes (value_twin k) n row) → IfSome told (λ row. KeepsObjects twin_form row → n ≡ length (get_or (objects_of row) k []) → out ≡ get_or (objects_of row) k [])
filled_told None k n out low few enough read = tt
filled_told (Some row) k n out low few enough read = λ keeps same.
    let short = lengths_of row keeps.are k low in
    let size : n ≡ length_at row k = same ∙ ap (λ (o : List ℕ). length o) (object_is row k low) ∙ length-object row k enough low short in
    read ∙ value_part row k n few ∙ ap (bytes_at (record_of (object_twin k) row) 2) size ∙ sym (object_is row k low)

-- a part of a value
value_from : (row : List ℕ) (k j n : ℕ) → 64 * j + n ≤ 16384
    → live_bytes (part_twin k j) n row ≡ bytes_at (record_of (object_twin k) row) (2 + 64 * j) n
value_from row k j n few = by_slot (get_or row (256 + 32773 * k) 0 % 2) (omega arith)
  where
    by_slot : (i : ℕ) → i < 2
        → bytes_at row (slot_of (part_twin k j) i) n ≡ bytes_at (bytes_at row (slot_of (object_twin k) i) 16386) (2 + 64 * j) n
    by_slot zero below = ap (λ a. bytes_at row a n) (omega arith) ∙ sym (bytes_at-bytes_at row (257 + 32773 * k) 16386 (2 + 64 * j) n (omega arith))
    by_slot (suc zero) below = ap (λ a. bytes_at row a n) (omega arith) ∙ sym (bytes_at-bytes_at row (16643 + 32773 * k) 16386 (2 + 64 * j) n (omega arith))
    by_slot (suc (suc i)) below = absurd (omega arith)

pub part_told : (told : Option (List ℕ)) (k j n : ℕ) (out : List ℕ) → k < 33
    → IfSome told (λ row. 1114112 ≤ length row) → IfSome told (λ row. out ≡ live_bytes (part_twin k j) n row)
    → IfSome told (λ row. KeepsObjects twin_form row → 64 * j + n ≤ length (get_or (objects_of row) k [])
    → out ≡ bytes_at (get_or (objects_of row) k []) (64 * j) n)
part_told None k j n out low enough read = tt
part_told (Some row) k j n out low enough read = λ keeps within.
    let short = lengths_of row keeps.are k low in
    let is = object_is row k low in
    let long = ap (λ (o : List ℕ). length o) is ∙ length-object row k enough low short in
    read ∙ value_from row k j n (omega (arith, within, long, short))
    ∙ sym (bytes_at-bytes_at (record_of (object_twin k) row) 2 (length_at row k) (64 * j) n (omega (arith, within, long)))
    ∙ ap (λ (o : List ℕ). bytes_at o (64 * j) n) (sym is)

pub not_filled : (told : Option (List ℕ)) (k n : ℕ) (out : List ℕ) → k < 33 → 16384 < n → IfSome told (λ row. 1114112 ≤ length row) → IfSome told (λ row. KeepsObjects twin_form row → n ≡ length (get_or (objects_of row) k []) → out ≡ get_or (objects_of row) k [])
not_filled None k n out low many enough = tt
not_filled (Some row) k n out low many enough = λ keeps same.
    let short = lengths_of row keeps.are k low in
    let size : n ≡ length_at row k = same ∙ ap (λ (o : List ℕ). length o) (object_is row k low) ∙ length-object row k enough low short in
    absurd (omega (arith, size, short, many))

pub all_short_told : (told : Option (List ℕ)) (n : ℕ) → 33 ≤ n → IfSome told (λ row. (j : ℕ) → j < n → length_at row j ≤ 16384) → IfSome told (λ row. true ≡ are_short row)
all_short_told None n last each = tt
all_short_told (Some row) n last each = sym (short_by row (λ k low. each k (omega arith)))

not_true : (b : Bool) → (b ≡ true → ⊥) → false ≡ b
not_true true no_way = absurd (no_way refl)
not_true false no_way = refl

pub long_told : (told : Option (List ℕ)) (k n : ℕ) → k < 33 → 16384 < n → IfSome told (λ row. n ≡ length_at row k) → IfSome told (λ row. false ≡ are_short row)
long_told None k n low many read = tt
long_told (Some row) k n low many read = not_true (are_short row) (λ test. let short = lengths_of row test k low in absurd (omega (arith, short, many, read)))
