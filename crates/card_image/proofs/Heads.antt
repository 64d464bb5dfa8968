-- What a replacement of the references makes of the head of a row.
use Rattle.std.proofs.Common.{◌≡◌, inl, inr, ℕ, zero, suc, ◌+◌, ◌-◌, ◌<◌, ◌≤◌, ◌%◌, Bool, true, false, List, ◌++◌, length, take, drop, get_or, Option, Some, None, IfSome, IsTrue, refl, ap, sym, ◌∙◌, subst, arith, length-take, length-append}
use Rattle.std.specs.Prelude.{replicate}
use Rattle.std.proofs.lemmas.List.{take_all, length-drop, same_lists, places, get_or-take, get_or_append_left}
use Rattle.nvm_device.specs.Bytes.{bytes_at}
use Rattle.nvm_device.specs.Device.{DeviceState}
use Rattle.nvm_device.proofs.Row.{length-bytes_at, get_or-bytes_at, bytes_at-bytes_at}
use Rattle.nvm_slots.specs.Slots.{slot_of, live, record_of, live_bytes, IsRecordIn, IsDisjoint, IsOutside, KeepsOutside, Replaced, ReplacedOrNot, Kept, Cut}
use Rattle.nvm_slots.specs.declared.twin.Twin.{Twin}
use Rattle.nvm_slots.proofs.Rows.{slot_in}
use Rattle.nvm_slots.proofs.KeptLaws.{kept_implies, cut_implies}
use Rattle.piv_model.specs.Memory.{Memory}
use Rattle.card_image.specs.Header.{Header, is_first, references_twin, padded, references_in, header_by, header_of, reference_in, global_in, number_in, memory_in, with_references}
use Rattle.card_image.specs.Forms.{StandsBehind}
use Rattle.card_image.specs.Images.{HasReferences, MayHaveReferences, FitsLayout}

pub record_in : (first : Bool) (size : ℕ) → 1114112 ≤ size → IsRecordIn size (references_twin first)
record_in true size enough = record { selector_in = omega arith; first_in = omega arith; second_in = omega arith }
record_in false size enough = record { selector_in = omega arith; first_in = omega arith; second_in = omega arith }

pub disjoint : (first : Bool) → IsDisjoint (references_twin first)
disjoint true = record { slots_apart = inl (omega arith); first_apart = inl (omega arith); second_apart = inl (omega arith) }
disjoint false = record { slots_apart = inl (omega arith); first_apart = inl (omega arith); second_apart = inl (omega arith) }

front_outside : (first : Bool) → IsOutside (references_twin first) 0 8
front_outside true = record { selector = inr (omega arith); first = inr (omega arith); second = inr (omega arith) }
front_outside false = record { selector = inr (omega arith); first = inr (omega arith); second = inr (omega arith) }

keys_outside : (first : Bool) → IsOutside (references_twin first) 49 66
keys_outside true = record { selector = inl (omega arith); first = inl (omega arith); second = inl (omega arith) }
keys_outside false = record { selector = inr (omega arith); first = inr (omega arith); second = inr (omega arith) }

behind_outside : (first : Bool) (n : ℕ) → IsOutside (references_twin first) 256 n
behind_outside true n = record { selector = inl (omega arith); first = inl (omega arith); second = inl (omega arith) }
behind_outside false n = record { selector = inl (omega arith); first = inl (omega arith); second = inl (omega arith) }

pub all_behind : (row : List ℕ) (at n : ℕ) → length row ≤ at + n → bytes_at row at n ≡ drop at row
unfolding bytes_at
all_behind row at n enough = take_all n (drop at row) (omega (arith, length-drop at row))

-- the record of layout 1, seen without its Global PIN
reference_front : (b z : List ℕ) (at : ℕ) → at + 10 ≤ 20 → 20 ≤ length b → reference_in (take 20 b ++ z) at ≡ reference_in b at
reference_front b z at le enough =
    let front : (k d : ℕ) → k < 20 → get_or (take 20 b ++ z) k d ≡ get_or b k d = λ k d below. get_or_append_left (take 20 b) z d k (omega (arith, length-take 20 b)) ∙ (rw get_or-take refl) in
    let long : 20 ≤ length (take 20 b ++ z) = omega (arith, length-append (take 20 b) z, length-take 20 b) in
    let limit = front at 0 (omega arith) in
    let tries = front (at + 1) 0 (omega arith) in
    let one = length-bytes_at (take 20 b ++ z) (at + 2) 8 (omega arith) in
    let two = length-bytes_at b (at + 2) 8 (omega arith) in
    let secret : bytes_at (take 20 b ++ z) (at + 2) 8 ≡ bytes_at b (at + 2) 8 = same_lists _ _ (one ∙ sym two) (λ k d h.
    let here : k < 8 = omega arith in
    get_or-bytes_at (take 20 b ++ z) (at + 2) 8 k d here ∙ front (at + 2 + k) d (omega arith) ∙ sym (get_or-bytes_at b (at + 2) 8 k d here)) in
    λ i. record { limit = limit i; tries = tries i; secret = secret i }

pub global_front : (b : List ℕ) → length b ≡ 20 → global_in (b ++ replicate 10 0) ≡ None
global_front b size =
    let zero_there : get_or (b ++ replicate 10 0) 20 0 ≡ 0 = grind (arith, places) in
    rw zero_there refl

padded_spells : (bytes : List ℕ) (m : Memory) → length bytes ≡ 30 → global_in bytes ≡ None → with_references (take 20 bytes ++ replicate 10 0) m ≡ with_references bytes m
padded_spells bytes m size none =
    let pin = reference_front bytes (replicate 10 0) 0 (omega arith) (omega arith) in
    let puk = reference_front bytes (replicate 10 0) 10 (omega arith) (omega arith) in
    let global : global_in (take 20 bytes ++ replicate 10 0) ≡ global_in bytes = global_front (take 20 bytes) (omega (arith, length-take 20 bytes)) ∙ sym none in
    λ i. record m { pin = pin i; puk = puk i; global = global i }

-- what is written of thirty bytes
abbrev pub written_of : Bool → List ℕ → List ℕ
written_of first bytes = take (references_twin first).size bytes

written_size : (first : Bool) (bytes : List ℕ) → length bytes ≡ 30 → length (written_of first bytes) ≡ (references_twin first).size
written_size true bytes size = omega (arith, length-take 20 bytes)
written_size false bytes size = omega (arith, length-take 30 bytes)

pub written_spells : (first : Bool) (bytes : List ℕ) (m : Memory) → length bytes ≡ 30 → (first ≡ true → global_in bytes ≡ None) → with_references (padded first (written_of first bytes)) m ≡ with_references bytes m
written_spells true bytes m size none = padded_spells bytes m size (none refl)
written_spells false bytes m size none = ap (λ (b : List ℕ). with_references b m) (take_all 30 bytes (omega arith))

module _ (first : Bool) (old new : List ℕ) (enough : 1114112 ≤ length old) (is : is_first (bytes_at old 0 8) ≡ first) (kept : KeepsOutside (references_twin first) old new) where
  front_stands : bytes_at new 0 8 ≡ bytes_at old 0 8
  front_stands = kept.outside 0 8 (omega arith) (front_outside first)

  keys_stand : bytes_at new 49 66 ≡ bytes_at old 49 66
  keys_stand = kept.outside 49 66 (omega arith) (keys_outside first)

  stands_behind : StandsBehind old new
  stands_behind =
      let n = length old - 256 in
      record {
        size = kept.size;
        behind = sym (all_behind new 256 n (omega (arith, kept.size))) ∙ kept.outside 256 n (omega arith) (behind_outside first n) ∙ all_behind old 256 n (omega arith);
      }

  head_old : header_of old ≡ header_by first old
  unfolding header_of
  head_old = ap (λ b. header_by b old) is

  head_new : header_of new ≡ header_by first new
  unfolding header_of
  head_new = ap (λ b. header_by b new) (ap is_first front_stands ∙ is)

  heads : (references : List ℕ) → references_in first new ≡ references → header_of new ≡ record (header_of old) { references = references }
  heads references same =
      head_new ∙ (λ i. record { front = front_stands i; references = same i; keys = keys_stand i })
      ∙ ap (λ (h : Header). record h { references = references }) (sym head_old)

  replaced_references : (bytes : List ℕ) → length bytes ≡ 30 → (first ≡ true → global_in bytes ≡ None)
      → live_bytes (references_twin first) (length (written_of first bytes)) new ≡ written_of first bytes → HasReferences bytes old new
  replaced_references bytes size none begins =
      let record_is : record_of (references_twin first) new ≡ written_of first bytes = ap (λ n. live_bytes (references_twin first) n new) (sym (written_size first bytes size)) ∙ begins in
      let head = heads (padded first (written_of first bytes)) (ap (padded first) record_is) in
      record {
        stands = stands_behind;
        mark = ap (λ (h : Header). bytes_at h.front 0 4) head;
        budget = ap (λ (h : Header). number_in h.front 6) head;
        references = λ objects. ap (λ (h : Header). memory_in h objects) head ∙ written_spells first bytes (memory_in (header_of old) objects) size none;
      }

  kept_references : (bytes : List ℕ) → record_of (references_twin first) new ≡ record_of (references_twin first) old → MayHaveReferences bytes old new
  kept_references bytes same =
      let head : header_of new ≡ header_of old = heads (references_in first old) (ap (padded first) same) ∙ (λ i. record (header_of old) { references = (sym (ap (λ (h : Header). h.references) head_old)) i }) in
      record {
        stands = stands_behind;
        mark = ap (λ (h : Header). bytes_at h.front 0 4) head;
        budget = ap (λ (h : Header). number_in h.front 6) head;
        references = inl (λ objects. ap (λ (h : Header). memory_in h objects) head);
      }

may_by : (bytes old new : List ℕ) → HasReferences bytes old new → MayHaveReferences bytes old new
may_by bytes old new has = record { stands = has.stands; mark = has.mark; budget = has.budget; references = inr has.references }

-- what is known of a row before a replacement
pub record Before (first : Bool) (bytes : List ℕ) (size : ℕ) (row : List ℕ) : Type 0 where
  pub size_is : length row ≡ size
  pub is : first ≡ is_first (header_of row).front
  pub fits : FitsLayout bytes row

pub front_of : (row : List ℕ) → is_first (header_of row).front ≡ is_first (bytes_at row 0 8)
unfolding header_of
front_of row = refl

first_none : (first : Bool) (bytes : List ℕ) (size : ℕ) (row : List ℕ) → Before first bytes size row → first ≡ true → global_in bytes ≡ None
first_none first bytes size row before true_there = before.fits (sym before.is ∙ true_there)

module _ (first : Bool) (bytes : List ℕ) (thirty : length bytes ≡ 30) (s t : DeviceState) (enough : 1114112 ≤ s.size) (before : IfSome s.bytes (λ row. Before first bytes s.size row)) (twin : Twin) (is : twin ≡ references_twin first) where
  pub has_references : Kept 2 (Replaced twin (take twin.size bytes)) s t → Kept 2 (HasReferences bytes) s t
  has_references kept = kept_implies 2 (Before first bytes s.size) (Replaced (references_twin first) (written_of first bytes)) (HasReferences bytes) (λ old new b r.
      replaced_references first old new (omega (arith, b.size_is)) (sym (front_of old) ∙ sym b.is) r.kept bytes thirty (first_none first bytes s.size old b) r.begins) s t before
      (subst (λ (twin : Twin). Kept 2 (Replaced twin (take twin.size bytes)) s t) is kept)

  pub may_have_references : Cut 2 (ReplacedOrNot twin (take twin.size bytes)) s t → Cut 2 (MayHaveReferences bytes) s t
  may_have_references cut = cut_implies 2 (Before first bytes s.size) (ReplacedOrNot (references_twin first) (written_of first bytes)) (MayHaveReferences bytes) (λ old new b r.
      elim r.which [
        | inl same ↦ kept_references first old new (omega (arith, b.size_is)) (sym (front_of old) ∙ sym b.is) r.kept bytes same
        | inr begins ↦ may_by bytes old new (replaced_references first old new (omega (arith, b.size_is)) (sym (front_of old) ∙ sym b.is) r.kept bytes thirty (first_none first bytes s.size old b) begins)
      ]) s t before
      (subst (λ (twin : Twin). Cut 2 (ReplacedOrNot twin (take twin.size bytes)) s t) is cut)

pub before_by : (first : Bool) (bytes : List ℕ) (size : ℕ) (told : Option (List ℕ)) → IfSome told (λ row. length row ≡ size) → IfSome told (λ row. first ≡ is_first (header_of row).front) → IfSome told (λ row. FitsLayout bytes row) → IfSome told (λ row. Before first bytes size row)
before_by first bytes size None a b c = tt
before_by first bytes size (Some row) a b c = record { size_is = a; is = b; fits = c }

length-record : (first : Bool) (row : List ℕ) → 1114112 ≤ length row → length (record_of (references_twin first) row) ≡ (references_twin first).size
length-record first row enough =
    let slot = slot_in (references_twin first) (length row) (record_in first (length row) enough) (live (references_twin first) row) (omega arith) in
    length-bytes_at row (slot_of (references_twin first) (live (references_twin first) row)) (references_twin first).size slot

-- layout 1 has no Global PIN
pub first_has_none : (row : List ℕ) → 1114112 ≤ length row → IsTrue (is_first (header_of row).front) → global_in (header_of row).references ≡ None
unfolding header_of
first_has_none row enough is = ap (λ b. global_in (references_in b row)) is ∙ global_front (record_of (references_twin true) row) (length-record true row enough)

-- ---- a row whose first 256 bytes stand

module _ (old new : List ℕ) (same : bytes_at new 0 256 ≡ bytes_at old 0 256) where
  part_same : (at n : ℕ) → at + n ≤ 256 → bytes_at new at n ≡ bytes_at old at n
  part_same at n within =
      let here : 0 + at ≡ at = omega arith in
      ap (λ k. bytes_at new k n) (sym here) ∙ sym (bytes_at-bytes_at new 0 256 at n within) ∙ ap (λ (l : List ℕ). bytes_at l at n) same ∙ bytes_at-bytes_at old 0 256 at n within ∙ ap (λ k. bytes_at old k n) here

  byte_same : (k : ℕ) → k < 256 → get_or new k 0 ≡ get_or old k 0
  byte_same k below =
      let here : 0 + k ≡ k = omega arith in
      ap (λ j. get_or new j 0) (sym here) ∙ sym (get_or-bytes_at new 0 256 k 0 below) ∙ ap (λ (l : List ℕ). get_or l k 0) same ∙ get_or-bytes_at old 0 256 k 0 below ∙ ap (λ j. get_or old j 0) here

  record_same : (first : Bool) → record_of (references_twin first) new ≡ record_of (references_twin first) old
  record_same true = ap (λ b. bytes_at new (slot_of (references_twin true) (b % 2)) 20) (byte_same 8 (omega arith)) ∙ by_slot (get_or old 8 0 % 2) (omega arith)
    where
      by_slot : (k : ℕ) → k < 2 → bytes_at new (slot_of (references_twin true) k) 20 ≡ bytes_at old (slot_of (references_twin true) k) 20
      by_slot zero below = part_same 9 20 (omega arith)
      by_slot (suc zero) below = part_same 29 20 (omega arith)
      by_slot (suc (suc k)) below = absurd (omega arith)
  record_same false = ap (λ b. bytes_at new (slot_of (references_twin false) (b % 2)) 30) (byte_same 115 (omega arith)) ∙ by_slot (get_or old 115 0 % 2) (omega arith)
    where
      by_slot : (k : ℕ) → k < 2 → bytes_at new (slot_of (references_twin false) k) 30 ≡ bytes_at old (slot_of (references_twin false) k) 30
      by_slot zero below = part_same 116 30 (omega arith)
      by_slot (suc zero) below = part_same 146 30 (omega arith)
      by_slot (suc (suc k)) below = absurd (omega arith)

  pub head_stands : header_of new ≡ header_of old
  unfolding header_of
  head_stands =
      let front = part_same 0 8 (omega arith) in
      let keys = part_same 49 66 (omega arith) in
      let references = record_same (is_first (bytes_at old 0 8)) in
      ap (λ b. header_by b new) (ap is_first front) ∙ (λ i. record { front = front i; references = padded (is_first (bytes_at old 0 8)) (references i); keys = keys i })

pub length-keys : (row : List ℕ) → 1114112 ≤ length row → length (header_of row).keys ≡ 66
unfolding header_of
length-keys row enough = length-bytes_at row 49 66 (omega arith)

pub length-references : (row : List ℕ) → 1114112 ≤ length row → length (header_of row).references ≡ 30
unfolding header_of
length-references row enough = by_layout (is_first (bytes_at row 0 8))
  where
    by_layout : (b : Bool) → length (references_in b row) ≡ 30
    by_layout true = omega (arith, length-append (record_of (references_twin true) row) (replicate 10 0), length-record true row enough)
    by_layout false = length-record false row enough
