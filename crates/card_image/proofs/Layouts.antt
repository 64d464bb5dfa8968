-- From layout 1 to layout 2.
use Rattle.std.proofs.Common.{◌≡◌, inl, inr, ℕ, zero, suc, ◌+◌, ◌-◌, ◌*◌, ◌<◌, ◌≤◌, ◌%◌, ◌==◌, Bool, true, false, List, [], ◌∷◌, length, get_or, Option, Some, None, IfSome, refl, ap, sym, ◌∙◌, subst, arith}
use Rattle.nvm_device.specs.Bytes.{bytes_at, overwrite}
use Rattle.nvm_device.proofs.Row.{get_or-bytes_at, bytes_at-bytes_at, length-overwrite, bytes_at-overwrite, bytes_at-overwrite_below, bytes_at-overwrite_above, get_or-overwrite_at, get_or-overwrite_above}
use Rattle.nvm_slots.specs.Slots.{slot_of, record_of}
use Rattle.card_image.specs.Header.{Header, is_first, references_twin, padded, header_by, header_of, memory_in, number_in, with_references}
use Rattle.card_image.specs.Forms.{StandsBehind}
use Rattle.card_image.specs.Images.{MayHaveReferences, Migrated, budget_of}
use Rattle.card_image.proofs.Heads.{all_behind, front_of}
use Rattle.nvm_slots.proofs.Calls.{WroteAny}

-- what layout 1 reads stands
pub record KeepsFirst (old new : List ℕ) : Type 0 where
  pub stands : StandsBehind old new
  pub front : bytes_at new 0 115 ≡ bytes_at old 0 115

pub keeps_none : (row : List ℕ) → KeepsFirst row row
keeps_none row = record { stands = record { size = refl; behind = refl }; front = refl }

-- a write below place 256
behind_stands : (old row : List ℕ) (place : ℕ) (bytes : List ℕ) → 256 ≤ length old → place + length bytes ≤ 256 → StandsBehind old row → StandsBehind old (overwrite row place bytes)
behind_stands old row place bytes enough within stands =
    let size = stands.size in
    let fits : place + length bytes ≤ length row = omega (arith, size) in
    let same = length-overwrite row place bytes fits in
    let n = length row - 256 in
    record {
      size = same ∙ size;
      behind = sym (all_behind (overwrite row place bytes) 256 n (omega (arith, same))) ∙ bytes_at-overwrite_above row place bytes 256 n within (omega (arith, size)) fits ∙ all_behind row 256 n (omega arith) ∙ stands.behind;
    }

pub keeps_more : (old row : List ℕ) (place : ℕ) (bytes : List ℕ) → 256 ≤ length old → 115 ≤ place → place + length bytes ≤ 256 → KeepsFirst old row → KeepsFirst old (overwrite row place bytes)
keeps_more old row place bytes enough after within keeps = record {
  stands = behind_stands old row place bytes enough within keeps.stands;
  front = bytes_at-overwrite_below row place bytes 0 115 after (let size = keeps.stands.size in omega (arith, size)) ∙ keeps.front;
}

module _ (old new : List ℕ) (same : bytes_at new 0 115 ≡ bytes_at old 0 115) where
  part_same : (at n : ℕ) → at + n ≤ 115 → bytes_at new at n ≡ bytes_at old at n
  part_same at n within =
      let here : 0 + at ≡ at = omega arith in
      ap (λ k. bytes_at new k n) (sym here) ∙ sym (bytes_at-bytes_at new 0 115 at n within) ∙ ap (λ (l : List ℕ). bytes_at l at n) same ∙ bytes_at-bytes_at old 0 115 at n within ∙ ap (λ k. bytes_at old k n) here

  byte_same : (k : ℕ) → k < 115 → get_or new k 0 ≡ get_or old k 0
  byte_same k below =
      let here : 0 + k ≡ k = omega arith in
      ap (λ j. get_or new j 0) (sym here) ∙ sym (get_or-bytes_at new 0 115 k 0 below) ∙ ap (λ (l : List ℕ). get_or l k 0) same ∙ get_or-bytes_at old 0 115 k 0 below ∙ ap (λ j. get_or old j 0) here

  head_first : is_first (bytes_at old 0 8) ≡ true → header_of new ≡ header_of old
  unfolding header_of
  head_first first =
      let front = part_same 0 8 (omega arith) in
      let keys = part_same 49 66 (omega arith) in
      let references : record_of (references_twin true) new ≡ record_of (references_twin true) old = ap (λ b. bytes_at new (slot_of (references_twin true) (b % 2)) 20) (byte_same 8 (omega arith)) ∙ by_slot (get_or old 8 0 % 2) (omega arith) in
      ap (λ b. header_by b new) (ap is_first front ∙ first)
      ∙ (λ i. record { front = front i; references = ap (λ (r : List ℕ). padded true r) references i; keys = keys i })
      ∙ ap (λ b. header_by b old) (sym first)
    where
      by_slot : (k : ℕ) → k < 2 → bytes_at new (slot_of (references_twin true) k) 20 ≡ bytes_at old (slot_of (references_twin true) k) 20
      by_slot zero below = part_same 9 20 (omega arith)
      by_slot (suc zero) below = part_same 29 20 (omega arith)
      by_slot (suc (suc k)) below = absurd (omega arith)

-- the slot and then the selector of layout 2
pub record SlotWritten (bytes old new : List ℕ) : Type 0 where
  pub keeps : KeepsFirst old new
  pub slot : bytes_at new 116 30 ≡ bytes

pub record SecondWritten (bytes old new : List ℕ) : Type 0 where
  pub keeps : KeepsFirst old new
  pub slot : bytes_at new 116 30 ≡ bytes
  pub selector : get_or new 115 0 ≡ 0

pub slot_written : (bytes old : List ℕ) → length bytes ≡ 30 → 256 ≤ length old → SlotWritten bytes old (overwrite old 116 bytes)
slot_written bytes old thirty enough = record {
  keeps = keeps_more old old 116 bytes enough (omega arith) (omega arith) (keeps_none old);
  slot = ap (λ n. bytes_at (overwrite old 116 bytes) 116 n) (sym thirty) ∙ bytes_at-overwrite old 116 bytes (omega arith);
}

pub second_written : (bytes old row : List ℕ) → 256 ≤ length old → SlotWritten bytes old row → SecondWritten bytes old (overwrite row 115 (0 ∷ []))
second_written bytes old row enough written =
    let size = written.keeps.stands.size in
    record {
      keeps = keeps_more old row 115 (0 ∷ []) enough (omega arith) (omega arith) written.keeps;
      slot = bytes_at-overwrite_above row 115 (0 ∷ []) 116 30 (omega arith) (omega (arith, size)) (omega (arith, size)) ∙ written.slot;
      selector = get_or-overwrite_at row 115 (0 ∷ []) 0 0 (omega arith) (omega (arith, size));
    }

pub first_kept : (bytes old new : List ℕ) → is_first (header_of old).front ≡ true → KeepsFirst old new → MayHaveReferences bytes old new
first_kept bytes old new first keeps =
    let head = head_first old new keeps.front (sym (front_of old) ∙ first) in
    record {
      stands = keeps.stands;
      mark = ap (λ (h : Header). bytes_at h.front 0 4) head;
      budget = ap (λ (h : Header). number_in h.front 6) head;
      references = inl (λ objects. ap (λ (h : Header). memory_in h objects) head);
    }

-- the version byte, whatever it is now
module _ (bytes old row : List ℕ) (x : ℕ) (enough : 256 ≤ length old) (first : is_first (header_of old).front ≡ true) (written : SecondWritten bytes old row) where
  abbrev new : List ℕ
  new = overwrite row 4 (x ∷ [])

  row_size : length row ≡ length old
  row_size = written.keeps.stands.size

  fits : 4 + length (x ∷ []) ≤ length row
  fits = omega (arith, row_size)

  above : (at n : ℕ) → 5 ≤ at → at + n ≤ 256 → bytes_at new at n ≡ bytes_at row at n
  above at n after within = bytes_at-overwrite_above row 4 (x ∷ []) at n (omega arith) (omega (arith, row_size)) fits

  byte_above : (k : ℕ) → 5 ≤ k → get_or new k 0 ≡ get_or row k 0
  byte_above k after = get_or-overwrite_above row 4 (x ∷ []) k 0 (omega arith) fits

  old_part : (at n : ℕ) → at + n ≤ 115 → bytes_at row at n ≡ bytes_at old at n
  old_part = part_same old row written.keeps.front

  old_byte : (k : ℕ) → k < 115 → get_or row k 0 ≡ get_or old k 0
  old_byte = byte_same old row written.keeps.front

  mark_stands : bytes_at (bytes_at new 0 8) 0 4 ≡ bytes_at (bytes_at old 0 8) 0 4
  mark_stands = bytes_at-bytes_at new 0 8 0 4 (omega arith) ∙ bytes_at-overwrite_below row 4 (x ∷ []) 0 4 (omega arith) fits ∙ old_part 0 4 (omega arith) ∙ sym (bytes_at-bytes_at old 0 8 0 4 (omega arith))

  front_byte : (r : List ℕ) (k : ℕ) → k < 8 → get_or (bytes_at r 0 8) k 0 ≡ get_or r k 0
  front_byte r k below = let here : 0 + k ≡ k = omega arith in get_or-bytes_at r 0 8 k 0 below ∙ ap (λ j. get_or r j 0) here

  budget_stands : number_in (bytes_at new 0 8) 6 ≡ number_in (bytes_at old 0 8) 6
  budget_stands =
      let one = front_byte new 6 (omega arith) ∙ byte_above 6 (omega arith) ∙ old_byte 6 (omega arith) ∙ sym (front_byte old 6 (omega arith)) in
      let two = front_byte new 7 (omega arith) ∙ byte_above 7 (omega arith) ∙ old_byte 7 (omega arith) ∙ sym (front_byte old 7 (omega arith)) in
      λ i. 256 * one i + two i

  version_is : get_or (bytes_at new 0 8) 4 0 ≡ x
  version_is = front_byte new 4 (omega arith) ∙ get_or-overwrite_at row 4 (x ∷ []) 0 0 (omega arith) fits

  keys_stand : bytes_at new 49 66 ≡ bytes_at old 49 66
  keys_stand = above 49 66 (omega arith) (omega arith) ∙ old_part 49 66 (omega arith)

  stands_new : StandsBehind old new
  stands_new = behind_stands old row 4 (x ∷ []) enough (omega arith) written.keeps.stands

  first_references : record_of (references_twin true) new ≡ record_of (references_twin true) old
  first_references = ap (λ b. bytes_at new (slot_of (references_twin true) (b % 2)) 20) (byte_above 8 (omega arith) ∙ old_byte 8 (omega arith)) ∙ by_slot (get_or old 8 0 % 2) (omega arith)
    where
      by_slot : (k : ℕ) → k < 2 → bytes_at new (slot_of (references_twin true) k) 20 ≡ bytes_at old (slot_of (references_twin true) k) 20
      by_slot zero below = above 9 20 (omega arith) (omega arith) ∙ old_part 9 20 (omega arith)
      by_slot (suc zero) below = above 29 20 (omega arith) (omega arith) ∙ old_part 29 20 (omega arith)
      by_slot (suc (suc k)) below = absurd (omega arith)

  second_references : record_of (references_twin false) new ≡ bytes
  second_references =
      let selector : get_or new 115 0 ≡ 0 = byte_above 115 (omega arith) ∙ written.selector in
      ap (λ b. bytes_at new (slot_of (references_twin false) (b % 2)) 30) selector ∙ above 116 30 (omega arith) (omega arith) ∙ written.slot

  parts : (b : Bool) → is_first (bytes_at new 0 8) ≡ b → (bytes_at (header_of new).front 0 4 ≡ bytes_at (header_of old).front 0 4) × (budget_of new ≡ budget_of old)
  unfolding header_of
  parts b is = (mark_stands, budget_stands)

  first_memory : is_first (bytes_at new 0 8) ≡ true → (objects : List (List ℕ)) → memory_in (header_of new) objects ≡ memory_in (header_of old) objects
  unfolding header_of
  first_memory is objects =
      ap (λ b. memory_in (header_by b new) objects) is
      ∙ (λ i. record (memory_in (record { front = bytes_at old 0 8; references = padded true (first_references i); keys = keys_stand i }) objects) { budget = budget_stands i })
      ∙ ap (λ b. memory_in (header_by b old) objects) (sym first)

  second_memory : is_first (bytes_at new 0 8) ≡ false → (objects : List (List ℕ)) → memory_in (header_of new) objects ≡ with_references bytes (memory_in (header_of old) objects)
  unfolding header_of
  second_memory is objects =
      ap (λ b. memory_in (header_by b new) objects) is
      ∙ (λ i. record (memory_in (record { front = bytes_at old 0 8; references = second_references i; keys = keys_stand i }) objects) { budget = budget_stands i })

  pub may_migrate : MayHaveReferences bytes old new
  may_migrate = by_version (is_first (bytes_at new 0 8)) refl
    where
      by_version : (b : Bool) → is_first (bytes_at new 0 8) ≡ b → MayHaveReferences bytes old new
      by_version true is = record { stands = stands_new; mark = (parts true is).0; budget = (parts true is).1; references = inl (first_memory is) }
      by_version false is = record { stands = stands_new; mark = (parts false is).0; budget = (parts false is).1; references = inr (second_memory is) }

  pub migrated : x ≡ 2 → Migrated bytes old new
  migrated two =
      let is : is_first (bytes_at new 0 8) ≡ false = ap (λ v. v % 2 == 1) (version_is ∙ two) in
      record { has = record { stands = stands_new; mark = (parts false is).0; budget = (parts false is).1; references = second_memory is }; second = front_of new ∙ is }

-- what is known before
pub record BeforeMigrating (row : List ℕ) : Type 0 where
  pub enough : 256 ≤ length row
  pub first : is_first (header_of row).front ≡ true

pub before_migrating : (told : Option (List ℕ)) → IfSome told (λ row. 1114112 ≤ length row) → IfSome told (λ row. is_first (header_of row).front ≡ true) → IfSome told BeforeMigrating
before_migrating None enough first = tt
before_migrating (Some row) enough first = record { enough = omega arith; first = first }

one_byte : (torn : List ℕ) → length torn ≡ 1 → torn ≡ get_or torn 0 0 ∷ []
one_byte [] size = absurd (omega arith)
one_byte (x ∷ []) size = refl
one_byte (x ∷ y ∷ rest) size = absurd (omega arith)

pub slot_lost : (bytes old new : List ℕ) → length bytes ≡ 30 → BeforeMigrating old → WroteAny 116 (length bytes) old new → MayHaveReferences bytes old new
slot_lost bytes old new thirty before any =
    let size = any.size in
    first_kept bytes old new before.first (subst (KeepsFirst old) (sym any.is) (keeps_more old old 116 any.torn before.enough (omega arith) (omega (arith, size, thirty)) (keeps_none old)))

pub selector_lost : (bytes old row new : List ℕ) → BeforeMigrating old → SlotWritten bytes old row → WroteAny 115 1 row new → MayHaveReferences bytes old new
selector_lost bytes old row new before written any =
    let size = any.size in
    first_kept bytes old new before.first (subst (KeepsFirst old) (sym any.is) (keeps_more old row 115 any.torn before.enough (omega arith) (omega (arith, size)) written.keeps))

pub version_lost : (bytes old row new : List ℕ) → BeforeMigrating old → SecondWritten bytes old row → WroteAny 4 1 row new → MayHaveReferences bytes old new
version_lost bytes old row new before written any =
    let is : new ≡ overwrite row 4 (get_or any.torn 0 0 ∷ []) = any.is ∙ ap (overwrite row 4) (one_byte any.torn any.size) in
    subst (MayHaveReferences bytes old) (sym is) (may_migrate bytes old row (get_or any.torn 0 0) before.enough before.first written)
