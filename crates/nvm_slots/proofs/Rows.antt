-- What the two writes of a replacement make of a row.
use Rattle.std.proofs.Common.{◌≡◌, ◌⊎◌, inl, inr, ℕ, zero, suc, ◌+◌, ◌-◌, ◌<◌, ◌≤◌, ◌%◌, List, [], ◌∷◌, length, get_or, refl, ap, sym, ◌∙◌, subst, arith}
use Rattle.std.proofs.lemmas.Bool.{cases_eq}
use Rattle.nvm_device.specs.Bytes.{bytes_at, overwrite, AreApart}
use Rattle.nvm_device.proofs.Row.{length-overwrite, get_or-overwrite_at, get_or-overwrite_apart, bytes_at-overwrite_apart, bytes_at-overwrite}
use Rattle.nvm_slots.specs.Slots.{slot_of, live, record_of, IsRecordIn, IsDisjoint, IsOutside, KeepsOutside, Replaced, ReplacedOrNot}
use Rattle.nvm_slots.specs.declared.twin.Twin.{Twin}

-- fewer places of the first range
fewer : (a n b m k : ℕ) → k ≤ n → AreApart a n b m → AreApart a k b m
fewer a n b m k le (inl before) = inl (omega arith)
fewer a n b m k le (inr after) = inr after

fewer_later : (a n b m k : ℕ) → k ≤ m → AreApart a n b m → AreApart a n b k
fewer_later a n b m k le (inl before) = inl before
fewer_later a n b m k le (inr after) = inr (omega arith)

flip : (a n b m : ℕ) → AreApart a n b m → AreApart b m a n
flip a n b m (inl before) = inr before
flip a n b m (inr after) = inl after

pub slot_in : (twin : Twin) (size : ℕ) (within : IsRecordIn size twin) (k : ℕ) → k < 2 → slot_of twin k + twin.size ≤ size
slot_in twin size within zero below = within.first_in
slot_in twin size within (suc zero) below = within.second_in
slot_in twin size within (suc (suc k)) below = absurd (omega arith)

module _ (twin : Twin) (disjoint : IsDisjoint twin) where
  selector_apart : (k : ℕ) → k < 2 → AreApart twin.selector 1 (slot_of twin k) twin.size
  selector_apart zero below = disjoint.first_apart
  selector_apart (suc zero) below = disjoint.second_apart
  selector_apart (suc (suc k)) below = absurd (omega arith)

  others_apart : (k j : ℕ) → k < 2 → j ≡ 1 - k → AreApart (slot_of twin j) twin.size (slot_of twin k) twin.size
  others_apart zero j below is = rw is (flip (slot_of twin 0) twin.size (slot_of twin 1) twin.size disjoint.slots_apart)
  others_apart (suc zero) j below is = rw is disjoint.slots_apart
  others_apart (suc (suc k)) j below is = absurd (omega arith)

  outside_apart : (at n k : ℕ) → k < 2 → IsOutside twin at n → AreApart (slot_of twin k) twin.size at n
  outside_apart at n zero below outside = outside.first
  outside_apart at n (suc zero) below outside = outside.second
  outside_apart at n (suc (suc k)) below outside = absurd (omega arith)

-- The first write: bytes into the slot that isn't live. The second: the selector.
module _ (twin : Twin) (row bytes : List ℕ) (within : IsRecordIn (length row) twin) (disjoint : IsDisjoint twin) (fits : length bytes ≤ twin.size) (other : ℕ) (is_other : other ≡ 1 - live twin row) where
  abbrev filled : List ℕ
  filled = overwrite row (slot_of twin other) bytes

  abbrev chosen : ℕ → List ℕ
  chosen byte = overwrite filled twin.selector (byte ∷ [])

  is_slot : other < 2
  is_slot = omega arith

  filled_in : slot_of twin other + length bytes ≤ length row
  filled_in = omega (arith, slot_in twin (length row) within other is_slot)

  length-filled : length filled ≡ length row
  length-filled = length-overwrite row (slot_of twin other) bytes filled_in

  chosen_in : (byte : ℕ) → twin.selector + length (byte ∷ []) ≤ length filled
  chosen_in byte = omega (arith, within.selector_in, length-filled)

  length-chosen : (byte : ℕ) → length (chosen byte) ≡ length row
  length-chosen byte = length-overwrite filled twin.selector (byte ∷ []) (chosen_in byte) ∙ length-filled

  pub keeps_filled : KeepsOutside twin row filled
  keeps_filled = record {
    size = length-filled;
    outside = λ at n in_row outside. bytes_at-overwrite_apart row (slot_of twin other) bytes at n (fewer (slot_of twin other) twin.size at n (length bytes) fits (outside_apart twin disjoint at n other is_slot outside)) in_row filled_in;
  }

  pub keeps_chosen : (byte : ℕ) → KeepsOutside twin row (chosen byte)
  keeps_chosen byte = record {
    size = length-chosen byte;
    outside = λ at n in_row outside. bytes_at-overwrite_apart filled twin.selector (byte ∷ []) at n outside.selector (omega (arith, length-filled)) (chosen_in byte) ∙ keeps_filled.outside at n in_row outside;
  }

  live-filled : live twin filled ≡ live twin row
  live-filled = ap (λ b. b % 2) (get_or-overwrite_apart row (slot_of twin other) bytes twin.selector (fewer_later twin.selector 1 (slot_of twin other) twin.size (length bytes) fits (selector_apart twin disjoint other is_slot)) filled_in)

  selector_is : (byte : ℕ) → get_or (chosen byte) twin.selector 0 ≡ byte
  selector_is byte = ap (λ k. get_or (chosen byte) k 0) (omega arith) ∙ get_or-overwrite_at filled twin.selector (byte ∷ []) 0 0 (omega arith) (chosen_in byte)

  live-chosen : (byte : ℕ) → live twin (chosen byte) ≡ byte % 2
  live-chosen byte = ap (λ b. b % 2) (selector_is byte)

  -- the slot that is live before the first write stands after it
  old_stands : (slot : ℕ) → slot ≡ live twin row → bytes_at filled (slot_of twin slot) twin.size ≡ bytes_at row (slot_of twin slot) twin.size
  old_stands slot is = bytes_at-overwrite_apart row (slot_of twin other) bytes (slot_of twin slot) twin.size (fewer (slot_of twin other) twin.size (slot_of twin slot) twin.size (length bytes) fits (others_apart twin disjoint slot other (omega arith) (omega arith))) (slot_in twin (length row) within slot (omega arith)) filled_in

  -- the selector's write leaves the slots
  slots_stand : (byte slot n : ℕ) → slot < 2 → n ≤ twin.size → bytes_at (chosen byte) (slot_of twin slot) n ≡ bytes_at filled (slot_of twin slot) n
  slots_stand byte slot n below le = bytes_at-overwrite_apart filled twin.selector (byte ∷ []) (slot_of twin slot) n (fewer_later twin.selector 1 (slot_of twin slot) twin.size n le (selector_apart twin disjoint slot below)) (omega (arith, slot_in twin (length row) within slot below, length-filled)) (chosen_in byte)

  new_stands : (byte : ℕ) → byte % 2 ≡ other → bytes_at (chosen byte) (slot_of twin (live twin (chosen byte))) (length bytes) ≡ bytes
  new_stands byte is =
      let which : live twin (chosen byte) ≡ other = live-chosen byte ∙ is in
      subst (λ slot. bytes_at (chosen byte) (slot_of twin slot) (length bytes) ≡ bytes) (sym which)
      (slots_stand byte other (length bytes) is_slot fits ∙ bytes_at-overwrite row (slot_of twin other) bytes filled_in)

  old_is_live : (byte : ℕ) → byte % 2 ≡ live twin row → record_of twin (chosen byte) ≡ record_of twin row
  old_is_live byte is =
      let which : live twin (chosen byte) ≡ live twin row = live-chosen byte ∙ is in
      subst (λ slot. bytes_at (chosen byte) (slot_of twin slot) twin.size ≡ record_of twin row) (sym which)
      (slots_stand byte (live twin row) twin.size (omega arith) (omega arith) ∙ old_stands (live twin row) refl)

  pub replaced : other % 2 ≡ other → Replaced twin bytes row (chosen other)
  replaced same = record {
    kept = keeps_chosen other;
    begins = new_stands other same;
    selector = selector_is other ∙ is_other;
    old_stands = slots_stand other (live twin row) twin.size (omega arith) (omega arith) ∙ old_stands (live twin row) refl;
  }

  pub lost_first : (wanted : List ℕ) → ReplacedOrNot twin wanted row filled
  lost_first wanted = record {
    kept = keeps_filled;
    which = inl (subst (λ slot. bytes_at filled (slot_of twin slot) twin.size ≡ record_of twin row) (sym live-filled) (old_stands (live twin row) refl));
  }

  pub lost_second : (byte : ℕ) → ReplacedOrNot twin bytes row (chosen byte)
  lost_second byte = record {
    kept = keeps_chosen byte;
    which = elim (either (byte % 2) (omega arith)) [ inl new ↦ inr (new_stands byte new) | inr old ↦ inl (old_is_live byte old) ];
  }
    where
      either : (bit : ℕ) → bit < 2 → (bit ≡ other) ⊎ (bit ≡ live twin row)
      either bit below = elim (cases_eq bit other) [ inl same ↦ inl same | inr differs ↦ inr (omega arith) ]
