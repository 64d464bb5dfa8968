-- What the two writes of a replacement make of a device.
use Rattle.std.proofs.Common.{◌≡◌, ℕ, ◌-◌, ◌<◌, ◌≤◌, ◌%◌, true, false, List, [], ◌∷◌, length, slice_index, Some, None, IfSome, refl, ap, sym, ◌∙◌, subst, arith}
use Rattle.std.specs.declared.option.Option.{Option}
use Rattle.std.specs.Option.{option_map}
use Rattle.nvm_device.specs.Bytes.{overwrite}
use Rattle.power_loss.specs.Due.{is_due, due_after}
use Rattle.power_loss.specs.Told.{Rose, Each}
use Rattle.nvm_device.specs.Device.{DeviceState, written, Torn}
use Rattle.nvm_slots.specs.Slots.{slot_of, live, IsRecordIn, IsDisjoint, Replaced, ReplacedOrNot, Kept, Cut}
use Rattle.nvm_slots.specs.declared.twin.Twin.{Twin}
use Rattle.power_loss.proofs.DueLaws.{told_after-after, told_after-lost}
use Rattle.nvm_slots.proofs.Rows.{replaced, lost_first, lost_second}

one_byte : (bytes : List ℕ) → length bytes ≡ 1 → (byte : ℕ) × (bytes ≡ byte ∷ [])
one_byte [] is = absurd (omega arith)
one_byte (b ∷ []) is = (b, refl)
one_byte (b ∷ c ∷ bytes) is = absurd (omega arith)

module _ (twin : Twin) (bytes : List ℕ) (size : ℕ) (within : IsRecordIn size twin) (disjoint : IsDisjoint twin) (fits : length bytes ≤ twin.size) (other : ℕ) (below : other < 2) where
  rows_replaced : (told : Option (List ℕ)) → IfSome told (λ row. length row ≡ size) → IfSome told (λ row. other ≡ 1 - live twin row)
      → Each (Replaced twin bytes) told (option_map (λ row. overwrite row twin.selector (other ∷ [])) (option_map (λ row. overwrite row (slot_of twin other) bytes) told))
  rows_replaced None is at = tt
  rows_replaced (Some row) is at = replaced twin row bytes (subst (λ n. IsRecordIn n twin) (sym is) within) disjoint fits other at (omega arith)

  rows_lost_first : (told : Option (List ℕ)) (torn : List ℕ) → length torn ≡ length bytes → IfSome told (λ row. length row ≡ size) → IfSome told (λ row. other ≡ 1 - live twin row)
      → Each (ReplacedOrNot twin bytes) told (option_map (λ row. overwrite row (slot_of twin other) torn) told)
  rows_lost_first None torn same is at = tt
  rows_lost_first (Some row) torn same is at = lost_first twin row torn (subst (λ n. IsRecordIn n twin) (sym is) within) disjoint (omega arith) other at bytes

  rows_lost_second : (told : Option (List ℕ)) (byte : ℕ) → IfSome told (λ row. length row ≡ size) → IfSome told (λ row. other ≡ 1 - live twin row)
      → Each (ReplacedOrNot twin bytes) told (option_map (λ row. overwrite row twin.selector (byte ∷ [])) (option_map (λ row. overwrite row (slot_of twin other) bytes) told))
  rows_lost_second None byte is at = tt
  rows_lost_second (Some row) byte is at = lost_second twin row bytes (subst (λ n. IsRecordIn n twin) (sym is) within) disjoint fits other at byte

module _ (twin : Twin) (bytes : List ℕ) (s : DeviceState) (within : IsRecordIn s.size twin) (disjoint : IsDisjoint twin) (fits : length bytes ≤ twin.size) (other : ℕ) (below : other < 2)
    (row_size : IfSome s.bytes (λ row. length row ≡ s.size)) (is_other : IfSome s.bytes (λ row. other ≡ 1 - live twin row)) where
  pub both_written : (t u : DeviceState) → t ≡ written 1 (slot_of twin other) bytes s → u ≡ written 1 twin.selector (other ∷ []) t → IfSome s.power.due (λ due. is_due 1 due ≡ false) → Kept 2 (Replaced twin bytes) s u
  both_written t u is_t is_u kept =
      subst (λ v. Kept 2 (Replaced twin bytes) s v) (sym (is_u ∙ ap (λ v. written 1 twin.selector (other ∷ []) v) is_t)) record {
        left = record { size = refl; bytes = rows_replaced twin bytes s.size within disjoint fits other below s.bytes row_size is_other };
        power = λ i. record s.power { due = told_after-after 1 1 s.power.due kept i };
      }

  pub first_lost : (t : DeviceState) → Torn (slot_of twin other) (length bytes) s t → IfSome s.power.due (λ due. is_due 1 due ≡ true) → Cut 2 (ReplacedOrNot twin bytes) s t
  first_lost t lost now = record {
    left = record {
      size = lost.left.size;
      bytes = subst (λ told. Each (ReplacedOrNot twin bytes) s.bytes told) (sym lost.left.bytes) (rows_lost_first twin bytes s.size within disjoint fits other below s.bytes lost.left.torn lost.left.same_size row_size is_other);
    };
    rose = lost.rose;
    power = lost.power ∙ (λ i. record s.power { on = false; losses = t.power.losses; due = told_after-lost 1 1 s.power.due now i });
  }

  pub second_lost : (t u : DeviceState) → t ≡ written 1 (slot_of twin other) bytes s → Torn twin.selector 1 t u → IfSome s.power.due (λ due. is_due 1 due ≡ false) → Cut 2 (ReplacedOrNot twin bytes) s u
  second_lost t u is_t lost kept =
      let one = one_byte lost.left.torn lost.left.same_size in
      let there : u.bytes ≡ option_map (λ row. overwrite row twin.selector (one.0 ∷ [])) (written 1 (slot_of twin other) bytes s).bytes = lost.left.bytes ∙ (λ i. option_map (λ row. overwrite row twin.selector (one.1 i)) (is_t i).bytes) in
      record {
        left = record {
          size = lost.left.size ∙ ap (λ (v : DeviceState). v.size) is_t;
          bytes = subst (λ told. Each (ReplacedOrNot twin bytes) s.bytes told) (sym there) (rows_lost_second twin bytes s.size within disjoint fits other below s.bytes one.0 row_size is_other);
        };
        rose = subst (λ (v : DeviceState). Rose v.power.losses u.power.losses) is_t lost.rose;
        power = lost.power ∙ ap (λ (v : DeviceState). record v.power { on = false; losses = u.power.losses; due = option_map (due_after 1) v.power.due }) is_t ∙ (λ i. record s.power { on = false; losses = u.power.losses; due = told_after-after 1 1 s.power.due kept i });
      }

pub other_of : (told : Option (List ℕ)) (twin : Twin) (byte : ℕ) → IfSome told (λ row. byte ≡ slice_index row twin.selector) → IfSome told (λ row. 1 - byte % 2 ≡ 1 - live twin row)
other_of None twin byte is = tt
other_of (Some row) twin byte is = ap (λ k. 1 - k % 2) is
