-- What a put makes of the memory, and the room for it.
use Rattle.std.proofs.Common.{◌≡◌, ◌⊎◌, inl, inr, ℕ, ◌+◌, ◌≤◌, ◌<◌, nat_le, true, false, List, length, Option, Some, None, IfSome, IsTrue, refl, ap, sym, ◌∙◌, subst, arith}
use Rattle.std.specs.Prelude.{is_some}
use Rattle.std.proofs.lemmas.Bool.{and_parts}
use Rattle.std.proofs.lemmas.Bool.Decides.{nat_tests}
use Rattle.nvm_device.specs.Bytes.{bytes_at}
use Rattle.nvm_device.specs.Device.{DeviceState}
use Rattle.nvm_slots.specs.Slots.{Kept, Cut}
use Rattle.piv_model.specs.Memory.{Memory, blocks, blocks_used, is_short, fits}
use Rattle.piv_model.proofs.Soundness.{sound_put}
use Rattle.piv_model.specs.Sound.{IsSound, may_stand}
use Rattle.card_image.specs.Header.{Header, number_in}
use Rattle.card_image.specs.Forms.{Form}
use Rattle.card_image.specs.Images.{memory_of, budget_of, IsImage, HasObject, MayHaveObject, KeepsObjects}
use Rattle.card_image.proofs.Changing.{stand, may_object_memory}

room_of : (m : Memory) (v : List ℕ) → fits m v ≡ true → blocks (length v) + blocks_used m.objects ≤ m.budget
unfolding fits
room_of m v fit = let parts = and_parts (is_short v) (nat_le (blocks (length v) + blocks_used m.objects) m.budget) fit in grind (arith, nat_tests)

pub room_told : (form : Form) (v : List ℕ) (told : Option (List ℕ)) → IfSome told (λ row. fits (memory_of form row) v ≡ true) → IfSome told (λ row. blocks (length v) + blocks_used (form.objects_of row) ≤ budget_of row)
room_told form v None fit = tt
room_told form v (Some row) fit = room_of (memory_of form row) v fit

fits_by : (m : Memory) (v : List ℕ) (n b : ℕ) → length v ≤ 16384 → n ≡ blocks_used m.objects → b ≡ m.budget → nat_le (blocks (length v) + n) b ≡ fits m v
unfolding fits
fits_by m v n b short is_n is_b =
    let first : nat_le (length v) 16384 ≡ true = grind (arith, nat_tests) in
    rw first ((λ i. nat_le (blocks (length v) + is_n i) (is_b i)))

pub room_by : (form : Form) (v : List ℕ) (own n b : ℕ) (told : Option (List ℕ)) → length v ≤ 16384 → own ≡ blocks (length v) → IfSome told (λ row. KeepsObjects form row → n ≡ blocks_used (form.objects_of row)) → IfSome told (λ row. b ≡ budget_of row)
    → IfSome told (λ row. IsImage form row → nat_le (own + n) b ≡ fits (memory_of form row) v)
room_by form v own n b None short is used budget = tt
room_by form v own n b (Some row) short is used budget = λ image. ap (λ k. nat_le (k + n) b) is ∙ fits_by (memory_of form row) v n b short (used image.objects) budget

long_one : (m : Memory) (v : List ℕ) → 16384 < length v → false ≡ fits m v
unfolding fits
long_one m v long = let first : nat_le (length v) 16384 ≡ false = grind (arith, nat_tests) in rw first refl

pub no_room : (form : Form) (v : List ℕ) (told : Option (List ℕ)) → 16384 < length v → IfSome told (λ row. IsImage form row → false ≡ fits (memory_of form row) v)
no_room form v None long = tt
no_room form v (Some row) long = λ image. long_one (memory_of form row) v long

module _ (form : Form) (place : ℕ) (value : List ℕ) where
  put_image : (old new : List ℕ) → fits (memory_of form old) value ≡ true × IsTrue (may_stand (is_some (memory_of form old).global) place value) → IsImage form old → MayHaveObject form place value old new → IsImage form new
  put_image old new fit image may = record {
    size = omega (arith, image.size, may.size);
    mark = ap (λ (h : Header). bytes_at h.front 0 4) may.head ∙ image.mark;
    objects = record {
      few = (let same = ap (λ (h : Header). number_in h.front 6) may.head in let le = image.objects.few in omega (arith, same, le));
      are = ap (λ (h : Header). form.are_objects (number_in h.front 6) new) may.head ∙ may.are;
    };
    sound = elim (may_object_memory form place value old new may) [
      | inl same ↦ subst IsSound (sym same) image.sound
      | inr put ↦ subst IsSound (sym put) (sound_put place value (memory_of form old) fit.0 fit.1 image.sound)
    ];
  }

  both : (told : Option (List ℕ)) → IfSome told (λ row. fits (memory_of form row) value ≡ true) → IfSome told (λ row. IsTrue (may_stand (is_some (memory_of form row).global) place value)) → IfSome told (λ row. fits (memory_of form row) value ≡ true × IsTrue (may_stand (is_some (memory_of form row).global) place value))
  both None fit form = tt
  both (Some row) fit form = (fit, form)

  pub put_stands : (n : ℕ) (s t : DeviceState) → IfSome s.bytes (λ row. fits (memory_of form row) value ≡ true) → IfSome s.bytes (λ row. IsTrue (may_stand (is_some (memory_of form row).global) place value)) → IfSome s.bytes (λ row. IsImage form row)
      → Kept n (HasObject form place value) s t ⊎ Cut n (MayHaveObject form place value) s t → IfSome t.bytes (λ row. IsImage form row)
  put_stands n s t fit may_be image (inl kept) = stand (HasObject form place value) (λ row. fits (memory_of form row) value ≡ true × IsTrue (may_stand (is_some (memory_of form row).global) place value)) (λ row. IsImage form row) (λ old new p image has. put_image old new p image (record { size = has.size; head = has.head; are = has.are; objects = inr has.objects })) s.bytes t.bytes (both s.bytes fit may_be) image kept.left.bytes
  put_stands n s t fit may_be image (inr cut) = stand (MayHaveObject form place value) (λ row. fits (memory_of form row) value ≡ true × IsTrue (may_stand (is_some (memory_of form row).global) place value)) (λ row. IsImage form row) (λ old new p image may. put_image old new p image may) s.bytes t.bytes (both s.bytes fit may_be) image cut.left.bytes
