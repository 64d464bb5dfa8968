-- A card that is given a Global PIN.
use Rattle.std.proofs.Common.{◌≡◌, ℕ, ◌≤◌, ◌<◌, Bool, true, false, List, length, take, drop, ◌&&◌, ◌||◌, ◌==◌, if◌then◌else◌, [], ◌∷◌, Option, Some, None, IfSome, IsTrue, refl, sym, subst, arith}
use Rattle.std.specs.Str.{bytes_eq}
use Rattle.std.proofs.lemmas.Bool.{and_parts}
use Rattle.std.proofs.lemmas.Bool.Decides.{nat_tests}
use Rattle.power_loss.specs.Told.{Each}
use Rattle.nvm_device.specs.Device.{DeviceState}
use Rattle.nvm_slots.specs.Slots.{Kept}
use Rattle.piv_model.specs.declared.kinds.RefId.TheVariants.{Pin, Puk, GlobalPin}
use Rattle.piv_model.specs.Memory.{Memory, Reference, stored}
use Rattle.piv_model.specs.Sound.{IsSound, may_stand, is_limited}
use Rattle.piv_model.specs.Forms.{is_pin, is_discovery, discovery_head, is_policy}
use Rattle.piv_model.specs.declared.kinds.KeyId.TheVariants.{AdminKey, CardAuth}
use Rattle.card_image.specs.Header.{header_of, is_first, with_references, with_global, full_global}
use Rattle.card_image.proofs.Heads.{first_has_none}
use Rattle.card_image.specs.Forms.{Form, IsForm}
use Rattle.card_image.specs.Images.{memory_of, IsImage, HasReferences, Migrated, layout_of}

grows : (v : List ℕ) → is_discovery false v ≡ true → is_discovery true v ≡ true
unfolding is_discovery
grows v form =
    let parts = and_parts (bytes_eq (take 16 v) discovery_head) (is_policy false (drop 16 v)) form in
    rw (parts.0) (policy (bytes_eq (drop 16 v) (0x40 ∷ 0x00 ∷ [])) parts.1)
  where
    policy : (a : Bool) → (a || (false && (bytes_eq (drop 16 v) (0x60 ∷ 0x10 ∷ []) || bytes_eq (drop 16 v) (0x60 ∷ 0x20 ∷ [])))) ≡ true → (a || (true && (bytes_eq (drop 16 v) (0x60 ∷ 0x10 ∷ []) || bytes_eq (drop 16 v) (0x60 ∷ 0x20 ∷ [])))) ≡ true
    policy true h = refl
    policy false h = cc

stands_too : (v : List ℕ) → IsTrue (may_stand false 10 v) → IsTrue (may_stand true 10 v)
stands_too v may = by_length (length v == 0) (is_discovery false v) (is_discovery true v) (grows v) may
  where
    by_length : (a b c : Bool) → (b ≡ true → c ≡ true) → (a || b) ≡ true → (a || c) ≡ true
    by_length true b c g h = refl
    by_length false b c g h = g h

sound_none : (m : Memory) → m.global ≡ None → IsSound m → IsSound (record m { global = None })
sound_none m none sound = subst (λ (o : Option Reference). IsSound (record m { global = o })) none sound

sound_some : (m : Memory) (x : Reference) → IsTrue (is_limited x) → IsTrue (is_pin x.secret) → IsSound (record m { global = None }) → IsSound (record m { global = Some x })
sound_some m x limited pin sound = record {
  limits = elim [ Pin ↦ λ h. sound.limits Pin h | Puk ↦ λ h. sound.limits Puk h | GlobalPin ↦ λ h. limited ];
  secrets = elim [ Pin ↦ λ h. sound.secrets Pin h | Puk ↦ λ h. sound.secrets Puk h | GlobalPin ↦ λ h. pin ];
  keys = elim [ AdminKey ↦ sound.keys AdminKey | CardAuth ↦ sound.keys CardAuth ];
  budget = sound.budget;
  places = sound.places;
  lengths = sound.lengths;
  room = sound.room;
  discovery = stands_too (stored m 10) sound.discovery;
}

sound_global : (m : Memory) (limit : ℕ) (secret : List ℕ) → limit ≤ 15 → (0 < limit → IsTrue (is_pin secret)) → m.global ≡ None → IsSound m → IsSound (with_global (full_global limit secret) m)
sound_global m limit secret few form none sound = by_limit (limit == 0) refl
  where
    by_limit : (b : Bool) → (limit == 0) ≡ b → IsSound (record m { global = (if b then None else Some (record { limit = limit; tries = limit; secret = secret })) })
    by_limit true is = sound_none m none sound
    by_limit false is =
        let some : 0 < limit = grind (arith, nat_tests) in
        let whole : IsTrue (is_limited (record { limit = limit; tries = limit; secret = secret })) = grind (arith, nat_tests) in
        sound_some m (record { limit = limit; tries = limit; secret = secret }) whole (form some) (sound_none m none sound)

first_layout : (row : List ℕ) → layout_of row ≡ 1 → is_first (header_of row).front ≡ true
first_layout row is = by_first (is_first (header_of row).front) (layout_of row) refl is
  where
    by_first : (b : Bool) (n : ℕ) → n ≡ (if b then 1 else 2) → n ≡ 1 → b ≡ true
    by_first true n h one = refl
    by_first false n h one = absurd (omega arith)

pub first_told : (told : Option (List ℕ)) → IfSome told (λ row. layout_of row ≡ 1) → IfSome told (λ row. is_first (header_of row).front ≡ true)
first_told None is = tt
first_told (Some row) is = first_layout row is

pub global_sound : (form : Form) (limit : ℕ) (secret new : List ℕ) (told : Option (List ℕ)) → limit ≤ 15 → (0 < limit → IsTrue (is_pin secret)) → IfSome told (λ row. layout_of row ≡ 1) → IfSome told (λ row. IsImage form row)
    → IfSome told (λ row. with_references new (memory_of form row) ≡ with_global (full_global limit secret) (memory_of form row)) → IfSome told (λ row. IsSound (with_references new (memory_of form row)))
global_sound form limit secret new None few pin first image same = tt
global_sound form limit secret new (Some row) few pin first image same = subst IsSound (sym same) (sound_global (memory_of form row) limit secret few pin (first_has_none row image.size (first_layout row first)) image.sound)

module _ (form : Form) (is_form : IsForm form) (bytes : List ℕ) (s t : DeviceState) where
  pub migrated_has : Kept 3 (Migrated bytes) s t → Kept 3 (HasReferences bytes) s t
  migrated_has kept = record { left = record { size = kept.left.size; bytes = go s.bytes t.bytes kept.left.bytes }; power = kept.power }
    where
      go : (a b : Option (List ℕ)) → Each (Migrated bytes) a b → Each (HasReferences bytes) a b
      go None None each = tt
      go (Some a) (Some b) each = each.has
      go None (Some b) each = absurd each
      go (Some a) None each = absurd each

  pub migrated_second : Kept 3 (Migrated bytes) s t → IfSome t.bytes (λ row. layout_of row ≡ 2)
  migrated_second kept = go s.bytes t.bytes kept.left.bytes
    where
      go : (a b : Option (List ℕ)) → Each (Migrated bytes) a b → IfSome b (λ row. layout_of row ≡ 2)
      go None None each = tt
      go (Some a) (Some b) each = let is = each.second in rw is refl
      go None (Some b) each = absurd each
      go (Some a) None each = absurd each
