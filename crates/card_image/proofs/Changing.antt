-- What a change of the references makes of the memory.
use Rattle.std.proofs.Common.{◌≡◌, ◌⊎◌, inl, inr, ℕ, Bool, List, Option, Some, None, Result, Ok, Err, IfSome, OnOk, OnErr, refl, ap, sym, ◌∙◌, subst, arith}
use Rattle.std.specs.Prelude.{option_map}
use Rattle.std.specs.Str.{bytes_eq}
use Rattle.power_loss.specs.Told.{Each}
use Rattle.nvm_device.specs.Device.{DeviceState}
use Rattle.nvm_slots.specs.Slots.{Kept, Cut}
use Rattle.piv_model.specs.declared.kinds.RefId.{RefId}
use Rattle.piv_model.specs.declared.kinds.RefId.TheVariants.{Pin, Puk, GlobalPin}
use Rattle.piv_model.specs.Memory.{Memory, Reference, CardKey, reference}
use Rattle.piv_model.specs.Changes.{change_reference, with_object}
use Rattle.piv_model.specs.Sound.{IsSound}
use Rattle.piv_model.specs.Stores.{StoreState, changed, IsEither, CutShort}
use Rattle.card_image.specs.Header.{Header, header_of, memory_in, with_references}
use Rattle.card_image.proofs.Heads.{first_has_none}
use Rattle.card_image.specs.Forms.{Form, IsForm}
use Rattle.card_image.specs.Images.{memory_of, budget_of, IsImage, HasKeys, store_state, HasReferences, MayHaveReferences, FitsLayout, HasObject, MayHaveObject}

pub on_either : {T E : Type 0} (r : Result T E) (A B : Type 0) → OnOk r A → OnErr r B → A ⊎ B
on_either (Ok x) A B a b = inl a
on_either (Err e) A B a b = inr b

pub maps : (f : List ℕ → Memory) (change : Memory → Memory) (R : List ℕ → List ℕ → Type 0) → ((old new : List ℕ) → R old new → f new ≡ change (f old)) → (old new : Option (List ℕ)) → Each R old new → option_map f new ≡ option_map change (option_map f old)
maps f change R is None None each = refl
maps f change R is (Some old) (Some new) each = ap Some (is old new each)
maps f change R is None (Some new) each = absurd each
maps f change R is (Some old) None each = absurd each

pub may_map : (f : List ℕ → Memory) (change : Memory → Memory) (R : List ℕ → List ℕ → Type 0) → ((old new : List ℕ) → R old new → (f new ≡ f old) ⊎ (f new ≡ change (f old))) → (old new : Option (List ℕ)) → Each R old new → (option_map f new ≡ option_map f old) ⊎ (option_map f new ≡ option_map change (option_map f old))
may_map f change R is None None each = inl refl
may_map f change R is (Some old) (Some new) each = elim (is old new each) [ inl same ↦ inl (ap Some same) | inr differs ↦ inr (ap Some differs) ]
may_map f change R is None (Some new) each = absurd each
may_map f change R is (Some old) None each = absurd each

pub stand : (R : List ℕ → List ℕ → Type 0) (P Q : List ℕ → Type 0) → ((old new : List ℕ) → P old → Q old → R old new → Q new) → (old new : Option (List ℕ)) → IfSome old P → IfSome old Q → Each R old new → IfSome new Q
stand R P Q keeps None None p image each = tt
stand R P Q keeps (Some old) (Some new) p image each = keeps old new p image each
stand R P Q keeps None (Some new) p image each = absurd each
stand R P Q keeps (Some old) None p image each = tt

-- a store's call, from what its writes make of the row
module _ (form : Form) (n : ℕ) (change : Memory → Memory) (s t : DeviceState) where
  pub changed_by : (R : List ℕ → List ℕ → Type 0) → ((old new : List ℕ) → R old new → memory_of form new ≡ change (memory_of form old)) → Kept n R s t → store_state form t ≡ changed n change (store_state form s)
  changed_by R is kept =
      let mem = maps (memory_of form) change R is s.bytes t.bytes kept.left.bytes in
      λ i. record { mem = mem i; power = kept.power i }

  pub cut_short_by : (R : List ℕ → List ℕ → Type 0) → ((old new : List ℕ) → R old new → (memory_of form new ≡ memory_of form old) ⊎ (memory_of form new ≡ change (memory_of form old))) → Cut n R s t → CutShort n change (store_state form s) (store_state form t)
  cut_short_by R is cut = record {
    left = may_map (memory_of form) change R is s.bytes t.bytes cut.left.bytes;
    rose = cut.rose;
    power = cut.power;
  }

pub size_kept : (n m : ℕ) (R S : List ℕ → List ℕ → Type 0) (s t : DeviceState) → Kept n R s t ⊎ Cut m S s t → t.size ≡ s.size
size_kept n m R S s t (inl kept) = kept.left.size
size_kept n m R S s t (inr cut) = cut.left.size

-- what a put makes of the memory
pub has_object_memory : (form : Form) (place : ℕ) (value old new : List ℕ) → HasObject form place value old new
    → memory_of form new ≡ with_object place value (memory_of form old)
has_object_memory form place value old new has =
    ap (λ (h : Header). memory_in h (form.objects_of new)) has.head ∙ ap (memory_in (header_of old)) has.objects

pub may_object_memory : (form : Form) (place : ℕ) (value old new : List ℕ) → MayHaveObject form place value old new
    → (memory_of form new ≡ memory_of form old) ⊎ (memory_of form new ≡ with_object place value (memory_of form old))
may_object_memory form place value old new may =
    let head = ap (λ (h : Header). memory_in h (form.objects_of new)) may.head in
    elim may.objects [
      | inl same ↦ inl (head ∙ ap (memory_in (header_of old)) same)
      | inr put ↦ inr (head ∙ ap (memory_in (header_of old)) put)
    ]

module _ (form : Form) (lies : IsForm form) (bytes : List ℕ) where
  references_memory : (old new : List ℕ) → HasReferences bytes old new → memory_of form new ≡ with_references bytes (memory_of form old)
  references_memory old new has = ap (memory_in (header_of new)) (lies.objects_of old new has.stands) ∙ has.references (form.objects_of old)

  may_references_memory : (old new : List ℕ) → MayHaveReferences bytes old new → (memory_of form new ≡ memory_of form old) ⊎ (memory_of form new ≡ with_references bytes (memory_of form old))
  may_references_memory old new may =
      let objects = ap (memory_in (header_of new)) (lies.objects_of old new may.stands) in
      elim may.references [ inl same ↦ inl (objects ∙ same (form.objects_of old)) | inr differs ↦ inr (objects ∙ differs (form.objects_of old)) ]

  pub references_changed : (n : ℕ) (s t : DeviceState) → Kept n (HasReferences bytes) s t → store_state form t ≡ changed n (with_references bytes) (store_state form s)
  references_changed n s t kept = changed_by form n (with_references bytes) s t (HasReferences bytes) references_memory kept

  pub references_cut : (n : ℕ) (s t : DeviceState) → Cut n (MayHaveReferences bytes) s t → CutShort n (with_references bytes) (store_state form s) (store_state form t)
  references_cut n s t cut = cut_short_by form n (with_references bytes) s t (MayHaveReferences bytes) may_references_memory cut

  references_image : (old new : List ℕ) → IsSound (with_references bytes (memory_of form old)) → IsImage form old → MayHaveReferences bytes old new → IsImage form new
  references_image old new sound image may =
      record {
        size = omega (arith, image.size, may.stands.size);
        mark = may.mark ∙ image.mark;
        objects = record {
          few = (let same = may.budget in let le = image.objects.few in omega (arith, same, le));
          are = ap (λ b. form.are_objects b new) may.budget ∙ lies.are_objects (budget_of old) old new may.stands ∙ image.objects.are;
        };
        sound = elim (may_references_memory old new may) [ inl same ↦ subst IsSound (sym same) image.sound | inr differs ↦ subst IsSound (sym differs) sound ];
      }

  pub references_stand : (n : ℕ) (s t : DeviceState) → IfSome s.bytes (λ row. IsSound (with_references bytes (memory_of form row))) → IfSome s.bytes (λ row. IsImage form row) → Kept n (HasReferences bytes) s t ⊎ Cut n (MayHaveReferences bytes) s t → IfSome t.bytes (λ row. IsImage form row)
  references_stand n s t sound image (inl kept) = stand (HasReferences bytes) (λ row. IsSound (with_references bytes (memory_of form row))) (λ row. IsImage form row) (λ old new p image has. references_image old new p image (record { stands = has.stands; mark = has.mark; budget = has.budget; references = inr has.references })) s.bytes t.bytes sound image kept.left.bytes
  references_stand n s t sound image (inr cut) = stand (MayHaveReferences bytes) (λ row. IsSound (with_references bytes (memory_of form row))) (λ row. IsImage form row) (λ old new p image may. references_image old new p image may) s.bytes t.bytes sound image cut.left.bytes

-- a change that leaves the keys
keys_stand : (own card : List ℕ) (change : Memory → Memory)
    → ((m : Memory) → (change m).admin ≡ m.admin) → ((m : Memory) → (change m).card_auth ≡ m.card_auth)
    → (old new : Option Memory) → IsEither change old new
    → IfSome old (λ m. HasKeys own card m) → IfSome new (λ m. HasKeys own card m)
keys_stand own card change admin card_auth old new either has = elim either [
  | inl same ↦ subst (λ told. IfSome told (λ m. HasKeys own card m)) (sym same) has
  | inr is ↦ subst (λ told. IfSome told (λ m. HasKeys own card m)) (sym is) (go old has)
]
  where
    go : (told : Option Memory) → IfSome told (λ m. HasKeys own card m) → IfSome (option_map change told) (λ m. HasKeys own card m)
    go None has = tt
    go (Some m) has = record {
      admin = ap (λ (k : CardKey). k.key) (admin m) ∙ has.admin;
      card_auth = ap (λ (k : CardKey). k.key) (card_auth m) ∙ has.card_auth;
    }

either_of : (n : ℕ) (change : Memory → Memory) (a b : StoreState) → (b ≡ changed n change a) ⊎ CutShort n change a b
    → IsEither change a.mem b.mem
either_of n change a b (inl is) = inr (ap (λ (s : StoreState). s.mem) is)
either_of n change a b (inr cut) = cut.left

module _ (form : Form) (is_form : IsForm form) (own card : List ℕ) (n : ℕ) (s t : DeviceState)
    (has : IfSome (store_state form s).mem (λ m. HasKeys own card m)) where
  pub references_keys : (bytes : List ℕ) → Kept n (HasReferences bytes) s t ⊎ Cut n (MayHaveReferences bytes) s t
      → IfSome (store_state form t).mem (λ m. HasKeys own card m)
  references_keys bytes done =
      keys_stand own card (with_references bytes) (λ m. refl) (λ m. refl) (store_state form s).mem (store_state form t).mem
      (either_of n (with_references bytes) (store_state form s) (store_state form t) (elim done [
        | inl kept ↦ inl (references_changed form is_form bytes n s t kept)
        | inr cut ↦ inr (references_cut form is_form bytes n s t cut)
      ])) has

  pub put_keys : (place : ℕ) (value : List ℕ) → Kept n (HasObject form place value) s t ⊎ Cut n (MayHaveObject form place value) s t
      → IfSome (store_state form t).mem (λ m. HasKeys own card m)
  put_keys place value done =
      keys_stand own card (with_object place value) (λ m. refl) (λ m. refl) (store_state form s).mem (store_state form t).mem
      (either_of n (with_object place value) (store_state form s) (store_state form t) (elim done [
        | inl kept ↦ inl (changed_by form n (with_object place value) s t (HasObject form place value) (has_object_memory form place value) kept)
        | inr cut ↦ inr (cut_short_by form n (with_object place value) s t (MayHaveObject form place value) (may_object_memory form place value) cut)
      ])) has

-- two changes of a memory that is told are one, if they are the same there
pub changed_alike : (n : ℕ) (f g : Memory → Memory) (s t : StoreState) → IfSome s.mem (λ m. f m ≡ g m) → t ≡ changed n f s → t ≡ changed n g s
changed_alike n f g s t alike is = is ∙ (λ i. record (changed n f s) { mem = (go s.mem alike) i })
  where
    go : (told : Option Memory) → IfSome told (λ m. f m ≡ g m) → option_map f told ≡ option_map g told
    go None alike = refl
    go (Some m) alike = ap Some alike

pub cut_alike : (n : ℕ) (f g : Memory → Memory) (s t : StoreState) → IfSome s.mem (λ m. f m ≡ g m) → CutShort n f s t → CutShort n g s t
cut_alike n f g s t alike cut = record {
  left = elim cut.left [ inl same ↦ inl same | inr differs ↦ inr (differs ∙ go s.mem alike) ];
  rose = cut.rose;
  power = cut.power;
}
  where
    go : (told : Option Memory) → IfSome told (λ m. f m ≡ g m) → option_map f told ≡ option_map g told
    go None alike = refl
    go (Some m) alike = ap Some alike

-- what is so of the row is so of the memory
pub on_memory : (form : Form) (P : Memory → Type 0) (told : Option (List ℕ)) → IfSome told (λ row. P (memory_of form row)) → IfSome (option_map (memory_of form) told) P
on_memory form P None p = tt
on_memory form P (Some row) p = p

-- other references were read off a row and changed
module _ (form : Form) (told : Option (List ℕ)) (old new : List ℕ) (change : Memory → Memory) (read : IfSome told (λ row. old ≡ (header_of row).references)) where
  pub alike : (P : Memory → Type 0) → IfSome (option_map (memory_of form) told) P → ((m : Memory) → with_references old m ≡ m → P m → with_references new m ≡ change m)
      → IfSome told (λ row. with_references new (memory_of form row) ≡ change (memory_of form row))
  alike P has changes = go told read has
    where
      go : (told : Option (List ℕ)) → IfSome told (λ row. old ≡ (header_of row).references) → IfSome (option_map (memory_of form) told) P → IfSome told (λ row. with_references new (memory_of form row) ≡ change (memory_of form row))
      go None read has = tt
      go (Some row) read has = changes (memory_of form row) (ap (λ (b : List ℕ). with_references b (memory_of form row)) read) has

  pub sound_there : ((m : Memory) → IsSound m → IsSound (change m)) → IfSome told (λ row. with_references new (memory_of form row) ≡ change (memory_of form row)) → IfSome told (λ row. IsImage form row)
      → IfSome told (λ row. IsSound (with_references new (memory_of form row)))
  sound_there keeps = go told
    where
      go : (told : Option (List ℕ)) → IfSome told (λ row. with_references new (memory_of form row) ≡ change (memory_of form row)) → IfSome told (λ row. IsImage form row) → IfSome told (λ row. IsSound (with_references new (memory_of form row)))
      go None same image = tt
      go (Some row) same image = subst IsSound (sym same) (keeps (memory_of form row) image.sound)

  -- a change that gives no Global PIN to a card without one
  pub fits_there : ((m : Memory) → m.global ≡ None → (change m).global ≡ None) → IfSome told (λ row. with_references new (memory_of form row) ≡ change (memory_of form row)) → IfSome told (λ row. IsImage form row)
      → IfSome told (λ row. FitsLayout new row)
  fits_there keeps = go told
    where
      go : (told : Option (List ℕ)) → IfSome told (λ row. with_references new (memory_of form row) ≡ change (memory_of form row)) → IfSome told (λ row. IsImage form row) → IfSome told (λ row. FitsLayout new row)
      go None same image = tt
      go (Some row) same image = λ first. ap (λ (m : Memory). m.global) same ∙ keeps (memory_of form row) (first_has_none row image.size first)

pub none_kept : (r : RefId) (f : Reference → Reference) (m : Memory) → m.global ≡ None → (change_reference r f m).global ≡ None
none_kept Pin f m none = none
none_kept Puk f m none = none
none_kept GlobalPin f m none = ap (λ (o : Option Reference). option_map {T = Reference} {U = Reference} f o) none

-- whether the secret is this, where a memory is told
pub matched : (form : Form) (told : Option (List ℕ)) (old : List ℕ) (b : Bool) (r : RefId) (candidate : List ℕ) → IfSome told (λ row. old ≡ (header_of row).references) → ((m : Memory) → with_references old m ≡ m → b ≡ bytes_eq candidate (reference m r).secret)
    → IfSome (option_map (memory_of form) told) (λ m. b ≡ bytes_eq candidate (reference m r).secret)
matched form None old b r candidate read is = tt
matched form (Some row) old b r candidate read is = is (memory_of form row) (ap (λ (b : List ℕ). with_references b (memory_of form row)) read)

pub any_told : (form : Form) (told : Option (List ℕ)) → IfSome (option_map (memory_of form) told) (λ m. Unit {0})
any_told form None = tt
any_told form (Some row) = tt
