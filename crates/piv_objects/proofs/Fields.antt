-- When a data field is not of the form of GET DATA or PUT DATA.
use Rattle.std.proofs.Common.{◌≡◌, ◌≢◌, ℕ, Bool, false, true≢false, Result, Ok, Err, List, [], ◌∷◌, sym, subst, ◌∙◌}
use Rattle.std.specs.Prelude.{IsTrue, ◌↔◌, IfOk}
use Rattle.ber_tlv.specs.Elements.{element, AreElements}
use Rattle.piv_objects.specs.Forms.{IsObjectTag, IsTagList, Put, Object, Discovery, IsPut, ArePartsOf, put_of}
use Rattle.piv_objects.specs.declared.put.PutFields.{PutFields}
use Rattle.piv_objects.specs.declared.malformed.Malformed.{Malformed}
use Rattle.piv_objects.proofs.Begins.{only_one, pair_one, part_first, part_only, part_second}

pub not_true : {P : Type 0} (b : Bool) → b ≡ false → IsTrue b ↔ P → ¬ P
not_true b off is p = let yes = is.1 p in absurd (true≢false (sym yes ∙ off))

pub no_tag_list : (bytes : List ℕ) → ((value : List ℕ) → ¬ AreElements bytes (element 0x5C value ∷ [])) → (tag : List ℕ) → ¬ IsTagList bytes tag
no_tag_list bytes none tag h = none tag h.0

pub bad_tag_list : (bytes tag : List ℕ) (b : Bool) → AreElements bytes (element 0x5C tag ∷ []) → b ≡ false → IsTrue b ↔ IsObjectTag tag → (other : List ℕ) → ¬ IsTagList bytes other
bad_tag_list bytes tag b h off is other k =
    not_true b off is (rw (only_one bytes 0x5C tag other h k.0) k.1)

pub no_object : (bytes : List ℕ) → ((tag value : List ℕ) → ¬ AreElements bytes (element 0x5C tag ∷ element 0x53 value ∷ [])) → (tag value : List ℕ) → ¬ IsPut bytes (Object tag value)
no_object bytes none tag value h = none tag value h.0

pub bad_object : (bytes tag value : List ℕ) (b : Bool) → AreElements bytes (element 0x5C tag ∷ element 0x53 value ∷ []) → b ≡ false → IsTrue b ↔ (IsObjectTag tag × (tag ≢ 0x7E ∷ [])) → (t v : List ℕ) → ¬ IsPut bytes (Object t v)
bad_object bytes tag value b h off is t v k =
    let same : tag ≡ t = (pair_one bytes 0x5C 0x53 tag value t v h k.0).0 in
    not_true b off is (subst (λ (x : List ℕ). IsObjectTag x × (x ≢ 0x7E ∷ [])) (sym same) (k.1, k.2))

pub no_put : (bytes : List ℕ) → ((value : List ℕ) → ¬ AreElements bytes (element 0x7E value ∷ [])) → ((tag value : List ℕ) → ¬ IsPut bytes (Object tag value)) → (put : Put) → ¬ IsPut bytes put
no_put bytes discovery object (Object tag value) h = object tag value h
no_put bytes discovery object (Discovery value) h = discovery value h

pub put_parts : (bytes : List ℕ) (put : Put) → IsPut bytes put → ArePartsOf bytes put
put_parts bytes (Object tag value) h = (part_first bytes (element 0x5C tag) h.0.0 h.0.1, part_second bytes 0x5C tag 0x53 value h.0)
put_parts bytes (Discovery value) h = part_only bytes 0x7E value h

pub if_parts : (bytes : List ℕ) (r : Result PutFields Malformed) → IfOk r (λ put. IsPut bytes (put_of put)) → IfOk r (λ put. ArePartsOf bytes (put_of put))
if_parts bytes (Ok put) h = put_parts bytes (put_of put) h
if_parts bytes (Err e) h = tt
