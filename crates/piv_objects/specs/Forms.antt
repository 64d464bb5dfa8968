-- The forms of the data fields of GET DATA and PUT DATA (SP 800-73-4 part 2).
use Rattle.std.specs.Prelude.{◌≡◌, ◌≢◌, ℕ, ◌≤◌, Bool, false, List, [], ◌∷◌, ◌++◌, length, Result, Ok, Err}
use Rattle.ber_tlv.specs.Elements.{element, AreElements}
use Rattle.piv_model.specs.Forms.{is_policy}
use Rattle.piv_objects.specs.declared.malformed.Malformed.{Malformed}
use Rattle.piv_objects.specs.declared.put.PutFields.{PutFields}
use Rattle.piv_objects.specs.declared.put.PutFields.TheVariants as lent

-- The part stands somewhere in the bytes.
abbrev pub IsPartOf : List ℕ → List ℕ → Type 0
IsPartOf bytes part = (before : List ℕ) × (after : List ℕ) × (bytes ≡ before ++ part ++ after)

-- the tag of an object has 1 to 3 bytes
abbrev pub IsObjectTag : List ℕ → Type 0
IsObjectTag tag = (1 ≤ length tag) × (length tag ≤ 3)

-- GET DATA: one element 5C with the tag of an object.
abbrev pub IsTagList : List ℕ → List ℕ → Type 0
IsTagList bytes tag = AreElements bytes (element 0x5C tag ∷ []) × IsObjectTag tag

-- a PIN usage policy was read, and a card with a Global PIN, or one without, may have it
abbrev pub is_policy_read : Bool → Result (List ℕ) Malformed → Bool
is_policy_read has_global (Ok policy) = is_policy has_global policy
is_policy_read has_global (Err _) = false

-- what PUT DATA carries
pub data Put : Type 0 where
  Object : List ℕ → List ℕ → Put
  Discovery : List ℕ → Put

abbrev pub put_of : PutFields → Put
put_of (lent.Object tag value) = Object tag.now value.now
put_of (lent.Discovery value) = Discovery value.now

-- each part stands in the bytes
abbrev pub ArePartsOf : List ℕ → Put → Type 0
ArePartsOf bytes (Object tag value) = IsPartOf bytes tag × IsPartOf bytes value
ArePartsOf bytes (Discovery value) = IsPartOf bytes value

-- PUT DATA: an element 5C with the tag of an object, which isn't that of Discovery, and then an
-- element 53 with its value; or one element 7E, the Discovery object, alone.
abbrev pub IsPut : List ℕ → Put → Type 0
IsPut bytes (Object tag value) =
    AreElements bytes (element 0x5C tag ∷ element 0x53 value ∷ [])
    × IsObjectTag tag × (tag ≢ 0x7E ∷ [])
IsPut bytes (Discovery value) = AreElements bytes (element 0x7E value ∷ [])
