-- The dynamic authentication template (SP 800-73-4 part 2, GENERAL AUTHENTICATE).
use Rattle.std.specs.Prelude.{◌≡◌, ◌⊎◌, ◌==◌, if◌then◌else◌, ℕ, List, [], ◌∷◌, ◌++◌, length, Option, IfSome}
use Rattle.std.specs.Option.{option_to_list, option_copied}
use Rattle.std.specs.List.{AllByRecursion}
use Rattle.ber_tlv.specs.Elements.{Element, element, AreElements}
use Rattle.piv_model.specs.declared.command.AuthFields.{AuthFields}
use Rattle.piv_objects.specs.Forms.{IsPartOf}

-- the fields that are there, without where they lie in memory
pub record Fields : Type 0 where
  pub f80 : Option (List ℕ)
  pub f81 : Option (List ℕ)
  pub f82 : Option (List ℕ)

abbrev pub fields_of : AuthFields → Fields
fields_of fields = record {
  f80 = option_copied fields.f80;
  f81 = option_copied fields.f81;
  f82 = option_copied fields.f82;
}

-- a Witness, a challenge or a response, of 0 or 16 bytes
pub record IsField (e : Element) : Type 0 where
  pub tag : (e.tag ≡ 0x80) ⊎ (e.tag ≡ 0x81) ⊎ (e.tag ≡ 0x82)
  pub size : (length e.value ≡ 0) ⊎ (length e.value ≡ 16)

-- the values of the elements with this tag
abbrev pub values_of : ℕ → List Element → List (List ℕ)
values_of tag [] = []
values_of tag (e ∷ es) = if e.tag == tag then e.value ∷ values_of tag es else values_of tag es

-- The elements are these fields, in any order, each at most once.
pub record AreFields (es : List Element) (fields : Fields) : Type 0 where
  pub each : AllByRecursion IsField es
  pub f80 : values_of 0x80 es ≡ option_to_list fields.f80
  pub f81 : values_of 0x81 es ≡ option_to_list fields.f81
  pub f82 : values_of 0x82 es ≡ option_to_list fields.f82

-- The bytes are these fields.
pub record Holds (bytes : List ℕ) (fields : Fields) : Type 0 where
  pub order : List Element
  pub elements : AreElements bytes order
  pub are_fields : AreFields order fields

-- One element 7C that holds the fields.
pub record IsTemplate (bytes : List ℕ) (fields : Fields) : Type 0 where
  pub inside : List ℕ
  pub template : AreElements bytes (element 0x7C inside ∷ [])
  pub holds : Holds inside fields

-- Each field that is there stands in the bytes.
pub record FieldsStandIn (bytes : List ℕ) (fields : Fields) : Type 0 where
  pub f80 : IfSome fields.f80 (IsPartOf bytes)
  pub f81 : IfSome fields.f81 (IsPartOf bytes)
  pub f82 : IfSome fields.f82 (IsPartOf bytes)

-- ---- for the code, which adds one field after the other

-- The elements, after the fields that were found, are these fields.
pub record Adds (found : Fields) (es : List Element) (fields : Fields) : Type 0 where
  pub each : AllByRecursion IsField es
  pub f80 : option_to_list found.f80 ++ values_of 0x80 es ≡ option_to_list fields.f80
  pub f81 : option_to_list found.f81 ++ values_of 0x81 es ≡ option_to_list fields.f81
  pub f82 : option_to_list found.f82 ++ values_of 0x82 es ≡ option_to_list fields.f82
