-- The forms of what a command bears: the tag lists of GET DATA and PUT DATA, and the dynamic authentication template
-- (SP 800-73-4 part 2, GET DATA, PUT DATA and GENERAL AUTHENTICATE).
use Rattle.std.specs.Prelude.{ℕ, Bool, not, ◌&&◌, ◌||◌, ◌==◌, nat_le, List, [], ◌∷◌, length, count_by, find, Option, Some, None, if◌then◌else◌}
use Rattle.std.specs.List.{list_all}
use Rattle.std.specs.Str.{bytes_eq}
use Rattle.ber_tlv.specs.Elements.{Element, elements_of}
use Rattle.piv_model.specs.Base.{Profile}
use Rattle.piv_model.specs.Forms.{is_discovery}

-- a tag list: the element 5C with a value of 1 to 3 bytes
abbrev pub is_tag_list : Element → Bool
is_tag_list t = (t.tag == 0x5C) && nat_le 1 (length t.value) && nat_le (length t.value) 3

-- the tag that GET DATA names
abbrev pub tag_named : List Element → Option (List ℕ)
tag_named (t ∷ []) = if is_tag_list t then Some t.value else None
tag_named _ = None

-- what PUT DATA names: the Discovery Object's new value, or a tag and a value
pub data PutForm : Type 0 where
  DiscoveryForm : List ℕ → PutForm
  ObjectForm : List ℕ → List ℕ → PutForm

abbrev pub put_named : Profile → List Element → Option PutForm
put_named m (v ∷ []) = if (v.tag == 0x7E) && is_discovery m.has_global v.value then Some (DiscoveryForm v.value) else None
put_named m (t ∷ v ∷ []) =
    if is_tag_list t && (v.tag == 0x53) && not (bytes_eq t.value (0x7E ∷ []))
    then Some (ObjectForm t.value v.value) else None
put_named m _ = None

-- a field of the dynamic authentication template
pub data Field : Type 0 where
  Absent : Field
  Empty : Field
  Sixteen : List ℕ → Field

abbrev pub field_of : Option Element → Field
field_of None = Absent
field_of (Some t) = if length t.value == 0 then Empty else Sixteen t.value

abbrev pub field : ℕ → List Element → Field
field tag fields = field_of (find (λ t. t.tag == tag) fields)

-- each field is 80, 81 or 82, has 0 or 16 bytes, and stands once
abbrev pub is_field : Element → Bool
is_field t =
    ((t.tag == 0x80) || (t.tag == 0x81) || (t.tag == 0x82))
    && ((length t.value == 0) || (length t.value == 16))

abbrev pub stands_once : List Element → ℕ → Bool
stands_once fields tag = nat_le (count_by (λ t. t.tag == tag) fields) 1

abbrev pub are_fields : List Element → Bool
are_fields fields = list_all is_field fields && list_all (stands_once fields) (0x80 ∷ 0x81 ∷ 0x82 ∷ [])

-- the fields of the one element 7C
abbrev pub fields_of : List Element → Option (List Element)
fields_of (t ∷ []) = if t.tag == 0x7C then elements_of t.value else None
fields_of _ = None
