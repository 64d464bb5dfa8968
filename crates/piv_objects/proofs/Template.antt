-- When a data field is no template, and where the fields of one stand.
use Rattle.std.proofs.Common.{◌≡◌, ℕ, Bool, true, false, eqb, List, [], ◌∷◌, Option, Some, None, Result, Ok, Err, refl, subst}
use Rattle.std.specs.Prelude.{IfSome, IfOk}
use Rattle.std.specs.Option.{option_to_list}
use Rattle.std.specs.List.{AllByRecursion}
use Rattle.ber_tlv.specs.Elements.{Element, element, BeginsWith, AreElements}
use Rattle.piv_model.specs.declared.command.AuthFields.{AuthFields}
use Rattle.piv_objects.specs.declared.malformed.Malformed.{Malformed}
use Rattle.piv_objects.specs.Forms.{IsPartOf}
use Rattle.piv_objects.specs.Templates.{Fields, fields_of, values_of, Holds, IsTemplate, FieldsStandIn}
use Rattle.piv_objects.proofs.Begins.{only_one, part_first, part_after, part_within, part_only}

pub no_template : (bytes : List ℕ) → ((value : List ℕ) → ¬ AreElements bytes (element 0x7C value ∷ [])) → (fields : Fields) → ¬ IsTemplate bytes fields
no_template bytes none fields h = none h.inside h.template

pub bad_template : (bytes inside : List ℕ) → AreElements bytes (element 0x7C inside ∷ []) → ((fields : Fields) → ¬ Holds inside fields) → (fields : Fields) → ¬ IsTemplate bytes fields
bad_template bytes inside is none fields h =
    none fields (subst (λ (x : List ℕ). Holds x fields) (only_one bytes 0x7C h.inside inside h.template is) h.holds)

all_after : (bytes : List ℕ) (e : Element) (rest : List ℕ) (values : List (List ℕ)) → BeginsWith bytes e rest → AllByRecursion (IsPartOf rest) values → AllByRecursion (IsPartOf bytes) values
all_after bytes e rest [] b h = tt
all_after bytes e rest (value ∷ values) b h = (part_after bytes e rest value b h.0, all_after bytes e rest values b h.1)

-- what a value adds
more_values : (bytes : List ℕ) (tag : ℕ) (e : Element) (rest : List ℕ) (es : List Element) (b : Bool) → eqb e.tag tag ≡ b → BeginsWith bytes e rest → AllByRecursion (IsPartOf bytes) (values_of tag es) → AllByRecursion (IsPartOf bytes) (values_of tag (e ∷ es))
more_values bytes tag e rest es true is b h = rw is (part_first bytes e rest b, h)
more_values bytes tag e rest es false is b h = rw is h

values_stand : (es : List Element) (bytes : List ℕ) (tag : ℕ) → AreElements bytes es → AllByRecursion (IsPartOf bytes) (values_of tag es)
values_stand [] bytes tag h = tt
values_stand (e ∷ es) bytes tag h =
    more_values bytes tag e h.0 es (eqb e.tag tag) refl h.1 (all_after bytes e h.0 (values_of tag es) h.1 (values_stand es h.0 tag h.2))

place_stands : (bytes inside : List ℕ) (o : Option (List ℕ)) → IsPartOf bytes inside → AllByRecursion (IsPartOf inside) (option_to_list o) → IfSome o (IsPartOf bytes)
place_stands bytes inside None p h = tt
place_stands bytes inside (Some value) p h = part_within bytes inside value p h.0

fields_stand : (bytes inside : List ℕ) (fields : Fields) → AreElements bytes (element 0x7C inside ∷ []) → Holds inside fields → FieldsStandIn bytes fields
fields_stand bytes inside fields is h =
    let part = part_only bytes 0x7C inside is in
    let all : (tag : ℕ) → AllByRecursion (IsPartOf inside) (values_of tag h.order) = λ tag. values_stand h.order inside tag h.elements in
    record {
      f80 = place_stands bytes inside fields.f80 part (subst (AllByRecursion (IsPartOf inside)) h.are_fields.f80 (all 0x80));
      f81 = place_stands bytes inside fields.f81 part (subst (AllByRecursion (IsPartOf inside)) h.are_fields.f81 (all 0x81));
      f82 = place_stands bytes inside fields.f82 part (subst (AllByRecursion (IsPartOf inside)) h.are_fields.f82 (all 0x82));
    }

pub if_fields_stand : (bytes inside : List ℕ) (r : Result AuthFields Malformed) → AreElements bytes (element 0x7C inside ∷ []) → IfOk r (λ fields. Holds inside (fields_of fields)) → IfOk r (λ fields. FieldsStandIn bytes (fields_of fields))
if_fields_stand bytes inside (Ok fields) is h = fields_stand bytes inside (fields_of fields) is h
if_fields_stand bytes inside (Err e) is h = tt
