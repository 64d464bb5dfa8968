-- The data objects of a PIV card: tag, object identifier, and the rule for reading on each interface
-- (SP 800-73-4 part 1, data objects and access rules; part 2, GET DATA). Never stands for the rules that
-- need the virtual contact interface.
use Rattle.std.specs.Prelude.{ℕ, List, [], ◌∷◌, ◌++◌, codes, position, Option, slice_index_or}
use Rattle.std.specs.Str.{bytes_eq}
use Rattle.piv_model.specs.declared.kinds.Interface.{Interface}
use Rattle.piv_model.specs.declared.kinds.Interface.TheVariants.{Contact, Contactless}
use Rattle.piv_model.specs.declared.kinds.Rule.{Rule}
use Rattle.piv_model.specs.declared.kinds.Rule.TheVariants.{Always, Pin, Never}

-- an object's row in the table
pub record ObjectRow : Type 0 where
  pub tag : List ℕ
  pub oid : List ℕ
  pub contact : Rule
  pub contactless : Rule

-- the arc of the PIV objects
abbrev pub piv_arc : List ℕ
piv_arc = codes "2.16.840.1.101.3.7."

abbrev pub object_row : List ℕ → List ℕ → Rule → Rule → ObjectRow
object_row tag rest contact contactless =
    record { tag = tag; oid = piv_arc ++ rest; contact = contact; contactless = contactless }

-- the tag 5F C1 and one more byte
abbrev pub long_tag : ℕ → List ℕ
long_tag last = 0x5F ∷ 0xC1 ∷ last ∷ []

-- the objects, each at its place
unfoldable pub object_table : List ObjectRow
object_table =
    (object_row (long_tag 0x07) (codes "1.219.0") Always Never)
    ∷ (object_row (long_tag 0x02) (codes "2.48.0") Always Always)
    ∷ (object_row (long_tag 0x05) (codes "2.1.1") Always Never)
    ∷ (object_row (long_tag 0x03) (codes "2.96.16") Pin Never)
    ∷ (object_row (long_tag 0x06) (codes "2.144.0") Always Never)
    ∷ (object_row (long_tag 0x08) (codes "2.96.48") Pin Never)
    ∷ (object_row (long_tag 0x01) (codes "2.5.0") Always Always)
    ∷ (object_row (long_tag 0x0A) (codes "2.1.0") Always Never)
    ∷ (object_row (long_tag 0x0B) (codes "2.1.2") Always Never)
    ∷ (object_row (long_tag 0x09) (codes "2.48.1") Pin Never)
    ∷ (object_row (0x7E ∷ []) (codes "2.96.80") Always Always)
    ∷ (object_row (long_tag 0x0C) (codes "2.96.96") Always Never)
    ∷ (object_row (long_tag 0x0D) (codes "2.16.1") Always Never)
    ∷ (object_row (long_tag 0x0E) (codes "2.16.2") Always Never)
    ∷ (object_row (long_tag 0x0F) (codes "2.16.3") Always Never)
    ∷ (object_row (long_tag 0x10) (codes "2.16.4") Always Never)
    ∷ (object_row (long_tag 0x11) (codes "2.16.5") Always Never)
    ∷ (object_row (long_tag 0x12) (codes "2.16.6") Always Never)
    ∷ (object_row (long_tag 0x13) (codes "2.16.7") Always Never)
    ∷ (object_row (long_tag 0x14) (codes "2.16.8") Always Never)
    ∷ (object_row (long_tag 0x15) (codes "2.16.9") Always Never)
    ∷ (object_row (long_tag 0x16) (codes "2.16.10") Always Never)
    ∷ (object_row (long_tag 0x17) (codes "2.16.11") Always Never)
    ∷ (object_row (long_tag 0x18) (codes "2.16.12") Always Never)
    ∷ (object_row (long_tag 0x19) (codes "2.16.13") Always Never)
    ∷ (object_row (long_tag 0x1A) (codes "2.16.14") Always Never)
    ∷ (object_row (long_tag 0x1B) (codes "2.16.15") Always Never)
    ∷ (object_row (long_tag 0x1C) (codes "2.16.16") Always Never)
    ∷ (object_row (long_tag 0x1D) (codes "2.16.17") Always Never)
    ∷ (object_row (long_tag 0x1E) (codes "2.16.18") Always Never)
    ∷ (object_row (long_tag 0x1F) (codes "2.16.19") Always Never)
    ∷ (object_row (long_tag 0x20) (codes "2.16.20") Always Never)
    ∷ (object_row (long_tag 0x21) (codes "2.16.21") Pin Never)
    ∷ []

-- the place of the Discovery Object
abbrev pub discovery_place : ℕ
discovery_place = 10

-- the place of the object with this tag
unfoldable pub place_of : List ℕ → Option ℕ
place_of tag = position (λ (row : ObjectRow). bytes_eq row.tag tag) object_table

-- the place of the object with this identifier, as text
unfoldable pub place_of_oid : List ℕ → Option ℕ
place_of_oid oid = position (λ (row : ObjectRow). bytes_eq row.oid oid) object_table

-- no object: nobody may read it
abbrev pub no_row : ObjectRow
no_row = record { tag = []; oid = []; contact = Never; contactless = Never }

-- the row of a place
unfoldable pub row_at : ℕ → ObjectRow
row_at place = slice_index_or object_table place no_row

abbrev pub rule_in : ObjectRow → Interface → Rule
rule_in row Contact = row.contact
rule_in row Contactless = row.contactless

-- the rule for reading the object of a place
abbrev pub read_rule_of : ℕ → Interface → Rule
read_rule_of place interface = rule_in (row_at place) interface
