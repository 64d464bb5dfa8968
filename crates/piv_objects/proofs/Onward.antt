-- What bytes hold after the fields that were found, on the way from the first element to the end.
use Rattle.std.proofs.Common.{◌≡◌, ◌≢◌, ℕ, List, [], ◌∷◌, length, None, ap, subst, arith}
use Rattle.std.specs.Prelude.{◌↔◌}
use Rattle.std.specs.Option.{option_to_list}
use Rattle.std.proofs.lemmas.List.{append-nil}
use Rattle.ber_tlv.specs.Elements.{Element, BeginsWith, AreElements}
use Rattle.ber_tlv.specs.Faults.{NoneBegins}
use Rattle.ber_tlv.proofs.Laws.{BeginsWith-one, BeginsWith-shorter}
use Rattle.piv_objects.specs.Templates.{Fields, Holds, Adds}
use Rattle.piv_objects.proofs.Found.{one, Adds-then, Adds-rest, Adds-first}

pub record Reads (bytes : List ℕ) (found fields : Fields) : Type 0 where
  pub order : List Element
  pub elements : AreElements bytes order
  pub adds : Adds found order fields

-- no field is found yet
abbrev pub nothing : Fields
nothing = record { f80 = None; f81 = None; f82 = None }

pub Holds-Reads : (bytes : List ℕ) (fields : Fields) → Holds bytes fields ↔ Reads bytes nothing fields
Holds-Reads bytes fields = (
  λ h. record { order = h.order; elements = h.elements; adds = record { each = h.are_fields.each; f80 = h.are_fields.f80; f81 = h.are_fields.f81; f82 = h.are_fields.f82 } },
  λ h. record { order = h.order; elements = h.elements; are_fields = record { each = h.adds.each; f80 = h.adds.f80; f81 = h.adds.f81; f82 = h.adds.f82 } },
)

-- what is left where an element was read
pub record Rest (bytes : List ℕ) (e : Element) (rest : List ℕ) (found fields : Fields) : Type 0 where
  pub order : List Element
  pub elements : AreElements rest order
  pub adds : Adds found (e ∷ order) fields

rest_of : (bytes : List ℕ) (e : Element) (rest : List ℕ) (found fields : Fields) (order : List Element) → BeginsWith bytes e rest → AreElements bytes order → Adds found order fields → Rest bytes e rest found fields
rest_of bytes e rest found fields [] b elements adds = absurd (omega (arith, BeginsWith-shorter bytes e rest b, ap length elements))
rest_of bytes e rest found fields (f ∷ order) b elements adds =
    let same = BeginsWith-one bytes f e elements.0 rest elements.1 b in
    record {
      order = order;
      elements = subst (λ (x : List ℕ). AreElements x order) same.1 elements.2;
      adds = subst (λ (x : Element). Adds found (x ∷ order) fields) same.0 adds;
    }

-- one element on
pub reads_more : (bytes : List ℕ) (e : Element) (rest : List ℕ) (found next : Fields) → BeginsWith bytes e rest → Adds found (one e) next → (fields : Fields) → Reads bytes found fields ↔ Reads rest next fields
reads_more bytes e rest found next b adds fields = (
  λ h. let r = rest_of bytes e rest found fields h.order b h.elements h.adds in
      record { order = r.order; elements = r.elements; adds = Adds-rest found e next r.order fields adds r.adds },
  λ h. record { order = e ∷ h.order; elements = (rest, b, h.elements); adds = Adds-then found e next h.order fields adds h.adds },
)

-- at the end nothing is added
pub reads_end : (bytes : List ℕ) (found : Fields) → bytes ≡ [] → Reads bytes found found
reads_end bytes found e = record {
  order = [];
  elements = e;
  adds = record { each = tt; f80 = append-nil (option_to_list found.f80); f81 = append-nil (option_to_list found.f81); f82 = append-nil (option_to_list found.f82) };
}

-- nothing is read on where the next element can't be added
pub reads_no_more : (bytes : List ℕ) (e : Element) (rest : List ℕ) (found : Fields) → BeginsWith bytes e rest → ((next : Fields) → ¬ Adds found (one e) next) → (fields : Fields) → ¬ Reads bytes found fields
reads_no_more bytes e rest found b never fields h =
    let r = rest_of bytes e rest found fields h.order b h.elements h.adds in
    let first = Adds-first found e r.order fields r.adds in
    never first.0 first.1

none_reads : (bytes : List ℕ) (found fields : Fields) (order : List Element) → bytes ≢ [] → NoneBegins bytes → AreElements bytes order → ⊥
none_reads bytes found fields [] some none elements = some elements
none_reads bytes found fields (e ∷ order) some none elements = none e elements.0 elements.1

-- or where no element begins
pub reads_none : (bytes : List ℕ) (found : Fields) → bytes ≢ [] → NoneBegins bytes → (fields : Fields) → ¬ Reads bytes found fields
reads_none bytes found some none fields h = none_reads bytes found fields h.order some none h.elements
