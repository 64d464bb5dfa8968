-- Fields that are added one after the other.
use Rattle.std.proofs.Common.{◌≡◌, ℕ, ◌≤◌, Bool, true, false, eqb, List, [], ◌∷◌, ◌++◌, length, Option, Some, None, refl, sym, ap, ◌∙◌, arith}
use Rattle.std.specs.Option.{option_to_list}
use Rattle.std.proofs.lemmas.List.{append_assoc, length-append}
use Rattle.ber_tlv.specs.Elements.{Element}
use Rattle.piv_objects.specs.Templates.{Fields, values_of, Adds}

length_option : {A : Type 0} (o : Option A) → length (option_to_list o) ≤ 1
length_option None = omega arith
length_option (Some x) = omega arith

abbrev pub one : Element → List Element
one e = e ∷ []

-- ---- one after the other

values_more : (tag : ℕ) (e : Element) (es : List Element) (b : Bool) → eqb e.tag tag ≡ b → values_of tag (e ∷ es) ≡ values_of tag (one e) ++ values_of tag es
values_more tag e es true is = rw is refl
values_more tag e es false is = rw is refl

-- the places of one field: before, by the element, and by those after it
place_on : (tag : ℕ) (e : Element) (es : List Element) (before new after : Option (List ℕ)) → option_to_list before ++ values_of tag (one e) ≡ option_to_list new → option_to_list before ++ values_of tag (e ∷ es) ≡ option_to_list new ++ values_of tag es
place_on tag e es before new after h =
    ap (λ (x : List (List ℕ)). option_to_list before ++ x) (values_more tag e es (eqb e.tag tag) refl) ∙ sym (append_assoc (option_to_list before) (values_of tag (one e)) (values_of tag es)) ∙ ap (λ (x : List (List ℕ)). x ++ values_of tag es) h

pub Adds-then : (found : Fields) (e : Element) (next : Fields) (es : List Element) (fields : Fields) → Adds found (one e) next → Adds next es fields → Adds found (e ∷ es) fields
Adds-then found e next es fields a b = record {
  each = (a.each.0, b.each);
  f80 = place_on 0x80 e es found.f80 next.f80 fields.f80 a.f80 ∙ b.f80;
  f81 = place_on 0x81 e es found.f81 next.f81 fields.f81 a.f81 ∙ b.f81;
  f82 = place_on 0x82 e es found.f82 next.f82 fields.f82 a.f82 ∙ b.f82;
}

pub Adds-rest : (found : Fields) (e : Element) (next : Fields) (es : List Element) (fields : Fields) → Adds found (one e) next → Adds found (e ∷ es) fields → Adds next es fields
Adds-rest found e next es fields a b = record {
  each = b.each.1;
  f80 = sym (place_on 0x80 e es found.f80 next.f80 fields.f80 a.f80) ∙ b.f80;
  f81 = sym (place_on 0x81 e es found.f81 next.f81 fields.f81 a.f81) ∙ b.f81;
  f82 = sym (place_on 0x82 e es found.f82 next.f82 fields.f82 a.f82) ∙ b.f82;
}

front_of : {A : Type 0} (xs ys : List A) (o : Option A) → xs ++ ys ≡ option_to_list o → (p : Option A) × (xs ≡ option_to_list p)
front_of [] ys o e = (None, refl)
front_of (x ∷ []) ys o e = (Some x, refl)
front_of (x ∷ y ∷ xs) ys o e = absurd (omega (arith, ap length e, length_option o, length-append xs ys))

-- the place of one field by the element alone
place_first : (tag : ℕ) (e : Element) (es : List Element) (before after : Option (List ℕ)) → option_to_list before ++ values_of tag (e ∷ es) ≡ option_to_list after → (p : Option (List ℕ)) × (option_to_list before ++ values_of tag (one e) ≡ option_to_list p)
place_first tag e es before after h =
    front_of (option_to_list before ++ values_of tag (one e)) (values_of tag es) after (append_assoc (option_to_list before) (values_of tag (one e)) (values_of tag es) ∙ ap (λ (x : List (List ℕ)). option_to_list before ++ x) (sym (values_more tag e es (eqb e.tag tag) refl)) ∙ h)

pub Adds-first : (found : Fields) (e : Element) (es : List Element) (fields : Fields) → Adds found (e ∷ es) fields → (next : Fields) × Adds found (one e) next
Adds-first found e es fields a =
    let x = place_first 0x80 e es found.f80 fields.f80 a.f80 in
    let y = place_first 0x81 e es found.f81 fields.f81 a.f81 in
    let z = place_first 0x82 e es found.f82 fields.f82 a.f82 in
    (record { f80 = x.0; f81 = y.0; f82 = z.0 }, record { each = (a.each.0, tt); f80 = x.1; f81 = y.1; f82 = z.1 })
