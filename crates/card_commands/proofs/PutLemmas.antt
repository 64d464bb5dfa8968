-- What PUT DATA names, by the form of its data.
use Rattle.std.proofs.Common.{◌≡◌, ◌≢◌, ◌∙◌, ℕ, Bool, true, false, List, [], ◌∷◌, Option, Some, None, length, refl, sym, ap, subst, arith}
use Rattle.std.specs.Prelude.{◌==◌, nat_le, option_and_then, position, if◌then◌else◌}
use Rattle.std.specs.Str.{bytes_eq}
use Rattle.std.proofs.lemmas.Bool.Decides.{nat_tests}
use Rattle.std.proofs.lemmas.Slice.Eq.{bytes_eq-Decides}
use Rattle.std.proofs.lemmas.List.Quantifiers.{position-Some}
use Rattle.ber_tlv.specs.Elements.{Element, AreElements, element, elements_of}
use Rattle.ber_tlv.proofs.Laws.{reads_elements}
use Rattle.piv_model.specs.Base.{Profile}
use Rattle.piv_model.specs.Forms.{is_discovery}
use Rattle.piv_model.specs.Objects.{ObjectRow, object_table, place_of, no_row}
use Rattle.piv_objects.specs.Forms.{Put, Object, Discovery, IsPut, put_of}
use Rattle.piv_objects.specs.declared.put.PutFields.{PutFields}
use Rattle.piv_objects.specs.declared.put.PutFields.TheVariants as fields
use Rattle.card_commands.specs.Asking.{put_formed}
use Rattle.piv_rules.specs.Forms.{PutForm, ObjectForm, DiscoveryForm, put_named}

abbrev formed_by : Bool → Put → Option PutForm
formed_by global (Object tag value) = Some (ObjectForm tag value)
formed_by global (Discovery value) = if is_discovery global value then Some (DiscoveryForm value) else None

pub formed-lent : (global : Bool) (put : PutFields) → formed_by global (put_of put) ≡ put_formed global put
formed-lent global (fields.Object tag value) = refl
formed-lent global (fields.Discovery value) = refl

eq-false : (x y : List ℕ) → x ≢ y → bytes_eq x y ≡ false
eq-false x y other = go (bytes_eq x y) refl
  where
    go : (b : Bool) → bytes_eq x y ≡ b → bytes_eq x y ≡ false
    go true e = absurd (other ((bytes_eq-Decides x y).0 e))
    go false e = e

pub put-named : (body : List ℕ) (put : Put) (p : Profile) → IsPut body put → option_and_then (put_named p) (elements_of body) ≡ formed_by p.has_global put
put-named body (Object tag value) p form =
    let read : elements_of body ≡ Some (element 0x5C tag ∷ element 0x53 value ∷ []) = (reads_elements body (element 0x5C tag ∷ element 0x53 value ∷ [])).1 form.0 in
    let some : nat_le 1 (length tag) ≡ true = let h = form.1.0 in grind (arith, nat_tests) in
    let few : nat_le (length tag) 3 ≡ true = let h = form.1.1 in grind (arith, nat_tests) in
    let apart : bytes_eq tag (0x7E ∷ []) ≡ false = eq-false tag (0x7E ∷ []) form.2 in
    rw read (rw (some, few, apart) refl)
put-named body (Discovery value) p form =
    let read : elements_of body ≡ Some (element 0x7E value ∷ []) = (reads_elements body (element 0x7E value ∷ [])).1 form in
    rw read refl

named-none : (body : List ℕ) (p : Profile) (list : List Element) → elements_of body ≡ Some list → ((put : Put) → ¬ IsPut body put) → put_named p list ≡ None
named-none body p [] read none = refl
named-none body p (t ∷ u ∷ w ∷ list) read none = refl
named-none body p (v ∷ []) read none = go (v.tag == 0x7E) refl
  where
    go : (a : Bool) → (v.tag == 0x7E) ≡ a → put_named p (v ∷ []) ≡ None
    go false is = rw is refl
    go true is =
        let tagged : v.tag ≡ 0x7E = grind (arith, nat_tests) in
        let are : AreElements body (v ∷ []) = (reads_elements body (v ∷ [])).0 read in
        absurd (none (Discovery v.value) (let P : ℕ → Type 0 = λ n. AreElements body (element n v.value ∷ []) in subst P tagged are))
named-none body p (t ∷ v ∷ []) read none =
    go (t.tag == 0x5C) (nat_le 1 (length t.value)) (nat_le (length t.value) 3) (v.tag == 0x53) (bytes_eq t.value (0x7E ∷ [])) refl refl refl refl refl
  where
    go : (a b c d e : Bool) → (t.tag == 0x5C) ≡ a → nat_le 1 (length t.value) ≡ b → nat_le (length t.value) 3 ≡ c → (v.tag == 0x53) ≡ d
        → bytes_eq t.value (0x7E ∷ []) ≡ e → put_named p (t ∷ v ∷ []) ≡ None
    go false b c d e ia ib ic id ie = rw ia refl
    go true false c d e ia ib ic id ie = rw (ia, ib) refl
    go true true false d e ia ib ic id ie = rw (ia, ib, ic) refl
    go true true true false e ia ib ic id ie = rw (ia, ib, ic, id) refl
    go true true true true true ia ib ic id ie = rw (ia, ib, ic, id, ie) refl
    go true true true true false ia ib ic id ie =
        let one : t.tag ≡ 0x5C = grind (arith, nat_tests) in
        let two : v.tag ≡ 0x53 = grind (arith, nat_tests) in
        let are : AreElements body (t ∷ v ∷ []) = (reads_elements body (t ∷ v ∷ [])).0 read in
        let first : AreElements body (element 0x5C t.value ∷ v ∷ []) = let P : ℕ → Type 0 = λ n. AreElements body (element n t.value ∷ v ∷ []) in subst P one are in
        let both : AreElements body (element 0x5C t.value ∷ element 0x53 v.value ∷ []) = let P : ℕ → Type 0 = λ n. AreElements body (element 0x5C t.value ∷ element n v.value ∷ []) in subst P two first in
        absurd (none (Object t.value v.value) (both, (grind (arith, nat_tests), grind (arith, nat_tests)), λ same. let h = (bytes_eq-Decides t.value (0x7E ∷ [])).1 same in let both_ways : true ≡ false = sym h ∙ ie in cc))

pub put-none : (body : List ℕ) (p : Profile) → ((put : Put) → ¬ IsPut body put) → option_and_then (put_named p) (elements_of body) ≡ None
put-none body p none = go (elements_of body) refl
  where
    go : (read : Option (List Element)) → elements_of body ≡ read → option_and_then (put_named p) read ≡ None
    go None is = refl
    go (Some list) is = named-none body p list is none

pub ruleset puts = (put-named, put-none)

-- place 10 has the tag 7E alone
pub place-ten : (tag : List ℕ) → tag ≢ 0x7E ∷ [] → (id : ℕ) → place_of tag ≡ Some id → (id == 10) ≡ false
unfolding place_of object_table
place-ten tag other id found = go (id == 10) refl
  where
    go : (b : Bool) → (id == 10) ≡ b → (id == 10) ≡ false
    go false e = e
    go true e =
        let ten : id ≡ 10 = grind (arith, nat_tests) in
        let at : position (λ (row : ObjectRow). bytes_eq row.tag tag) object_table ≡ Some 10 = found ∙ ap Some ten in
        let same : bytes_eq (0x7E ∷ []) tag ≡ true = (position-Some (λ (row : ObjectRow). bytes_eq row.tag tag) object_table 10 no_row at).1 in
        absurd (other (sym ((bytes_eq-Decides (0x7E ∷ []) tag).0 same)))

pub ruleset places = (place-ten)
