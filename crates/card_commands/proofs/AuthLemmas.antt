-- What the fields of a dynamic authentication template mean, by the form of the data.
use Rattle.std.proofs.Common.{◌≡◌, ◌∙◌, ◌⊎◌, inl, inr, ℕ, ◌+◌, ◌≤◌, Bool, true, false, List, [], ◌∷◌, Option, Some, None, length, refl, sym, ap, subst, arith}
use Rattle.std.specs.Prelude.{◌==◌, ◌&&◌, ◌||◌, count_by, option_map, option_and_then, if◌then◌else◌}
use Rattle.std.specs.Borrow.{Bor}
use Rattle.std.specs.List.{list_all, AllByRecursion}
use Rattle.std.specs.Option.{option_to_list, option_copied}
use Rattle.std.proofs.lemmas.Bool.Decides.{nat_tests}
use Rattle.std.proofs.lemmas.List.Recursion.{is_count_by}
use Rattle.ber_tlv.specs.Elements.{Element, AreElements, element, elements_of}
use Rattle.ber_tlv.proofs.Laws.{reads_elements}
use Rattle.piv_model.specs.declared.kinds.KeyId.{KeyId}
use Rattle.piv_model.specs.declared.kinds.KeyId.TheVariants.{AdminKey, CardAuth}
use Rattle.piv_objects.specs.Templates.{Fields, values_of, AreFields, IsTemplate, IsField}
use Rattle.piv_rules.specs.Asks.{meant, auth_meant}
use Rattle.piv_rules.specs.Forms.{Field, Absent, Empty, Sixteen, field, fields_of, are_fields, is_field, stands_once}
use Rattle.auth_protocol.specs.Meant as meaning
use Rattle.card_commands.specs.Asking.{auth_of}

abbrev by : Option (List ℕ) → Field
by None = Absent
by (Some []) = Empty
by (Some (b ∷ x)) = Sixteen (b ∷ x)

by-length : (v : List ℕ) → (if length v == 0 then Empty else Sixteen v) ≡ by (Some v)
by-length [] = refl
by-length (b ∷ v) = let more : (length (b ∷ v) == 0) ≡ false = grind (arith, nat_tests) in rw more refl

find-values : (tag : ℕ) (es : List Element) (f : Option (List ℕ)) → values_of tag es ≡ option_to_list f → field tag es ≡ by f
find-values tag [] None h = refl
find-values tag [] (Some x) h = absurd (cc)
find-values tag (e ∷ es) f h = go (e.tag == tag) refl (λ g. find-values tag es f g)
  where
    some : (f : Option (List ℕ)) → e.value ∷ values_of tag es ≡ option_to_list f → (if length e.value == 0 then Empty else Sixteen e.value) ≡ by f
    some None h = absurd (cc)
    some (Some x) h = let same : e.value ≡ x = cc in by-length e.value ∙ ap (λ (v : List ℕ). by (Some v)) same

    go : (b : Bool) → (e.tag == tag) ≡ b → (values_of tag es ≡ option_to_list f → field tag es ≡ by f) → field tag (e ∷ es) ≡ by f
    go true is later = rw is (some f (rw is at h))
    go false is later = rw is (later (rw is at h))

longer : (x : List ℕ) (xs : List (List ℕ)) (b : Bool) → length (if b then x ∷ xs else xs) ≡ (if b then 1 + length xs else length xs)
longer x xs true = omega arith
longer x xs false = refl

count-values : (tag : ℕ) (es : List Element) → count_by (λ t. t.tag == tag) es ≡ length (values_of tag es)
count-values tag es =
    sym (is_count_by (λ (l : List Element). length (values_of tag l)) (λ t. t.tag == tag) refl (λ e l. longer e.value (values_of tag l) (e.tag == tag)) es)

at_most_one : (f : Option (List ℕ)) → length (option_to_list f) ≤ 1
at_most_one None = omega arith
at_most_one (Some x) = omega arith

once : (tag : ℕ) (es : List Element) (f : Option (List ℕ)) → values_of tag es ≡ option_to_list f → stands_once es tag ≡ true
once tag es f h =
    let n : count_by (λ (t : Element). t.tag == tag) es ≡ length (option_to_list f) = count-values tag es ∙ ap (λ (l : List (List ℕ)). length l) h in
    let few = at_most_one f in
    rw n (grind (arith, nat_tests))

is-field : (e : Element) → IsField e → is_field e ≡ true
is-field e h =
    let tag = h.tag in let size = h.size in grind (arith, nat_tests)

each-field : (es : List Element) → AllByRecursion IsField es → list_all is_field es ≡ true
each-field [] each = refl
each-field (e ∷ es) each = rw (is-field e each.0) (each-field es each.1)

pub template-meant : (body : List ℕ) (F : Fields) (key : KeyId) → IsTemplate body F
    → option_and_then (auth_meant key) (option_and_then fields_of (elements_of body)) ≡ meant key (by F.f80) (by F.f81) (by F.f82)
template-meant body F key form =
    let read : elements_of body ≡ Some (element 0x7C form.inside ∷ []) = (reads_elements body (element 0x7C form.inside ∷ [])).1 form.template in
    let es : List Element = form.holds.order in
    let inner : elements_of form.inside ≡ Some form.holds.order = (reads_elements form.inside form.holds.order).1 form.holds.elements in
    let a = form.holds.are_fields in
    let each : list_all is_field form.holds.order ≡ true = each-field form.holds.order a.each in
    let w : stands_once form.holds.order 0x80 ≡ true = once 0x80 form.holds.order F.f80 a.f80 in
    let x : stands_once form.holds.order 0x81 ≡ true = once 0x81 form.holds.order F.f81 a.f81 in
    let y : stands_once form.holds.order 0x82 ≡ true = once 0x82 form.holds.order F.f82 a.f82 in
    let f80 = find-values 0x80 form.holds.order F.f80 a.f80 in
    let f81 = find-values 0x81 form.holds.order F.f81 a.f81 in
    let f82 = find-values 0x82 form.holds.order F.f82 a.f82 in
    rw read (rw inner (λ i. if each i && (w i && (x i && (y i && true))) then meant key (f80 i) (f81 i) (f82 i) else None))

abbrev first_of : List (List ℕ) → Option (List ℕ)
first_of [] = None
first_of (x ∷ xs) = Some x

only-one : (l : List (List ℕ)) → length l ≤ 1 → l ≡ option_to_list (first_of l)
only-one [] few = refl
only-one (x ∷ []) few = refl
only-one (x ∷ y ∷ l) few = absurd (omega arith)

field-is : (e : Element) → is_field e ≡ true → IsField e
field-is e h = go (e.tag == 0x80) (e.tag == 0x81) (e.tag == 0x82) (length e.value == 0) (length e.value == 16) refl refl refl refl refl h
  where
    go : (a b c d f : Bool) → (e.tag == 0x80) ≡ a → (e.tag == 0x81) ≡ b → (e.tag == 0x82) ≡ c → (length e.value == 0) ≡ d → (length e.value == 16) ≡ f
        → (((a || b) || c) && (d || f)) ≡ true → IsField e
    go true b c true f ia ib ic id ig h = record { tag = inl (grind (arith, nat_tests)); size = inl (grind (arith, nat_tests)) }
    go true b c false true ia ib ic id ig h = record { tag = inl (grind (arith, nat_tests)); size = inr (grind (arith, nat_tests)) }
    go false true c true f ia ib ic id ig h = record { tag = inr (inl (grind (arith, nat_tests))); size = inl (grind (arith, nat_tests)) }
    go false true c false true ia ib ic id ig h = record { tag = inr (inl (grind (arith, nat_tests))); size = inr (grind (arith, nat_tests)) }
    go false false true true f ia ib ic id ig h = record { tag = inr (inr (grind (arith, nat_tests))); size = inl (grind (arith, nat_tests)) }
    go false false true false true ia ib ic id ig h = record { tag = inr (inr (grind (arith, nat_tests))); size = inr (grind (arith, nat_tests)) }
    go true b c false false ia ib ic id ig h = absurd (let e : false ≡ true = h in cc)
    go false true c false false ia ib ic id ig h = absurd (let e : false ≡ true = h in cc)
    go false false true false false ia ib ic id ig h = absurd (let e : false ≡ true = h in cc)
    go false false false d f ia ib ic id ig h = absurd (let e : false ≡ true = h in cc)

fields-each : (es : List Element) → list_all is_field es ≡ true → AllByRecursion IsField es
fields-each [] h = tt
fields-each (e ∷ es) h = go (is_field e) (list_all is_field es) refl refl h (λ g. fields-each es g)
  where
    go : (a b : Bool) → is_field e ≡ a → list_all is_field es ≡ b → (a && b) ≡ true → (list_all is_field es ≡ true → AllByRecursion IsField es) → AllByRecursion IsField (e ∷ es)
    go true true ia ib h later = (field-is e ia, later ib)
    go true false ia ib h later = absurd (let e : false ≡ true = h in cc)
    go false b ia ib h later = absurd (let e : false ≡ true = h in cc)

one-value : (tag : ℕ) (es : List Element) → stands_once es tag ≡ true → values_of tag es ≡ option_to_list (first_of (values_of tag es))
one-value tag es h =
    let n = count-values tag es in
    only-one (values_of tag es) (let few : count_by (λ (t : Element). t.tag == tag) es ≤ 1 = grind (arith, nat_tests) in subst (λ (k : ℕ). k ≤ 1) n few)

abbrev fields-in : List Element → Fields
fields-in es = record { f80 = first_of (values_of 0x80 es); f81 = first_of (values_of 0x81 es); f82 = first_of (values_of 0x82 es) }

are : (es : List Element) → are_fields es ≡ true → AreFields es (fields-in es)
are es h = go (list_all is_field es) (stands_once es 0x80) (stands_once es 0x81) (stands_once es 0x82) refl refl refl refl h
  where
    go : (a b c d : Bool) → list_all is_field es ≡ a → stands_once es 0x80 ≡ b → stands_once es 0x81 ≡ c → stands_once es 0x82 ≡ d
        → (a && (b && (c && (d && true)))) ≡ true → AreFields es (fields-in es)
    go true true true true ia ib ic id h = record {
      each = fields-each es ia;
      f80 = one-value 0x80 es ib;
      f81 = one-value 0x81 es ic;
      f82 = one-value 0x82 es id;
    }
    go false b c d ia ib ic id h = absurd (let e : false ≡ true = h in cc)
    go true false c d ia ib ic id h = absurd (let e : false ≡ true = h in cc)
    go true true false d ia ib ic id h = absurd (let e : false ≡ true = h in cc)
    go true true true false ia ib ic id h = absurd (let e : false ≡ true = h in cc)

pub template-none : (body : List ℕ) (key : KeyId) → ((F : Fields) → ¬ IsTemplate body F)
    → option_and_then (auth_meant key) (option_and_then fields_of (elements_of body)) ≡ None
template-none body key none = outer (elements_of body) refl
  where
    deep : (t : Element) (es : List Element) → AreElements body (t ∷ []) → t.tag ≡ 0x7C → elements_of t.value ≡ Some es
        → (b : Bool) → are_fields es ≡ b → auth_meant key es ≡ None
    deep t es whole tagged inner false is = rw is refl
    deep t es whole tagged inner true is = absurd (none (fields-in es) (record {
      inside = t.value;
      template = let P : ℕ → Type 0 = λ n. AreElements body (element n t.value ∷ []) in subst P tagged whole;
      holds = record { order = es; elements = (reads_elements t.value es).0 inner; are_fields = are es is };
    }))

    inside : (t : Element) → AreElements body (t ∷ []) → t.tag ≡ 0x7C → (read : Option (List Element)) → elements_of t.value ≡ read
        → option_and_then (auth_meant key) read ≡ None
    inside t whole tagged None is = refl
    inside t whole tagged (Some es) is = deep t es whole tagged is (are_fields es) refl

    one : (t : Element) → AreElements body (t ∷ []) → (b : Bool) → (t.tag == 0x7C) ≡ b → option_and_then (auth_meant key) (fields_of (t ∷ [])) ≡ None
    one t whole false is = rw is refl
    one t whole true is = rw is (inside t whole (grind (arith, nat_tests)) (elements_of t.value) refl)

    outer : (read : Option (List Element)) → elements_of body ≡ read → option_and_then (auth_meant key) (option_and_then fields_of read) ≡ None
    outer None is = refl
    outer (Some []) is = refl
    outer (Some (t ∷ u ∷ l)) is = refl
    outer (Some (t ∷ [])) is = one t ((reads_elements body (t ∷ [])).0 is) (t.tag == 0x7C) refl

-- what the fields ask, as the code has it
pub meant-by : (key : KeyId) (f80 f81 f82 : Option (List ℕ))
    → option_map auth_of (meaning.meant key f80 f81 f82) ≡ meant key (by f80) (by f81) (by f82)
meant-by CardAuth None None None = refl
meant-by CardAuth None None (Some []) = refl
meant-by CardAuth None None (Some (z ∷ zs)) = refl
meant-by CardAuth None (Some []) None = refl
meant-by CardAuth None (Some []) (Some []) = refl
meant-by CardAuth None (Some []) (Some (z ∷ zs)) = refl
meant-by CardAuth None (Some (y ∷ ys)) None = refl
meant-by CardAuth None (Some (y ∷ ys)) (Some []) = refl
meant-by CardAuth None (Some (y ∷ ys)) (Some (z ∷ zs)) = refl
meant-by CardAuth (Some []) None None = refl
meant-by CardAuth (Some []) None (Some []) = refl
meant-by CardAuth (Some []) None (Some (z ∷ zs)) = refl
meant-by CardAuth (Some []) (Some []) None = refl
meant-by CardAuth (Some []) (Some []) (Some []) = refl
meant-by CardAuth (Some []) (Some []) (Some (z ∷ zs)) = refl
meant-by CardAuth (Some []) (Some (y ∷ ys)) None = refl
meant-by CardAuth (Some []) (Some (y ∷ ys)) (Some []) = refl
meant-by CardAuth (Some []) (Some (y ∷ ys)) (Some (z ∷ zs)) = refl
meant-by CardAuth (Some (x ∷ xs)) None None = refl
meant-by CardAuth (Some (x ∷ xs)) None (Some []) = refl
meant-by CardAuth (Some (x ∷ xs)) None (Some (z ∷ zs)) = refl
meant-by CardAuth (Some (x ∷ xs)) (Some []) None = refl
meant-by CardAuth (Some (x ∷ xs)) (Some []) (Some []) = refl
meant-by CardAuth (Some (x ∷ xs)) (Some []) (Some (z ∷ zs)) = refl
meant-by CardAuth (Some (x ∷ xs)) (Some (y ∷ ys)) None = refl
meant-by CardAuth (Some (x ∷ xs)) (Some (y ∷ ys)) (Some []) = refl
meant-by CardAuth (Some (x ∷ xs)) (Some (y ∷ ys)) (Some (z ∷ zs)) = refl
meant-by AdminKey None None None = refl
meant-by AdminKey None None (Some []) = refl
meant-by AdminKey None None (Some (z ∷ zs)) = refl
meant-by AdminKey None (Some []) None = refl
meant-by AdminKey None (Some []) (Some []) = refl
meant-by AdminKey None (Some []) (Some (z ∷ zs)) = refl
meant-by AdminKey None (Some (y ∷ ys)) None = refl
meant-by AdminKey None (Some (y ∷ ys)) (Some []) = refl
meant-by AdminKey None (Some (y ∷ ys)) (Some (z ∷ zs)) = refl
meant-by AdminKey (Some []) None None = refl
meant-by AdminKey (Some []) None (Some []) = refl
meant-by AdminKey (Some []) None (Some (z ∷ zs)) = refl
meant-by AdminKey (Some []) (Some []) None = refl
meant-by AdminKey (Some []) (Some []) (Some []) = refl
meant-by AdminKey (Some []) (Some []) (Some (z ∷ zs)) = refl
meant-by AdminKey (Some []) (Some (y ∷ ys)) None = refl
meant-by AdminKey (Some []) (Some (y ∷ ys)) (Some []) = refl
meant-by AdminKey (Some []) (Some (y ∷ ys)) (Some (z ∷ zs)) = refl
meant-by AdminKey (Some (x ∷ xs)) None None = refl
meant-by AdminKey (Some (x ∷ xs)) None (Some []) = refl
meant-by AdminKey (Some (x ∷ xs)) None (Some (z ∷ zs)) = refl
meant-by AdminKey (Some (x ∷ xs)) (Some []) None = refl
meant-by AdminKey (Some (x ∷ xs)) (Some []) (Some []) = refl
meant-by AdminKey (Some (x ∷ xs)) (Some []) (Some (z ∷ zs)) = refl
meant-by AdminKey (Some (x ∷ xs)) (Some (y ∷ ys)) None = refl
meant-by AdminKey (Some (x ∷ xs)) (Some (y ∷ ys)) (Some []) = refl
meant-by AdminKey (Some (x ∷ xs)) (Some (y ∷ ys)) (Some (z ∷ zs)) = refl

-- each field has 0 or 16 bytes
value-size : (tag : ℕ) (es : List Element) (x : List ℕ) → AllByRecursion IsField es → values_of tag es ≡ x ∷ [] → (length x ≡ 0) ⊎ (length x ≡ 16)
value-size tag [] x each h = absurd (cc)
value-size tag (e ∷ es) x each h = go (e.tag == tag) refl (λ g. value-size tag es x each.1 g)
  where
    go : (b : Bool) → (e.tag == tag) ≡ b → (values_of tag es ≡ x ∷ [] → (length x ≡ 0) ⊎ (length x ≡ 16)) → (length x ≡ 0) ⊎ (length x ≡ 16)
    go true is later =
        let l : e.value ∷ values_of tag es ≡ x ∷ [] = rw is at h in
        let same : e.value ≡ x = cc in
        subst (λ (v : List ℕ). (length v ≡ 0) ⊎ (length v ≡ 16)) same each.0.size
    go false is later = later (rw is at h)

field-size : (tag : ℕ) (es : List Element) (o : Option (Bor (List ℕ))) → AllByRecursion IsField es → values_of tag es ≡ option_to_list (option_copied o) → meaning.HasFieldSize o
field-size tag es None each h = tt
field-size tag es (Some x) each h = value-size tag es x.now each h

pub template-sizes : (body : List ℕ) (a b c : Option (Bor (List ℕ))) → IsTemplate body (record { f80 = option_copied a; f81 = option_copied b; f82 = option_copied c })
    → meaning.HasFieldSize a × meaning.HasFieldSize b × meaning.HasFieldSize c
template-sizes body a b c form =
    let h = form.holds.are_fields in
    (field-size 0x80 form.holds.order a h.each h.f80, field-size 0x81 form.holds.order b h.each h.f81, field-size 0x82 form.holds.order c h.each h.f82)

pub ruleset sizes = (template-sizes)
