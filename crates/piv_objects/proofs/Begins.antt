-- What stands in bytes that are known to be elements, and what can't.
use Rattle.std.proofs.Common.{◌≡◌, ◌≢◌, ℕ, Bool, true, false, true≢false, eqb, List, [], ◌∷◌, ◌++◌, length, Result, Ok, Err, refl, sym, ap, subst, ◌∙◌}
use Rattle.std.specs.Prelude.{OnErr}
use Rattle.std.proofs.lemmas.Bool.{eqb-true}
use Rattle.std.proofs.lemmas.List.{append_assoc, nil_from_length}
use Rattle.ber_tlv.specs.Elements.{Element, element, BeginsWith, AreElements}
use Rattle.ber_tlv.proofs.Laws.{BeginsWith-one}
use Rattle.piv_objects.specs.Forms.{IsPartOf}

-- what holds in any case holds at a fault
pub on_err : {T E P : Type 0} (r : Result T E) → P → OnErr r P
on_err (Ok x) p = tt
on_err (Err e) p = p

-- no element of another tag
pub other_tag : (bytes : List ℕ) (e : Element) (rest : List ℕ) (tag : ℕ) → BeginsWith bytes e rest → e.tag ≢ tag → (value more : List ℕ) → ¬ BeginsWith bytes (element tag value) more
other_tag bytes e rest tag b ne value more d = ne (ap (λ (x : Element). x.tag) (BeginsWith-one bytes e (element tag value) rest more b d).0)

-- what follows an element is given by the bytes
pub same_rest : (bytes : List ℕ) (e f : Element) (rest more : List ℕ) → BeginsWith bytes e rest → BeginsWith bytes f more → rest ≡ more
same_rest bytes e f rest more b d = (BeginsWith-one bytes e f rest more b d).1

pub same_value : (bytes : List ℕ) (tag : ℕ) (x y rest more : List ℕ) → BeginsWith bytes (element tag x) rest → BeginsWith bytes (element tag y) more → x ≡ y
same_value bytes tag x y rest more b d = ap (λ (e : Element). e.value) (BeginsWith-one bytes (element tag x) (element tag y) rest more b d).0

-- the value of the first element stands in the bytes
pub part_first : (bytes : List ℕ) (e : Element) (rest : List ℕ) → BeginsWith bytes e rest → IsPartOf bytes e.value
part_first bytes e rest b = let el = b.is_element in (el.tag ++ el.len, rest, b.whole ∙ ap (λ (x : List ℕ). x ++ rest) el.whole)

pub part_after : (bytes : List ℕ) (e : Element) (rest part : List ℕ) → BeginsWith bytes e rest → IsPartOf rest part → IsPartOf bytes part
part_after bytes e rest part b p = (b.front ++ p.0, p.1, b.whole ∙ ap (λ (x : List ℕ). b.front ++ x) p.2 ∙ simp append_assoc)

-- and so does what stands in a part
pub part_within : (bytes part inner : List ℕ) → IsPartOf bytes part → IsPartOf part inner → IsPartOf bytes inner
part_within bytes part inner p q = (p.0 ++ q.0, q.1 ++ p.1, p.2 ∙ ap (λ (x : List ℕ). p.0 ++ x ++ p.1) q.2 ∙ simp append_assoc)

pub part_only : (bytes : List ℕ) (tag : ℕ) (value : List ℕ) → AreElements bytes (element tag value ∷ []) → IsPartOf bytes value
part_only bytes tag value h = part_first bytes (element tag value) h.0 h.1

pub part_second : (bytes : List ℕ) (tag : ℕ) (value : List ℕ) (other : ℕ) (following : List ℕ) → AreElements bytes (element tag value ∷ element other following ∷ []) → IsPartOf bytes following
part_second bytes tag value other following h = part_after bytes (element tag value) h.0 following h.1 (part_only h.0 other following h.2)

-- ---- one element, and two

pub none_only : (bytes : List ℕ) (tag : ℕ) → ((value rest : List ℕ) → ¬ BeginsWith bytes (element tag value) rest) → (value : List ℕ) → ¬ AreElements bytes (element tag value ∷ [])
none_only bytes tag none value h = none value h.0 h.1

pub more_than_one : (bytes : List ℕ) (tag : ℕ) (x rest : List ℕ) → BeginsWith bytes (element tag x) rest → rest ≢ [] → (value : List ℕ) → ¬ AreElements bytes (element tag value ∷ [])
more_than_one bytes tag x rest b ne value h = ne (same_rest bytes (element tag x) (element tag value) rest h.0 b h.1 ∙ h.2)

pub only_one : (bytes : List ℕ) (tag : ℕ) (x y : List ℕ) → AreElements bytes (element tag x ∷ []) → AreElements bytes (element tag y ∷ []) → x ≡ y
only_one bytes tag x y h k = same_value bytes tag x y h.0 k.0 h.1 k.1

pub none_pair : (bytes : List ℕ) (one other : ℕ) → ((value rest : List ℕ) → ¬ BeginsWith bytes (element one value) rest) → (value following : List ℕ) → ¬ AreElements bytes (element one value ∷ element other following ∷ [])
none_pair bytes one other none value following h = none value h.0 h.1

pub no_second : (bytes : List ℕ) (one other : ℕ) (x rest : List ℕ) → BeginsWith bytes (element one x) rest → ((value : List ℕ) → ¬ AreElements rest (element other value ∷ [])) → (value following : List ℕ) → ¬ AreElements bytes (element one value ∷ element other following ∷ [])
no_second bytes one other x rest b none value following h =
    let same : h.0 ≡ rest = same_rest bytes (element one value) (element one x) h.0 rest h.1 b in
    none following (subst (λ (more : List ℕ). AreElements more (element other following ∷ [])) same h.2)

pub pair_one : (bytes : List ℕ) (one other : ℕ) (x y v w : List ℕ) → AreElements bytes (element one x ∷ element other y ∷ []) → AreElements bytes (element one v ∷ element other w ∷ []) → (x ≡ v) × (y ≡ w)
pair_one bytes one other x y v w h k =
    let same : k.0 ≡ h.0 = same_rest bytes (element one v) (element one x) k.0 h.0 k.1 h.1 in
    (same_value bytes one x v h.0 k.0 h.1 k.1, only_one h.0 other y w h.2 (subst (λ (more : List ℕ). AreElements more (element other w ∷ [])) same k.2))

-- a test that found bytes
pub some_left : (xs : List ℕ) (b : Bool) → b ≡ false → b ≡ eqb (length xs) 0 → xs ≢ []
some_left xs b off is e =
    let empty : eqb (length xs) 0 ≡ true = rw e refl in
    absurd (true≢false (sym empty ∙ sym is ∙ off))

pub err_ok : {A E : Type 0} (x : A) (e : E) → ◌≡◌ {A = Result A E} (Err e) (Ok x) → ⊥
err_ok x e h = cc

-- a test that found none
pub none_left : (xs : List ℕ) (b : Bool) → b ≡ true → b ≡ eqb (length xs) 0 → xs ≡ []
none_left xs b on is = nil_from_length xs (eqb-true _ _ (sym is ∙ on))
