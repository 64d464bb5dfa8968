-- The laws about elements alone.
use Rattle.std.proofs.Common.{◌≡◌, ℕ, zero, suc, ◌<◌, ◌≤◌, List, [], ◌∷◌, ◌++◌, length, Option, Some, None, Ok, Err, refl, sym, ap, subst, ◌∙◌, inl, inr, arith}
use Rattle.std.specs.Prelude.{option_map}
use Rattle.std.proofs.lemmas.Bool.{lt-ltb, le-ltb, cases_lt}
use Rattle.std.specs.Result.{result_ok}
use Rattle.std.proofs.lemmas.List.{length-append}
use Rattle.std.proofs.lemmas.Option.{none-some, same_Some, option_and_then_some}
use Rattle.ber_tlv.specs.Elements.{Element, element, IsTag, IsLength, IsElement, BeginsWith, AreElements, element_at, read_elements, elements_of, tag_bytes, length_bytes, header_of, IsTagNumber}
use Rattle.ber_tlv.specs.Reading.{Read, parts_at}
use Rattle.ber_tlv.specs.Laws.{ReadsElements, HasOneReading, SpellsElements}
use Rattle.ber_tlv.proofs.Parts.{PartsMean, parts_mean, parts_again}

abbrev done : (ℕ × List ℕ) × List ℕ → Read (ℕ × List ℕ)
done x = Ok x

same_parts : (x y : (ℕ × List ℕ) × List ℕ) → done x ≡ done y → x ≡ y
same_parts x y e = cc

-- a tag has a byte, so what follows an element is shorter
tag_length : (tag : List ℕ) (n : ℕ) → IsTag tag n → 1 ≤ length tag
tag_length [] n h = absurd h
tag_length (a ∷ more) n h = omega arith

pub BeginsWith-shorter : (bytes : List ℕ) (e : Element) (rest : List ℕ) → BeginsWith bytes e rest → length rest < length bytes
BeginsWith-shorter bytes e rest b =
    let el = b.is_element in
    let one = tag_length el.tag e.tag el.is_tag in
    let all = ap length (b.whole ∙ ap (λ (x : List ℕ). x ++ rest) el.whole) in
    omega (arith, length-append {A = ℕ}, all)

-- what follows an element, and the element, are given by the bytes
pub BeginsWith-one : (bytes : List ℕ) (e f : Element) (rest more : List ℕ) → BeginsWith bytes e rest → BeginsWith bytes f more → (e ≡ f) × (rest ≡ more)
BeginsWith-one bytes e f rest more b d =
    let same = same_parts ((e.tag, e.value), rest) ((f.tag, f.value), more) (sym (parts_again bytes e rest b) ∙ parts_again bytes f more d) in
    (ap (λ (x : (ℕ × List ℕ) × List ℕ). element x.0.0 x.0.1) same, ap (λ (x : (ℕ × List ℕ) × List ℕ). x.1) same)

-- ---- a list of elements has one reading

element_takes : (bytes : List ℕ) (read : Read (ℕ × List ℕ)) (x : Element × List ℕ) → PartsMean bytes read → option_map (λ y. (element y.0.0 y.0.1, y.1)) (result_ok read) ≡ Some x → BeginsWith bytes x.0 x.1
element_takes bytes (Ok y) x means e = subst (λ (z : Element × List ℕ). BeginsWith bytes z.0 z.1) (same_Some (element y.0.0 y.0.1, y.1) x e) means
element_takes bytes (Err kind) x means e = absurd (none-some x e)

cons_map : {A : Type 0} (e : A) (o : Option (List A)) (list : List A) → option_map (λ es. e ∷ es) o ≡ Some list → (es : List A) × (o ≡ Some es) × (e ∷ es ≡ list)
cons_map e None list h = absurd (none-some list h)
cons_map e (Some es) list h = (es, refl, same_Some (e ∷ es) list h)

elements_take : (most : ℕ) (bytes : List ℕ) (list : List Element) → read_elements most bytes ≡ Some list → AreElements bytes list
elements_take zero [] list e = subst (AreElements []) (same_Some [] list e) refl
elements_take (suc most) [] list e = subst (AreElements []) (same_Some [] list e) refl
elements_take zero (b ∷ bytes) list e = absurd (none-some list e)
elements_take (suc most) (b ∷ bytes) list e =
    option_and_then_some (λ x. option_map (λ es. x.0 ∷ es) (read_elements most x.1)) (element_at (b ∷ bytes)) list e
    (λ x at then.
    let tail = cons_map x.0 (read_elements most x.1) list then in
    let first = element_takes (b ∷ bytes) (parts_at (b ∷ bytes)) x (parts_mean (b ∷ bytes)) at in
    subst (AreElements (b ∷ bytes)) tail.2 (x.1, first, elements_take most x.1 tail.0 tail.1))

nothing_read : (most : ℕ) → read_elements most [] ≡ Some []
nothing_read zero = refl
nothing_read (suc most) = refl

elements_again : (list : List Element) (most : ℕ) (bytes : List ℕ) → length bytes ≤ most → AreElements bytes list → read_elements most bytes ≡ Some list
elements_again [] most bytes le h = rw h (nothing_read most)
elements_again (e ∷ es) zero bytes le h = absurd (omega (arith, BeginsWith-shorter bytes e h.0 h.1))
elements_again (e ∷ es) (suc most) [] le h = absurd (omega (arith, BeginsWith-shorter [] e h.0 h.1))
elements_again (e ∷ es) (suc most) (b ∷ bytes) le h =
    let at : element_at (b ∷ bytes) ≡ Some (e, h.0) = rw (parts_again (b ∷ bytes) e h.0 h.1) refl in
    let shorter = BeginsWith-shorter (b ∷ bytes) e h.0 h.1 in
    rw (at, elements_again es most h.0 (omega arith) h.2) refl

pub reads_elements : ReadsElements
unfolding elements_of
reads_elements bytes list = (λ e. elements_take (length bytes) bytes list e, λ h. elements_again list (length bytes) bytes (omega arith) h)

pub has_one_reading : HasOneReading
has_one_reading bytes list other h k =
    same_Some list other (sym ((reads_elements bytes list).1 h) ∙ (reads_elements bytes other).1 k)

-- ---- what is spelled is the element

length_spelled : (n : ℕ) → n ≤ 65535 → IsLength (length_bytes n) n
length_spelled n le =
    elim (cases_lt n 0x80) [
      | inl lt ↦ rw (lt-ltb n 0x80 lt) (lt, refl)
      | inr ge ↦ rw (le-ltb n 0x80 ge) (elim (cases_lt n 0x100) [
        | inl lt ↦ rw (lt-ltb n 0x100 lt) (refl, refl)
        | inr big ↦ rw (le-ltb n 0x100 big) (refl, omega arith)
      ])
    ]

-- what begins with a header and goes on with a value of its length
pub header_begins : (tag : ℕ) (value : List ℕ) → IsTagNumber tag → length value ≤ 65535 → IsElement (header_of tag (length value) ++ value) (element tag value)
unfolding header_of
header_begins tag value is le = record {
  tag = tag_bytes tag;
  len = length_bytes (length value);
  is_tag = is.1;
  is_length = length_spelled (length value) le;
  most = le;
  whole = refl;
}

pub spells_elements : SpellsElements
spells_elements tag value is le = header_begins tag value is le
