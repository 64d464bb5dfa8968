-- Reading one element: what is read begins there, what begins there is read, and each fault is where it is said.
use Rattle.std.proofs.Common.{◌≡◌, ◌≢◌, ℕ, ◌<◌, ◌≤◌, ◌-◌, List, [], ◌∷◌, ◌++◌, length, take, drop, Result, Ok, Err, refl, sym, ap, ◌∙◌, inl, inr, arith, append_assoc}
use Rattle.std.specs.Prelude.{◌↔◌}
use Rattle.std.proofs.lemmas.Bool.{lt-ltb, le-ltb, cases_lt}
use Rattle.std.proofs.lemmas.List.{take_at, drop_at, take-append-drop, length-append, length-take-le, nil_from_length, append-nil}
use Rattle.ber_tlv.specs.declared.fault.TlvKind.{TlvKind}
use Rattle.ber_tlv.specs.declared.fault.TlvKind.TheVariants.{TagLong, LengthBad, Short}
use Rattle.ber_tlv.specs.Elements.{Element, IsTag, IsLength, BeginsWith}
use Rattle.ber_tlv.specs.Faults.{HasLongTag, HasBadLength, Lacks, IsCutShort, IsFault, NoneBegins}
use Rattle.ber_tlv.specs.Reading.{Read, ◌>>=◌, tag_at, any_length_at, length_at, value_at, parts_at}
use Rattle.ber_tlv.proofs.Tags.{Takes, some_bytes, TagMeans, tag_means, tag_again, long_tag_again}
use Rattle.ber_tlv.proofs.Lengths.{LengthMeans, zeros, length-zeros, any_again, length_means, length_again, bad_length_again}

abbrev pub PartsMean : List ℕ → Read (ℕ × List ℕ) → Type 0
PartsMean bytes (Ok x) = BeginsWith bytes (record { tag = x.0.0; value = x.0.1 }) x.1
PartsMean bytes (Err TagLong) = HasLongTag bytes
PartsMean bytes (Err LengthBad) = HasBadLength bytes
PartsMean bytes (Err Short) = Lacks bytes

append_ends : (xs ys : List ℕ) → xs ++ ys ≡ [] → ys ≡ []
append_ends xs ys e = nil_from_length ys (omega (arith, ap length e, length-append xs ys))

lacks_value : (bytes rest more : List ℕ) (t n : ℕ) → Takes IsTag bytes t rest → Takes IsLength rest n more → length more < n → Lacks bytes
lacks_value bytes rest more t n tag len lt =
    let missing = zeros (n - length more) in
    let size : length (more ++ missing) ≡ n = omega (arith, length-append more missing, length-zeros (n - length more)) in
    record {
      missing = missing;
      some_missing = λ e. absurd (omega (arith, ap length e, length-zeros (n - length more)));
      tag = tag.front;
      number = t;
      len = len.front;
      value = more ++ missing;
      is_tag = tag.is;
      is_length = rw size len.is;
      whole = ap (λ (x : List ℕ). x ++ missing) (tag.whole ∙ ap (λ (x : List ℕ). tag.front ++ x) len.whole) ∙ simp append_assoc;
    }

value_means : (bytes rest more : List ℕ) (t n : ℕ) → Takes IsTag bytes t rest → Takes IsLength rest n more → n ≤ 65535 → PartsMean bytes (value_at n more >>= λ v. Ok ((t, v.0), v.1))
unfolding value_at
value_means bytes rest more t n tag len most =
    elim (cases_lt (length more) n) [
      | inl lt ↦ rw (lt-ltb (length more) n lt) (lacks_value bytes rest more t n tag len lt)
      | inr le ↦
          let size : length (take n more) ≡ n = length-take-le n more le in
          let e : bytes ≡ (tag.front ++ len.front ++ take n more) ++ drop n more = tag.whole ∙ ap (λ (x : List ℕ). tag.front ++ x) (len.whole ∙ ap (λ (x : List ℕ). len.front ++ x) (sym (take-append-drop n more))) ∙ simp append_assoc in
          rw (le-ltb (length more) n le) (record {
            front = tag.front ++ len.front ++ take n more;
            is_element = record { tag = tag.front; len = len.front; is_tag = tag.is; is_length = rw size len.is; most = omega arith; whole = refl };
            whole = e;
          })
    ]

after_tag : (bytes rest : List ℕ) (t : ℕ) (read : Read ℕ) → Takes IsTag bytes t rest → LengthMeans rest read → PartsMean bytes (read >>= λ n. value_at n.0 n.1 >>= λ v. Ok ((t, v.0), v.1))
after_tag bytes rest t (Ok x) tag means = value_means bytes rest x.1 t x.0 tag means.0 means.1
after_tag bytes rest t (Err TagLong) tag means = absurd means
after_tag bytes rest t (Err LengthBad) tag means = record { tag = tag.front; number = t; rest = rest; is_tag = tag.is; is_bad = means; whole = tag.whole }
after_tag bytes rest t (Err Short) tag means = record {
  missing = means.missing;
  some_missing = means.some_missing;
  tag = tag.front;
  number = t;
  len = means.len;
  value = means.value;
  is_tag = tag.is;
  is_length = means.is_length;
  whole = ap (λ (x : List ℕ). x ++ means.missing) tag.whole ∙ append_assoc tag.front rest means.missing ∙ ap (λ (x : List ℕ). tag.front ++ x) means.whole ∙ sym (append_assoc tag.front means.len means.value);
}

from_tag : (bytes : List ℕ) (read : Read ℕ) → TagMeans bytes read → PartsMean bytes (read >>= λ t. length_at t.1 >>= λ n. value_at n.0 n.1 >>= λ v. Ok ((t.0, v.0), v.1))
from_tag bytes (Ok x) means = after_tag bytes x.1 x.0 (length_at x.1) means (length_means x.1)
from_tag bytes (Err TagLong) means = means
from_tag bytes (Err LengthBad) means = absurd means
from_tag bytes (Err Short) means = record {
  missing = means.missing ++ 0 ∷ [];
  some_missing = λ e. some_bytes 0 [] (append_ends means.missing (0 ∷ []) e);
  tag = means.tag;
  number = means.number;
  len = 0 ∷ [];
  value = [];
  is_tag = means.is_tag;
  is_length = (omega arith, refl);
  whole = sym (append_assoc bytes means.missing (0 ∷ [])) ∙ ap (λ (x : List ℕ). x ++ 0 ∷ []) means.whole ∙ sym (append-nil (means.tag ++ 0 ∷ []));
}

pub parts_mean : (bytes : List ℕ) → PartsMean bytes (parts_at bytes)
unfolding parts_at
parts_mean bytes = from_tag bytes (tag_at bytes) (tag_means bytes)

pub parts_again : (bytes : List ℕ) (e : Element) (rest : List ℕ) → BeginsWith bytes e rest → parts_at bytes ≡ Ok ((e.tag, e.value), rest)
unfolding parts_at value_at
parts_again bytes e rest b =
    let el = b.is_element in
    let whole : bytes ≡ el.tag ++ (el.len ++ (e.value ++ rest)) = b.whole ∙ ap (λ (x : List ℕ). x ++ rest) el.whole ∙ simp append_assoc in
    let room : length e.value ≤ length (e.value ++ rest) = omega (arith, length-append e.value rest) in
    rw (whole, tag_again el.tag e.tag (el.len ++ (e.value ++ rest)) el.is_tag, length_again el.len (length e.value) (e.value ++ rest) el.is_length el.most, le-ltb (length (e.value ++ rest)) (length e.value) room, take_at e.value rest (length e.value) refl, drop_at e.value rest (length e.value) refl) refl

long_again : (bytes : List ℕ) → HasLongTag bytes → parts_at bytes ≡ Err TagLong
unfolding parts_at
long_again bytes h = rw (long_tag_again bytes h) refl

bad_again : (bytes : List ℕ) → HasBadLength bytes → parts_at bytes ≡ Err LengthBad
unfolding parts_at
bad_again bytes h = rw (h.whole, tag_again h.tag h.number h.rest h.is_tag, bad_length_again h.rest h.is_bad) refl

-- where a fault is read no element begins
pub err_none : (bytes : List ℕ) (kind : TlvKind) → parts_at bytes ≡ Err kind → NoneBegins bytes
err_none bytes kind err e rest begins =
    let again = parts_again bytes e rest begins in
    absurd cc

fault_read : (bytes : List ℕ) (kind : TlvKind) (read : Read (ℕ × List ℕ)) → bytes ≢ [] → PartsMean bytes read → parts_at bytes ≡ read → read ≡ Err kind → IsFault kind bytes
fault_read bytes kind (Ok x) some means is err = absurd cc
fault_read bytes TagLong (Err TagLong) some means is err = means
fault_read bytes LengthBad (Err TagLong) some means is err = absurd cc
fault_read bytes Short (Err TagLong) some means is err = absurd cc
fault_read bytes TagLong (Err LengthBad) some means is err = absurd cc
fault_read bytes LengthBad (Err LengthBad) some means is err = means
fault_read bytes Short (Err LengthBad) some means is err = absurd cc
fault_read bytes TagLong (Err Short) some means is err = absurd cc
fault_read bytes LengthBad (Err Short) some means is err = absurd cc
fault_read bytes Short (Err Short) some means is err = record {
  some = some;
  lacks = means;
  len = λ h. let again = bad_again bytes h in absurd cc;
}

same_read : (x y : ℕ × List ℕ) → ◌≡◌ {A = Read ℕ} (Ok x) (Ok y) → x ≡ y
same_read x y e = cc

-- what lacks bytes has all of its tag, length and value in no element
lacks_none : (bytes : List ℕ) (e : Element) (rest : List ℕ) → Lacks bytes → BeginsWith bytes e rest → ⊥
lacks_none bytes e rest l b =
    let el = b.is_element in
    let after = e.value ++ (rest ++ l.missing) in
    let one : tag_at (bytes ++ l.missing) ≡ Ok (l.number, l.len ++ l.value) = rw (l.whole, append_assoc l.tag l.len l.value) (tag_again l.tag l.number (l.len ++ l.value) l.is_tag) in
    let there : bytes ++ l.missing ≡ el.tag ++ (el.len ++ after) = ap (λ (x : List ℕ). x ++ l.missing) (b.whole ∙ ap (λ (x : List ℕ). x ++ rest) el.whole) ∙ simp append_assoc in
    let other : tag_at (bytes ++ l.missing) ≡ Ok (e.tag, el.len ++ after) = rw there (tag_again el.tag e.tag (el.len ++ after) el.is_tag) in
    let same : l.len ++ l.value ≡ el.len ++ after = ap (λ (x : ℕ × List ℕ). x.1) (same_read (l.number, l.len ++ l.value) (e.tag, el.len ++ after) (sym one ∙ other)) in
    let values = same_read (length l.value, l.value) (length e.value, after) (sym (any_again l.len (length l.value) l.value l.is_length) ∙ ap any_length_at same ∙ any_again el.len (length e.value) after el.is_length) in
    let sizes : length l.value ≡ length e.value = ap (λ (x : ℕ × List ℕ). x.0) values in
    let whole : length l.value ≡ length after = ap (λ (x : ℕ × List ℕ). length x.1) values in
    l.some_missing (nil_from_length l.missing (omega (arith, sizes, whole, length-append e.value (rest ++ l.missing), length-append rest l.missing)))

long_goes_on : (bytes more : List ℕ) → HasLongTag bytes → HasLongTag (bytes ++ more)
long_goes_on [] more h = absurd h
long_goes_on (a ∷ []) more h = absurd h
long_goes_on (a ∷ b ∷ []) more h = absurd h
long_goes_on (a ∷ b ∷ c ∷ rest) more h = h

lacks_long : (bytes : List ℕ) → Lacks bytes → HasLongTag bytes → ⊥
lacks_long bytes l h =
    let one : tag_at (bytes ++ l.missing) ≡ Ok (l.number, l.len ++ l.value) = rw (l.whole, append_assoc l.tag l.len l.value) (tag_again l.tag l.number (l.len ++ l.value) l.is_tag) in
    let other = long_tag_again (bytes ++ l.missing) (long_goes_on bytes l.missing h) in
    absurd cc

short_read : (bytes : List ℕ) (read : Read (ℕ × List ℕ)) → PartsMean bytes read → IsCutShort bytes → read ≡ Err Short
short_read bytes (Ok x) means short = absurd (lacks_none bytes (record { tag = x.0.0; value = x.0.1 }) x.1 short.lacks means)
short_read bytes (Err TagLong) means short = absurd (lacks_long bytes short.lacks means)
short_read bytes (Err LengthBad) means short = absurd (short.len means)
short_read bytes (Err Short) means short = refl

is_read : (bytes : List ℕ) (kind : TlvKind) → IsFault kind bytes → parts_at bytes ≡ Err kind
is_read bytes TagLong h = long_again bytes h
is_read bytes LengthBad h = bad_again bytes h
is_read bytes Short h = short_read bytes (parts_at bytes) (parts_mean bytes) h

-- each fault is read exactly where it is
pub fault_is : (bytes : List ℕ) (kind : TlvKind) → bytes ≢ [] → (parts_at bytes ≡ Err kind) ↔ IsFault kind bytes
fault_is bytes kind some = (λ e. fault_read bytes kind (parts_at bytes) some (parts_mean bytes) refl e, λ h. is_read bytes kind h)

-- ---- for the code

abbrev pub fails : {T : Type 0} → TlvKind → Result T TlvKind
fails kind = Err kind

ok_err : {T : Type 0} (x : T) (k : TlvKind) → ◌≡◌ {A = Result T TlvKind} (Ok x) (fails k) → ⊥
ok_err x k e = cc

same_kind : {T : Type 0} (k l : TlvKind) → ◌≡◌ {A = Result T TlvKind} (fails k) (fails l) → k ≡ l
same_kind k l e = cc

-- nothing is wrong where an element is read
pub ok_faults : {T : Type 0} (bytes : List ℕ) (read : (ℕ × List ℕ) × List ℕ) (found : T) → parts_at bytes ≡ Ok read → (k : TlvKind) → (◌≡◌ {A = Result T TlvKind} (Ok found) (fails k)) ↔ IsFault k bytes
ok_faults bytes read found e k =
    (λ same. absurd (ok_err found k same), λ h. absurd (ok_err read k (sym e ∙ is_read bytes k h)))

-- and the fault that is read is the one
pub err_faults : {T : Type 0} (bytes : List ℕ) (kind : TlvKind) → parts_at bytes ≡ fails kind → bytes ≢ [] → (k : TlvKind) → (◌≡◌ {A = Result T TlvKind} (fails kind) (fails k)) ↔ IsFault k bytes
err_faults {T} bytes kind e some k =
    (λ same. (fault_is bytes k some).0 (e ∙ ap (λ (l : TlvKind). fails l) (same_kind {T = T} kind k same)), λ h. ap (λ (l : TlvKind). fails l) (same_kind {T = (ℕ × List ℕ) × List ℕ} kind k (sym e ∙ is_read bytes k h)))
