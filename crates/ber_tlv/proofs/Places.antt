-- Where a value stands in the input, and where the cursor goes on.
use Rattle.std.proofs.Common.{◌≡◌, ℕ, ◌-◌, ◌≤◌, List, ◌++◌, length, take, drop, slice_range, Ok, sym, ap, ◌∙◌, arith}
use Rattle.std.proofs.lemmas.List.{take_at, drop_at, length-append, append_assoc, take-append-drop}
use Rattle.ber_tlv.specs.Elements.{Element, BeginsWith}
use Rattle.ber_tlv.specs.Reading.{Read, parts_at}
use Rattle.ber_tlv.proofs.Parts.{PartsMean, parts_mean}

begins_from : (bytes : List ℕ) (read : Read (ℕ × List ℕ)) (x : (ℕ × List ℕ) × List ℕ) → PartsMean bytes read → read ≡ Ok x → BeginsWith bytes (record { tag = x.0.0; value = x.0.1 }) x.1
begins_from bytes read x means e = rw e at means

-- what is read begins there
pub begins : (bytes : List ℕ) (tag : ℕ) (value rest : List ℕ) → parts_at bytes ≡ Ok ((tag, value), rest) → BeginsWith bytes (record { tag = tag; value = value }) rest
begins bytes tag value rest e = begins_from bytes (parts_at bytes) ((tag, value), rest) (parts_mean bytes) e

-- what stands before the value of the next element
pub record Stands (all value rest : List ℕ) : Type 0 where
  pub before : List ℕ
  pub whole : all ≡ before ++ (value ++ rest)

pub stands : (all bytes : List ℕ) (at : ℕ) (e : Element) (rest : List ℕ) → bytes ≡ drop at all → BeginsWith bytes e rest → Stands all e.value rest
stands all bytes at e rest is b =
    let el = b.is_element in
    record {
      before = take at all ++ (el.tag ++ el.len);
      whole = sym (take-append-drop at all) ∙ ap (λ (x : List ℕ). take at all ++ x) (sym is ∙ b.whole ∙ ap (λ (x : List ℕ). x ++ rest) el.whole) ∙ simp append_assoc;
    }

pub room_at : (all value rest : List ℕ) → Stands all value rest → length rest ≤ length all
room_at all value rest s = omega (arith, ap length s.whole, length-append {A = ℕ})

pub rest_at : (all value rest : List ℕ) → Stands all value rest → drop (length all - length rest) all ≡ rest
rest_at all value rest s =
    let e : all ≡ (s.before ++ value) ++ rest = s.whole ∙ sym (append_assoc s.before value rest) in
    let n : length (s.before ++ value) ≡ length all - length rest = omega (arith, ap length e, length-append {A = ℕ}) in
    ap (drop (length all - length rest)) e ∙ drop_at (s.before ++ value) rest (length all - length rest) n

pub value_at_place : (all value rest : List ℕ) (n : ℕ) → Stands all value rest → n ≡ length all - length rest → value ≡ slice_range all (n - length value) n
value_at_place all value rest n s is =
    let lengths = ap length s.whole in
    let before : length s.before ≡ n - length value = omega (arith, lengths, is, length-append {A = ℕ}) in
    let size : length value ≡ n - (n - length value) = omega (arith, lengths, is, length-append {A = ℕ}) in
    let after : drop (n - length value) all ≡ value ++ rest = ap (drop (n - length value)) s.whole ∙ drop_at s.before (value ++ rest) (n - length value) before in
    sym (ap (take (n - (n - length value))) after ∙ take_at value rest (n - (n - length value)) size)
