-- The steps of printing.
use Rattle.std.proofs.Common.{◌≡◌, ◌<◌, ◌+◌, ℕ, List, [], ◌∷◌, ◌++◌, length, take, drop, Option, Some, Result, Ok, Err, sym, ap, ◌∙◌, subst, ◌≤◌}
use Rattle.std.specs.Prelude.{reverse}
use Rattle.std.specs.List.{flat_map, AllByRecursion}
use Rattle.std.proofs.lemmas.List.{append_assoc, append-nil, take-append-drop, take_more, take_all, reverse-append, reverse-reverse}
use Rattle.std.proofs.lemmas.List.Concat.{flat_map-append}
use Rattle.std.proofs.lemmas.Option.{get_or_from_slice_get}
use Rattle.hex.specs.Hex.{encode_upper, upper_digits}
use Rattle.piv_ports.specs.declared.sink.WriteStop.{WriteStop}
use Rattle.piv_model.specs.Entries.{CardEntry, Past}
use Rattle.piv_model.specs.Written.{at_place}
use Rattle.entry_text.specs.EntryTexts.{IsEntry, entry_line, history_text}
use Rattle.piv_ports.specs.Writes.{Writes}
use Rattle.entry_text.proofs.HexSteps.{encode_with-append}
use Rattle.piv_ports.proofs.Writing.{Writes-then, Writes-stopped}

-- a piece more is spelled
pub hex-next : {S : Type 0} (taken flushed : S → Option (List ℕ)) (faults : S → ℕ) (done piece text : List ℕ) (a b c : S) (r : Result (Unit {0}) WriteStop)
    → text ≡ encode_upper piece → Writes taken flushed faults (encode_upper done) a b (Ok tt) → Writes taken flushed faults text b c r
    → Writes taken flushed faults (encode_upper (done ++ piece)) a c r
hex-next taken flushed faults done piece text a b c r is before next =
    rw (encode_with-append upper_digits done piece, ← is) (Writes-then taken flushed faults (encode_upper done) text a b c r before next)

pub whole-cut : (bytes done rest piece more : List ℕ) (m : ℕ) → bytes ≡ done ++ rest → piece ≡ take m rest → more ≡ drop m rest → bytes ≡ (done ++ piece) ++ more
whole-cut bytes done rest piece more m whole front back =
    whole ∙ rw (front, back) (ap (λ (r : List ℕ). done ++ r) (sym (take-append-drop m rest)) ∙ sym (append_assoc done (take m rest) (drop m rest)))

pub hex-stopped : {S : Type 0} (taken flushed : S → Option (List ℕ)) (faults : S → ℕ) (bytes done more : List ℕ) (a c : S) (e : WriteStop)
    → bytes ≡ done ++ more → Writes taken flushed faults (encode_upper done) a c (Err e) → Writes taken flushed faults (encode_upper bytes) a c (Err e)
hex-stopped taken flushed faults bytes done more a c e whole stopped =
    Writes-stopped taken flushed faults (encode_upper done) (encode_upper more) (encode_upper bytes) a c e stopped
    (ap encode_upper whole ∙ encode_with-append upper_digits done more)

-- the entry at a place is the next one
pub one-more : (H : Past) (k : ℕ) (e : CardEntry) → k < length (reverse H) → at_place H k ≡ Some e
    → flat_map entry_line (take (k + 1) (reverse H)) ≡ flat_map entry_line (take k (reverse H)) ++ entry_line e
one-more H k e within is =
    ap (flat_map entry_line) (take_more (reverse H) k e within)
    ∙ flat_map-append entry_line (take k (reverse H)) _
    ∙ ap (λ (x : CardEntry). flat_map entry_line (take k (reverse H)) ++ flat_map entry_line (x ∷ [])) (get_or_from_slice_get (reverse H) k e e is)
    ∙ ap (λ (l : List ℕ). flat_map entry_line (take k (reverse H)) ++ l) (append-nil (entry_line e))

pub rest-after : (H : Past) (m : ℕ) → history_text H ≡ flat_map entry_line (take m (reverse H)) ++ flat_map entry_line (drop m (reverse H))
rest-after H m = sym (ap (flat_map entry_line) (take-append-drop m (reverse H))) ∙ flat_map-append entry_line (take m (reverse H)) (drop m (reverse H))

-- ---- entries whose numbers fit their types

all-snoc : {A : Type 0} (P : A → Type 0) (xs : List A) (x : A) → AllByRecursion P xs → P x → AllByRecursion P (xs ++ x ∷ [])
all-snoc P [] x h here = (here, tt)
all-snoc P (y ∷ xs) x h here = (h.0, all-snoc P xs x h.1 here)

all-reverse : {A : Type 0} (P : A → Type 0) (xs : List A) → AllByRecursion P xs → AllByRecursion P (reverse xs)
all-reverse P [] h = tt
all-reverse P (x ∷ xs) h = rw (reverse-append (x ∷ []) xs) (all-snoc P (reverse xs) x (all-reverse P xs h.1) h.0)

pub one_more-fits : (H : Past) (k : ℕ) (e : CardEntry) → k < length (reverse H) → at_place H k ≡ Some e
    → AllByRecursion IsEntry (take k (reverse H)) → IsEntry e → AllByRecursion IsEntry (take (k + 1) (reverse H))
one_more-fits H k e within is before here =
    rw (take_more (reverse H) k e within, get_or_from_slice_get (reverse H) k e e is) (all-snoc IsEntry (take k (reverse H)) e before here)

pub all-fit : (H : Past) (n : ℕ) → length (reverse H) ≤ n → AllByRecursion IsEntry (take n (reverse H)) → AllByRecursion IsEntry H
all-fit H n whole fits =
    let all : AllByRecursion IsEntry (reverse H) = subst (AllByRecursion IsEntry) (take_all n (reverse H) whole) fits in
    subst (AllByRecursion IsEntry) (reverse-reverse H) (all-reverse IsEntry (reverse H) all)
