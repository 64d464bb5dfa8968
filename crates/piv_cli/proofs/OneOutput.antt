-- Where no power was lost, an input has one output.
use Rattle.std.specs.List.{slice_split}
use Rattle.std.proofs.Common.{◌≡◌, ℕ, true, false, List, [], ◌∷◌, ◌++◌, Option, Some, None, refl, ap, sym, subst, ◌∙◌, inl, inr}
use Rattle.piv_model.specs.declared.history.Refusal.{Refusal}
use Rattle.piv_model.specs.Base.{Base}
use Rattle.piv_model.specs.Entries.{CardEntry, Past}
use Rattle.piv_rules.specs.Acts.{CardAnswer, Exchange, CardRecord, Records, entries}
use Rattle.piv_rules.specs.Frames.{Frame, BadFrame, PartFrame, RestFrame, WholeFrame, frame}
use Rattle.piv_rules.specs.Turns.{IsTurned, IsTurnedBy, IsExchanged, refused}
use Rattle.piv_cli.specs.Lines.{Line, Empty, Garbled, Command, LineWrites, LinesWrite, AreLines, has_dash, is_newline, kept, opened_first, spelled, text_line}
use Rattle.piv_cli.specs.OutputLaws.{OutputsAreOne}
use Rattle.piv_cli.proofs.DashLaws.{dash-append, neither-first, neither-second}

-- the line of an answer has no dash
abbrev IsHeard : CardAnswer → Type 0
IsHeard a = has_dash (spelled a ++ 10 ∷ []) ≡ false

exchanged-one : (B : Base) (H : Past) (c : ℕ) (f : Frame) (e x : CardEntry) (a y : CardAnswer) → IsHeard a → IsHeard y
    → IsExchanged B H c f e a → IsExchanged B H c f x y → (e ≡ x) × (a ≡ y)
exchanged-one B H c (BadFrame w) e x a y heard other s t = (s.0 ∙ sym t.0, s.1 ∙ sym t.1)
exchanged-one B H c PartFrame e x a y heard other s t = (s.0 ∙ sym t.0, s.1 ∙ sym t.1)
exchanged-one B H c (RestFrame piece w) e x a y heard other s t = (s.0 ∙ sym t.0, s.1 ∙ sym t.1)
exchanged-one B H c (WholeFrame k most) e x a y heard other (inl s) (inl t) = (s.0 ∙ sym t.0, s.1 ∙ sym t.1)
exchanged-one B H c (WholeFrame k most) e x a y heard other (inl s) (inr t) =
    absurd (let never : true ≡ false = subst IsHeard t.2 other in cc)
exchanged-one B H c (WholeFrame k most) e x a y heard other (inr s) t =
    absurd (let never : true ≡ false = subst IsHeard s.2 heard in cc)

turned-one : (o : Option Refusal) (B : Base) (R : Records) (c known : ℕ) (bytes : List ℕ) (e x : CardEntry) (a y : CardAnswer)
    → IsHeard a → IsHeard y
    → IsTurnedBy o B R (Exchange c known bytes) e a → IsTurnedBy o B R (Exchange c known bytes) x y → (e ≡ x) × (a ≡ y)
turned-one (Some w) B R c known bytes e x a y heard other s t = (s.0 ∙ sym t.0, s.1 ∙ sym t.1)
turned-one None B R c known bytes e x a y heard other s t =
    exchanged-one B (entries R) c (frame B R c bytes) e x a y heard other s t

record-one : (B : Base) (R : Records) (c known : ℕ) (bytes : List ℕ) (r s : CardRecord) → IsHeard r.answer → IsHeard s.answer
    → r.act ≡ Exchange c known bytes → s.act ≡ Exchange c known bytes → IsTurned B R r → IsTurned B R s → r ≡ s
record-one B R c known bytes r s heard other first second one two =
    let same = turned-one (refused (entries R) (Exchange c known bytes)) B R c known bytes r.entry s.entry r.answer s.answer heard other
    (rw first at one) (rw second at two) in
    cong-record r s (first ∙ sym second) same.0 same.1
  where
    cong-record : (r s : CardRecord) → r.act ≡ s.act → r.entry ≡ s.entry → r.answer ≡ s.answer → r ≡ s
    cong-record r s h k l = rw (h, k, l) refl

line-one : (B : Base) (R : Records) (line : Line) (out other : List ℕ) (S T : Records) → has_dash out ≡ false → has_dash other ≡ false
    → LineWrites B R line out S → LineWrites B R line other T → (out ≡ other) × (S ≡ T)
line-one B R Empty out other S T none other_none s t = (s.0 ∙ sym t.0, s.1 ∙ sym t.1)
line-one B R Garbled out other S T none other_none s t = (s.0 ∙ sym t.0, s.1 ∙ sym t.1)
line-one B R (Command bytes) out other S T none other_none (r, act, turned, after, written) (q, act', turned', after', written') =
    let same : r ≡ q =
    record-one B R 1 0 bytes r q (sym (ap has_dash written) ∙ none) (sym (ap has_dash written') ∙ other_none) act act' turned turned' in (
      written ∙ ap (λ (x : CardRecord). spelled x.answer ++ 10 ∷ []) same ∙ sym written',
      after ∙ ap (λ (x : CardRecord). x ∷ R) same ∙ sym after',
    )

first-none : (out first more : List ℕ) → out ≡ first ++ more → has_dash out ≡ false → has_dash first ≡ false
first-none out first more all none =
    neither-first (has_dash first) (has_dash more) (sym (dash-append first more) ∙ sym (ap has_dash all) ∙ none)

more-none : (out first more : List ℕ) → out ≡ first ++ more → has_dash out ≡ false → has_dash more ≡ false
more-none out first more all none =
    neither-second (has_dash first) (has_dash more) (sym (dash-append first more) ∙ sym (ap has_dash all) ∙ none)

lines-one : (B : Base) (R : Records) (lines : List (List ℕ)) (out other : List ℕ) (S T : Records)
    → has_dash out ≡ false → has_dash other ≡ false
    → LinesWrite B R lines out S → LinesWrite B R lines other T → out ≡ other
lines-one B R [] out other S T none other_none s t = s.0 ∙ sym t.0
lines-one B R (line ∷ lines) out other S T none other_none (first, after, more, one, rest, all) (first', after', more', one', rest', all') =
    let same = line-one B R (text_line (kept line)) first first' after after'
    (first-none out first more all none) (first-none other first' more' all' other_none) one one' in
    let follows : more ≡ more' =
    lines-one B after lines more more' S T (more-none out first more all none) (more-none other first' more' all' other_none) rest
    (subst (λ (A : Records). LinesWrite B A lines more' T) (sym same.1) rest') in
    all ∙ ap (λ (xs : List ℕ). xs ++ more) same.0 ∙ ap (λ (xs : List ℕ). first' ++ xs) follows ∙ sym all'

pub OutputsAreOne-law : OutputsAreOne
unfolding AreLines
OutputsAreOne-law B input out other S T s t none other_none =
    lines-one B opened_first (slice_split is_newline input) out other S T none other_none s t

pub ruleset output_laws = (OutputsAreOne-law)
