-- A history is read from its text and from no other.
use Rattle.std.proofs.Common.{◌≡◌, ◌<◌, ◌+◌, ◌++◌, ℕ, true, false, List, [], ◌∷◌, length, Some, None, Option, Result, Ok, Err, refl, sym, ap, ◌∙◌, subst, arith, lit<, get_or, length-append}
use Rattle.std.specs.Prelude.{◌≢◌, reverse, ◌==◌, OnOk, OnErr, IfOk, option_map, MatchOption}
use Rattle.std.specs.List.{slice_split, join_with_byte, flat_map, AllByRecursion}
use Rattle.std.proofs.lemmas.List.{append_assoc, append-nil, reverse-append, reverse-reverse}
use Rattle.std.proofs.lemmas.List.Concat.{flat_map-append}
use Rattle.std.proofs.lemmas.List.Splits.{slice_split_at, slice_split_none, length-slice_split, join_with_byte-slice_split}
use Rattle.std.proofs.lemmas.List.Elements.{All-from_get_or}
use Rattle.std.proofs.lemmas.Str.Pattern.{IsSplitOnceResult, split_parts}
use Rattle.std.proofs.lemmas.Bool.Decides.{nat_tests}
use Rattle.std.specs.Borrow.{Bor}
use Rattle.piv_model.specs.Entries.{CardEntry, Past}
use Rattle.piv_model.specs.Written.{Written}
use Rattle.line_words.specs.declared.fault.LineFault.{LineFault}
use Rattle.line_words.specs.declared.fault.LineFault.TheVariants.{Malformed, NoMemory}
use Rattle.line_words.specs.Words.{words}
use Rattle.entry_text.specs.EntryTexts.{entry_text, entry_line, history_text, IsEntry, IsEntryText, IsHistoryText}
use Rattle.piv_script.specs.Outcomes.{Pushes, GivesPast}
use Rattle.piv_script.specs.EntryReading.{entry_of_words}
use Rattle.piv_script.specs.HistoryReading.{ended, line_then, last_or, after_lines, is_line_feed, history_of}
use Rattle.line_words.proofs.Steps.{some_same}
use Rattle.piv_script.proofs.EntryLaws.{entry-found, entry-again}
use Rattle.piv_script.proofs.TextLaws.{words-entry_text, join-words, entry_text-one_line}

-- ---- one line

pub text-found : (text : List ℕ) (e : CardEntry) → entry_of_words (words text) ≡ Some e → IsEntryText text e
text-found text e h =
    let found = entry-found (words text) e h in
    (found.1, sym (join-words text) ∙ ap (join_with_byte 32) found.0)

pub text-again : (text : List ℕ) (e : CardEntry) → IsEntryText text e → entry_of_words (words text) ≡ Some e
text-again text e h = ap (λ t. entry_of_words (words t)) h.1 ∙ ap entry_of_words (words-entry_text e h.0) ∙ entry-again e h.0

-- two entries with one text are one
pub one_text : (e f : CardEntry) → IsEntry e → IsEntry f → entry_text e ≡ entry_text f → e ≡ f
one_text e f h i same = some_same e f (sym (text-again (entry_text e) e (h, refl)) ∙ text-again (entry_text e) f (i, same))

pushed : (read : Option CardEntry) (old new : Past) → option_map (λ e. e ∷ old) read ≡ Some new → (e : CardEntry) × (read ≡ Some e) × (new ≡ e ∷ old)
pushed (Some e) old new h = (e, refl, sym (some_same (e ∷ old) new h))
pushed None old new h = cc

pub push-found : (r : Result (Unit {0}) LineFault) (line : List ℕ) (old new : Past) → Pushes r (entry_of_words (words line)) old new
    → OnOk r ((e : CardEntry) × IsEntryText line e × (new ≡ e ∷ old))
push-found (Ok u) line old new h = let p = pushed (entry_of_words (words line)) old new h in (p.0, text-found line p.0 p.1, p.2)
push-found (Err e) line old new h = tt

pub push-only : (r : Result (Unit {0}) LineFault) (line : List ℕ) (old new : Past) → Pushes r (entry_of_words (words line)) old new
    → (e : CardEntry) → IsEntryText line e → Pushes r (Some e) old new
push-only r line old new h e is = subst (λ (read : Option CardEntry). Pushes r read old new) (text-again line e is) h

pub push-same : (r : Result (Unit {0}) LineFault) (read : Option CardEntry) (old new : Past) → Pushes r read old new → OnErr r (new ≡ old)
push-same (Ok u) read old new h = tt
push-same (Err Malformed) read old new h = h.1
push-same (Err NoMemory) read old new h = h

-- ---- a history

history-more : (H : Past) (e : CardEntry) → history_text (e ∷ H) ≡ history_text H ++ entry_line e
history-more H e =
    ap (flat_map entry_line) (reverse-append (e ∷ []) H)
    ∙ flat_map-append entry_line (reverse H) (e ∷ [])
    ∙ ap (λ (l : List ℕ). history_text H ++ l) (append-nil (entry_line e))

-- ---- reading line by line

more_lines : {A : Type 0} (lines : List (List ℕ)) (here further : A) → 0 < length lines → last_or lines here further ≡ further
more_lines [] here further h = absurd (omega arith)
more_lines (line ∷ lines) here further h = refl

some_lines : (text : List ℕ) → 0 < length (slice_split is_line_feed text)
some_lines text = let n = length-slice_split is_line_feed text in omega (arith, n)

pub lines-step : (rest line more : List ℕ) (H : Past) → slice_split is_line_feed rest ≡ line ∷ slice_split is_line_feed more
    → after_lines (slice_split is_line_feed rest) H ≡ line_then (after_lines (slice_split is_line_feed more)) H (entry_of_words (words line))
unfolding after_lines
lines-step rest line more H cut = rw cut (more_lines (slice_split is_line_feed more) _ _ (some_lines more))

pub lines-end : (rest : List ℕ) (H : Past) → slice_split is_line_feed rest ≡ rest ∷ [] → after_lines (slice_split is_line_feed rest) H ≡ ended H rest
unfolding after_lines
lines-end rest H cut = rw cut refl

pub first-cut : (rest : List ℕ) (r : Option (Bor (List ℕ) × Bor (List ℕ))) → IsSplitOnceResult 10 rest r
    → MatchOption r (slice_split is_line_feed rest ≡ rest ∷ []) (λ x. (slice_split is_line_feed rest ≡ x.0.now ∷ slice_split is_line_feed x.1.now) × (length x.1.now < length rest))
first-cut rest r h = by_parts rest r (split_parts 10 rest r h (lit< tt))
  where
    differs : (b : ℕ) → b ≢ 10 → is_line_feed b ≡ false
    differs b ne = grind (arith, nat_tests)

    by_parts : (rest : List ℕ) (r : Option (Bor (List ℕ) × Bor (List ℕ)))
        → MatchOption r ((i : ℕ) → i < length rest → get_or rest i 0 ≢ 10) (λ x. (rest ≡ x.0.now ++ (10 ∷ x.1.now)) × ((i : ℕ) → i < length x.0.now → get_or x.0.now i 0 ≢ 10))
        → MatchOption r (slice_split is_line_feed rest ≡ rest ∷ []) (λ x. (slice_split is_line_feed rest ≡ x.0.now ∷ slice_split is_line_feed x.1.now) × (length x.1.now < length rest))
    by_parts rest None h = slice_split_none is_line_feed rest (All-from_get_or (λ b. is_line_feed b ≡ false) rest 0 (λ i lt. differs (get_or rest i 0) (h i lt)))
    by_parts rest (Some x) h = (
      ap (slice_split is_line_feed) h.0
          ∙ slice_split_at is_line_feed x.0.now 10 x.1.now (All-from_get_or (λ b. is_line_feed b ≡ false) x.0.now 0 (λ i lt. differs (get_or x.0.now i 0) (h.1 i lt))) refl,
      let n : length rest ≡ length x.0.now + length (10 ∷ x.1.now) = ap length h.0 ∙ length-append x.0.now (10 ∷ x.1.now) in omega (arith, n),
    )

-- a line that was pushed
pub step-pushed : (total : Option Past) (more : Past → Option Past) (read : Option CardEntry) (old new : Past)
    → total ≡ line_then more old read → Pushes (Ok tt) read old new → total ≡ more new
step-pushed total more read old new is h = let p = pushed read old new h in is ∙ ap (line_then more old) p.1 ∙ ap more (sym p.2)

-- a line that was not
pub step-stopped : (total : Option Past) (more : Past → Option Past) (read : Option CardEntry) (e : LineFault) (old new : Past)
    → total ≡ line_then more old read → Pushes (Err e) read old new → GivesPast (Err e) total
step-stopped total more read Malformed old new is h = is ∙ rw h.0 refl
step-stopped total more read NoMemory old new is h = tt

pub end-empty : (total : Option Past) (H : Past) (rest : List ℕ) → total ≡ ended H rest → (length rest == 0) ≡ true → total ≡ Some H
end-empty total H [] is h = is
end-empty total H (b ∷ rest) is h = absurd (grind (arith, nat_tests, h))

pub end-open : (total : Option Past) (H : Past) (rest : List ℕ) → total ≡ ended H rest → (length rest == 0) ≡ false → total ≡ None
end-open total H [] is h = absurd (grind (arith, nat_tests, h))
end-open total H (b ∷ rest) is h = is

-- ---- the laws

after-found : (ps : List (List ℕ)) (G H : Past) → after_lines ps G ≡ Some H → AllByRecursion IsEntry G
    → (history_text G ++ join_with_byte 10 ps ≡ history_text H) × AllByRecursion IsEntry H
unfolding after_lines
after-found [] G H h all = cc
after-found (line ∷ []) G H h all = by_end line G H h all
  where
    by_end : (line : List ℕ) (G H : Past) → ended G line ≡ Some H → AllByRecursion IsEntry G → (history_text G ++ line ≡ history_text H) × AllByRecursion IsEntry H
    by_end [] G H h all = let e = some_same G H h in (append-nil (history_text G) ∙ ap history_text e, subst (AllByRecursion IsEntry) e all)
    by_end (b ∷ line) G H h all = cc
after-found (line ∷ next ∷ ps) G H h all = by_entry line (next ∷ ps) G H (λ e now rest. after-found (next ∷ ps) (e ∷ G) H rest now) (entry_of_words (words line)) (text-found line) h all
  where
    regroup : (a b c : List ℕ) → a ++ (b ++ (10 ∷ c)) ≡ (a ++ (b ++ 10 ∷ [])) ++ c
    regroup a b c = simp append_assoc

    by_entry : (line : List ℕ) (ps : List (List ℕ)) (G H : Past)
        → ((e : CardEntry) → AllByRecursion IsEntry (e ∷ G) → after_lines ps (e ∷ G) ≡ Some H → (history_text (e ∷ G) ++ join_with_byte 10 ps ≡ history_text H) × AllByRecursion IsEntry H)
        → (read : Option CardEntry) → ((e : CardEntry) → read ≡ Some e → IsEntryText line e) → line_then (after_lines ps) G read ≡ Some H
        → AllByRecursion IsEntry G → (history_text G ++ (line ++ (10 ∷ join_with_byte 10 ps)) ≡ history_text H) × AllByRecursion IsEntry H
    by_entry line ps G H next_lines None is h all = cc
    by_entry line ps G H next_lines (Some e) is h all =
        let found = is e refl in
        let rest = next_lines e (found.0, all) h in (
          ap (λ (t : List ℕ). history_text G ++ (t ++ (10 ∷ join_with_byte 10 ps))) found.1
              ∙ regroup (history_text G) (entry_text e) (join_with_byte 10 ps)
              ∙ ap (λ (t : List ℕ). t ++ join_with_byte 10 ps) (sym (history-more G e)) ∙ rest.0,
          rest.1,
        )

pub history-found : (text : List ℕ) (H : Past) → history_of text ≡ Some H → IsHistoryText text H
history-found text H h =
    let found = after-found (slice_split is_line_feed text) [] H h tt in
    (found.1, sym (join_with_byte-slice_split 10 text) ∙ found.0)

-- entries from the oldest on
after-again : (es : List CardEntry) (G : Past) → AllByRecursion IsEntry es → after_lines (slice_split is_line_feed (flat_map entry_line es)) G ≡ Some (reverse es ++ G)
unfolding after_lines
after-again [] G all = refl
after-again (e ∷ es) G all =
    let text : flat_map entry_line (e ∷ es) ≡ entry_text e ++ (10 ∷ flat_map entry_line es) = append_assoc (entry_text e) (10 ∷ []) (flat_map entry_line es) in
    let cut : slice_split is_line_feed (flat_map entry_line (e ∷ es)) ≡ entry_text e ∷ slice_split is_line_feed (flat_map entry_line es) =
    ap (slice_split is_line_feed) text ∙ slice_split_at is_line_feed (entry_text e) 10 (flat_map entry_line es) (entry_text-one_line e all.0) refl in
    lines-step (flat_map entry_line (e ∷ es)) (entry_text e) (flat_map entry_line es) G cut
    ∙ ap (line_then (after_lines (slice_split is_line_feed (flat_map entry_line es))) G) (text-again (entry_text e) e (all.0, refl))
    ∙ after-again es (e ∷ G) all.1
    ∙ ap Some (sym (ap (λ (l : Past). l ++ G) (reverse-append (e ∷ []) es) ∙ append_assoc (reverse es) (e ∷ []) G))

both-all : (xs ys : List CardEntry) → AllByRecursion IsEntry xs → AllByRecursion IsEntry ys → AllByRecursion IsEntry (xs ++ ys)
both-all [] ys h i = i
both-all (x ∷ xs) ys h i = (h.0, both-all xs ys h.1 i)

reversed : (H : Past) → AllByRecursion IsEntry H → AllByRecursion IsEntry (reverse H)
reversed [] all = tt
reversed (e ∷ H) all = subst (AllByRecursion IsEntry) (sym (reverse-append (e ∷ []) H)) (both-all (reverse H) (e ∷ []) (reversed H all.1) (all.0, tt))

pub history-again : (text : List ℕ) (H : Past) → IsHistoryText text H → history_of text ≡ Some H
history-again text H h =
    ap history_of h.1 ∙ after-again (reverse H) [] (reversed H h.0) ∙ ap Some (append-nil (reverse (reverse H)) ∙ reverse-reverse H)

pub gives-history_found : (r : Result Written LineFault) (text : List ℕ) → GivesPast r (history_of text) → IfOk r (λ h. IsHistoryText text h.past)
gives-history_found (Ok h) text g = history-found text h.past g
gives-history_found (Err e) text g = tt

pub gives-history_only : (r : Result Written LineFault) (text : List ℕ) → GivesPast r (history_of text) → (H : Past) → IsHistoryText text H → GivesPast r (Some H)
gives-history_only r text g H is = subst (λ (read : Option Past). GivesPast r read) (history-again text H is) g
