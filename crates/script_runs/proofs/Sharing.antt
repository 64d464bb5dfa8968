-- A scheduled run is a sharing-out of the records of its cards.
use Rattle.std.proofs.Common.{◌≡◌, ◌≢◌, ◌∙◌, ◌⊎◌, inl, inr, ℕ, zero, suc, ◌<◌, ◌≤◌, Bool, true, false, cond, eqb, eq-eqb, ne_eqb, List, [], ◌∷◌, ◌++◌, length, Some, sym, refl, ap, subst, arith}
use mathlib.Core.Logic.{dite}
use native.Mathlib.Decide.{ℕ_discrete}
use Rattle.std.specs.Prelude.{reverse, slice_get}
use Rattle.std.proofs.lemmas.List.{reverse-append, length-reverse}
use Rattle.std.proofs.lemmas.Bool.{eqb-true}
use Rattle.piv_rules.specs.Acts.{CardRecord, Records}
use Rattle.client_api.specs.Ports.{Own, Log, records_of, IsAbove, ArePlaces}
use Rattle.client_api.specs.Playing.{Had, NoTurn, Took, Filled, playing, with_own}
use Rattle.script_runs.specs.Runs.{Turn, Run, moves_of, log_of, AreRising}
use Rattle.script_runs.specs.Shares.{share_of, record_at, AreThere, Has, IsTaker}
use Rattle.script_runs.specs.Laws.{ScheduledRunsShareOut}
use Rattle.script_runs.proofs.Counting.{AreInside, are_inside}
use Rattle.script_runs.proofs.Handles.{uses_its_own}
use Rattle.script_runs.proofs.Listed.{one}

-- ---- records at places

front_at : {A : Type 0} (xs ys : List A) (k : ℕ) (x : A) → slice_get xs k ≡ Some x → slice_get (xs ++ ys) k ≡ Some x
front_at [] ys k x e = absurd (cc)
front_at (a ∷ xs) ys zero x e = e
front_at (a ∷ xs) ys (suc k) x e = front_at xs ys k x e

end_at : {A : Type 0} (xs : List A) (x : A) → slice_get (xs ++ x ∷ []) (length xs) ≡ Some x
end_at [] x = refl
end_at (a ∷ xs) x = end_at xs x

reverse_cons : {A : Type 0} (x : A) (l : List A) → reverse (x ∷ l) ≡ reverse l ++ x ∷ []
reverse_cons x l = reverse-append (x ∷ []) l

records_here : (o : Own) (log : Log) (card : ℕ) → o.card ≡ card → records_of card (o ∷ log) ≡ o.did ∷ records_of card log
records_here o log card e = ap (λ (b : Bool). cond b (o.did ∷ records_of card log) (records_of card log)) (eq-eqb o.card card e)

records_apart : (o : Own) (log : Log) (card : ℕ) → o.card ≢ card → records_of card (o ∷ log) ≡ records_of card log
records_apart o log card n = ap (λ (b : Bool). cond b (o.did ∷ records_of card log) (records_of card log)) (ne_eqb o.card card n)

records_grow : (o : Own) (log : Log) (card : ℕ) → length (records_of card log) ≤ length (records_of card (o ∷ log))
records_grow o log card = go (eqb o.card card) where
  go : (b : Bool) → length (records_of card log) ≤ length (cond b (o.did ∷ records_of card log) (records_of card log))
  go true = omega arith
  go false = omega arith

at_more : (o : Own) (log : Log) (card place : ℕ) (did : CardRecord) → record_at (records_of card log) place ≡ Some did → record_at (records_of card (o ∷ log)) place ≡ Some did
at_more o log card place did e = go (eqb o.card card) where
  go : (b : Bool) → record_at (cond b (o.did ∷ records_of card log) (records_of card log)) place ≡ Some did
  go true =
      subst (λ (l : List CardRecord). slice_get l place ≡ Some did) (sym (reverse_cons o.did (records_of card log)))
      (front_at (reverse (records_of card log)) (o.did ∷ []) place did e)
  go false = e

there_grows : (o : Own) (log l : Log) → AreThere (λ card. records_of card log) l → AreThere (λ card. records_of card (o ∷ log)) l
there_grows o log [] h = tt
there_grows o log (x ∷ l) h = (there_grows o log l h.0, at_more o log x.card x.place x.did h.1)

newest_there : (o : Own) (log : Log) → o.place ≡ length (records_of o.card log) → record_at (records_of o.card (o ∷ log)) o.place ≡ Some o.did
newest_there o log e =
    let here : reverse (records_of o.card (o ∷ log)) ≡ reverse (records_of o.card log) ++ o.did ∷ [] =
    ap (λ (l : List CardRecord). reverse l) (records_here o log o.card refl) ∙ reverse_cons o.did (records_of o.card log) in
    let last : slice_get (reverse (records_of o.card log) ++ o.did ∷ []) o.place ≡ Some o.did =
    subst (λ (k : ℕ). slice_get (reverse (records_of o.card log) ++ o.did ∷ []) k ≡ Some o.did) (length-reverse (records_of o.card log) ∙ sym e)
    (end_at (reverse (records_of o.card log)) o.did) in
    ap (λ (l : List CardRecord). slice_get l o.place) here ∙ last

all_there : (log : Log) → ArePlaces log → AreThere (λ card. records_of card log) log
all_there [] p = tt
all_there (o ∷ log) p = (there_grows o log log (all_there log p.0), newest_there o log p.1)

above_places : (card n : ℕ) (log : Log) → ArePlaces log → length (records_of card log) ≤ n → IsAbove card n log
above_places card n [] p le = tt
above_places card n (o ∷ log) p le =
    let grow = records_grow o log card in (
      (λ e.
          let more = ap (λ (l : Records). length l) (records_here o log card e) in
          let at : o.place ≡ length (records_of card log) = p.1 ∙ ap (λ (c : ℕ). length (records_of c log)) e in
          omega (arith, more, at, le)),
      above_places card n log p.0 (omega (arith, grow, le)),
    )

rises_from : (log : Log) → ArePlaces log → AreRising log
rises_from [] p = tt
rises_from (o ∷ log) p = (rises_from log p.0, above_places o.card o.place log p.0 (let e = p.1 in omega (arith, e)))

-- ---- a script's part of a run

-- what a step adds to the share of script k
abbrev longer : Bool → Had → Log → Log
longer mine had log = cond mine (with_own had log) log

share_more : (k : ℕ) (t : Turn) (run : Run) → share_of (moves_of k (t ∷ run)) ≡ longer (eqb t.script k) t.move.had (share_of (moves_of k run))
share_more k t run = go (eqb t.script k) where
  go : (b : Bool) → share_of (cond b (t.move ∷ moves_of k run) (moves_of k run)) ≡ cond b (with_own t.move.had (share_of (moves_of k run))) (share_of (moves_of k run))
  go true = refl
  go false = refl

there_part : (records : ℕ → Records) (k : ℕ) (run : Run) → AreThere records (log_of run) → AreThere records (share_of (moves_of k run))
there_part records k [] h = tt
there_part records k (t ∷ run) h =
    subst (λ (l : Log). AreThere records l) (sym (share_more k t run)) (go t.move.had (eqb t.script k) h (there_part records k run))
  where
    go : (had : Had) (mine : Bool) → AreThere records (with_own had (log_of run)) → (AreThere records (log_of run) → AreThere records (share_of (moves_of k run)))
        → AreThere records (longer mine had (share_of (moves_of k run)))
    go NoTurn true h part = part h
    go NoTurn false h part = part h
    go (Took own) true h part = (part h.0, h.1)
    go (Took own) false h part = part h.0
    go Filled true h part = part h
    go Filled false h part = part h

above_part : (card place k : ℕ) (run : Run) → IsAbove card place (log_of run) → IsAbove card place (share_of (moves_of k run))
above_part card place k [] h = tt
above_part card place k (t ∷ run) h =
    subst (λ (l : Log). IsAbove card place l) (sym (share_more k t run)) (go t.move.had (eqb t.script k) h (above_part card place k run))
  where
    go : (had : Had) (mine : Bool) → IsAbove card place (with_own had (log_of run)) → (IsAbove card place (log_of run) → IsAbove card place (share_of (moves_of k run)))
        → IsAbove card place (longer mine had (share_of (moves_of k run)))
    go NoTurn true h part = part h
    go NoTurn false h part = part h
    go (Took own) true h part = (h.0, part h.1)
    go (Took own) false h part = part h.1
    go Filled true h part = part h
    go Filled false h part = part h

rises_part : (k : ℕ) (run : Run) → AreRising (log_of run) → AreRising (share_of (moves_of k run))
rises_part k [] h = tt
rises_part k (t ∷ run) h =
    subst (λ (l : Log). AreRising l) (sym (share_more k t run)) (go t.move.had (eqb t.script k) h (rises_part k run))
  where
    go : (had : Had) (mine : Bool) → AreRising (with_own had (log_of run)) → (AreRising (log_of run) → AreRising (share_of (moves_of k run)))
        → AreRising (longer mine had (share_of (moves_of k run)))
    go NoTurn true h part = part h
    go NoTurn false h part = part h
    go (Took own) true h part = (part h.0, above_part own.card own.place k run h.1)
    go (Took own) false h part = part h.0
    go Filled true h part = part h
    go Filled false h part = part h

-- ---- which script has a place

places_before : (had : Had) (log : Log) → ArePlaces (with_own had log) → ArePlaces log
places_before NoTurn log p = p
places_before (Took own) log p = p.0
places_before Filled log p = p

has_more : (had : Had) (log : Log) (card place : ℕ) → Has log card place → Has (with_own had log) card place
has_more NoTurn log card place h = h
has_more (Took own) log card place h = inr h
has_more Filled log card place h = h

still_has : (mine : Bool) (had : Had) (log : Log) (card place : ℕ) → Has log card place → Has (longer mine had log) card place
still_has true had log card place h = has_more had log card place h
still_has false had log card place h = h

-- the step took this place
abbrev IsHere : Bool → Had → ℕ → ℕ → Type 0
IsHere mine had card place = (mine ≡ true) × (own : Own) × (had ≡ Took own) × (own.card ≡ card) × (own.place ≡ place)

here_or_before : (mine : Bool) (had : Had) (log : Log) (card place : ℕ) → Has (longer mine had log) card place → IsHere mine had card place ⊎ Has log card place
here_or_before true NoTurn log card place h = inr h
here_or_before true (Took own) log card place h = elim h [ inl x ↦ inl (refl, own, refl, x.0, x.1) | inr x ↦ inr x ]
here_or_before true Filled log card place h = inr h
here_or_before false had log card place h = inr h

part_has : (k : ℕ) (run : Run) (card place : ℕ) → Has (share_of (moves_of k run)) card place → Has (log_of run) card place
part_has k [] card place h = h
part_has k (t ∷ run) card place h =
    elim (here_or_before (eqb t.script k) t.move.had (share_of (moves_of k run)) card place (subst (λ (l : Log). Has l card place) (share_more k t run) h)) [
      | inl x ↦ subst (λ (had : Had). Has (with_own had (log_of run)) card place) (sym x.2) (inl (x.3, x.4))
      | inr x ↦ has_more t.move.had (log_of run) card place (part_has k run card place x)
    ]

has_below : (log : Log) (card place : ℕ) → ArePlaces log → Has log card place → place < length (records_of card log)
has_below [] card place p h = absurd h
has_below (o ∷ log) card place p h = elim h [
  | inl x ↦
      let more = ap (λ (l : Records). length l) (records_here o log card x.0) in
      let at : o.place ≡ length (records_of card log) = p.1 ∙ ap (λ (c : ℕ). length (records_of c log)) x.0 in
      let is = x.1 in
      omega (arith, more, at, is)
  | inr x ↦ let below = has_below log card place p.0 x in let grow = records_grow o log card in omega (arith, below, grow)
]

-- a place that is taken anew isn't one of before
not_before : (k : ℕ) (run : Run) (own : Own) (had : Had) (card place : ℕ) → had ≡ Took own → own.card ≡ card → own.place ≡ place → ArePlaces (with_own had (log_of run)) → Has (share_of (moves_of k run)) card place → ⊥
not_before k run own had card place e c at p h =
    let all : ArePlaces (own ∷ log_of run) = subst (λ (z : Had). ArePlaces (with_own z (log_of run))) e p in
    let below = has_below (log_of run) card place all.0 (part_has k run card place h) in
    let is : own.place ≡ length (records_of card (log_of run)) = all.1 ∙ ap (λ (z : ℕ). length (records_of z (log_of run))) c in
    omega (arith, below, is, at)

one_script : (run : Run) (card place j k : ℕ) → ArePlaces (log_of run) → Has (share_of (moves_of j run)) card place → Has (share_of (moves_of k run)) card place → j ≡ k
one_script [] card place j k p h i = absurd h
one_script (t ∷ run) card place j k p h i =
    elim (here_or_before (eqb t.script j) t.move.had (share_of (moves_of j run)) card place (subst (λ (l : Log). Has l card place) (share_more j t run) h)) [
      | inl x ↦ elim (here_or_before (eqb t.script k) t.move.had (share_of (moves_of k run)) card place (subst (λ (l : Log). Has l card place) (share_more k t run) i)) [
        | inl y ↦ sym (eqb-true t.script j x.0) ∙ eqb-true t.script k y.0
        | inr y ↦ absurd (not_before k run x.1 t.move.had card place x.2 x.3 x.4 p y)
      ]
      | inr x ↦ elim (here_or_before (eqb t.script k) t.move.had (share_of (moves_of k run)) card place (subst (λ (l : Log). Has l card place) (share_more k t run) i)) [
        | inl y ↦ absurd (not_before j run y.1 t.move.had card place y.2 y.3 y.4 p x)
        | inr y ↦ one_script run card place j k (places_before t.move.had (log_of run) p) x y
      ]
    ]

-- the taker of a place of before
taken_before : (count : ℕ) (t : Turn) (run : Run) (card place : ℕ) → (k : ℕ) × IsTaker count (λ j. moves_of j run) card place k → (k : ℕ) × IsTaker count (λ j. moves_of j (t ∷ run)) card place k
taken_before count t run card place s = (
  s.0,
  record {
    is_script = s.1.is_script;
    has = subst (λ (l : Log). Has l card place) (sym (share_more s.0 t run))
        (still_has (eqb t.script s.0) t.move.had (share_of (moves_of s.0 run)) card place s.1.has);
  },
)

-- the taker of the newest place
taken_here : (count : ℕ) (t : Turn) (run : Run) (own : Own) (card place : ℕ) → t.script < count → t.move.had ≡ Took own → own.card ≡ card → own.place ≡ place → (k : ℕ) × IsTaker count (λ j. moves_of j (t ∷ run)) card place k
taken_here count t run own card place lt e c at = (
  t.script,
  record {
    is_script = lt;
    has = subst (λ (l : Log). Has l card place) (sym (share_more t.script t run))
        (subst (λ (b : Bool). Has (longer b t.move.had (share_of (moves_of t.script run))) card place) (sym (eq-eqb t.script t.script refl))
        (subst (λ (had : Had). Has (with_own had (share_of (moves_of t.script run))) card place) (sym e) (inl (c, at))));
  },
)

taken_now : (count : ℕ) (t : Turn) (run : Run) (card place : ℕ) (had : Had) → t.script < count → t.move.had ≡ had → ArePlaces (with_own had (log_of run)) → place < length (records_of card (with_own had (log_of run)))
    → (ArePlaces (log_of run) → place < length (records_of card (log_of run)) → (k : ℕ) × IsTaker count (λ j. moves_of j run) card place k) → (k : ℕ) × IsTaker count (λ j. moves_of j (t ∷ run)) card place k
taken_now count t run card place NoTurn lt e q below before = taken_before count t run card place (before q below)
taken_now count t run card place (Took own) lt e q below before = dite (ℕ_discrete own.card card)
    (λ c. dite (ℕ_discrete place (length (records_of card (log_of run))))
    (λ at. taken_here count t run own card place lt e c (q.1 ∙ (ap (λ (z : ℕ). length (records_of z (log_of run))) c ∙ sym at)))
    (λ n. taken_before count t run card place (before q.0 (let more = ap (λ (l : Records). length l) (records_here own (log_of run) card c) in omega (arith, more, below, n)))))
    (λ n. taken_before count t run card place (before q.0 (subst (λ (l : Records). place < length l) (records_apart own (log_of run) card n) below)))
taken_now count t run card place Filled lt e q below before = taken_before count t run card place (before q below)

some_script : (count : ℕ) (run : Run) (card place : ℕ) → AreInside count run → ArePlaces (log_of run) → place < length (records_of card (log_of run)) → (k : ℕ) × IsTaker count (λ j. moves_of j run) card place k
some_script count [] card place inside p lt = absurd (omega (arith, lt))
some_script count (t ∷ run) card place inside p lt =
    taken_now count t run card place t.move.had inside.1 refl p lt (λ q below. some_script count run card place inside.0 q below)

pub shares_out : ScheduledRunsShareOut
shares_out names scripts schedule answers run s a p = record {
  many = a.many;
  each = λ k lines given e f. record {
    plays = s.plays k lines e;
    ended = s.ended k lines e;
    answered = one answers k given (playing lines (moves_of k run)).answers f (a.each k lines e);
    rises = rises_part k run (rises_from (log_of run) p);
    are_there = there_part (λ card. records_of card (log_of run)) k run (all_there (log_of run) p);
    uses_its_own = uses_its_own names lines (moves_of k run) (s.plays k lines e);
  };
  one_taker = λ card place lt.
      let t = some_script (length scripts) run card place (are_inside scripts _ run s.follows) p lt in
      (t.0, t.1, λ j is. one_script run card place j t.0 p is.has t.1.has);
}
