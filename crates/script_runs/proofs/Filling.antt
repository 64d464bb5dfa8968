-- Where the shares of scripts have all records of the cards, the cards have no more records than the scripts have turns.
use Rattle.std.specs.Prelude.{slice_get}
use Rattle.std.proofs.Common.{◌≡◌, inl, inr, ℕ, zero, suc, ◌+◌, ◌<◌, ◌≤◌, Bool, true, false, cond, eqb, ltb, eq-eqb, List, [], ◌∷◌, length, Some, sym, subst, arith}
use Rattle.std.proofs.lemmas.Bool.Decides.{nat_tests}
use Rattle.std.proofs.lemmas.List.Sums.{sum_by-take-le}
use Rattle.script_line.specs.declared.line.Line.{Line}
use Rattle.client_api.specs.Ports.{Own, Log}
use Rattle.client_api.specs.Playing.{Move}
use Rattle.script_runs.specs.Turns.{script_turns, all_turns, NeverFull}
use Rattle.script_runs.specs.Shares.{share_of, Has, IsTaker}
use Rattle.script_runs.specs.Laws.{SharesNeverFill}
use Rattle.script_runs.proofs.Counting.{turns_in, script_within, total, total_le, total_less, total_within, share_within, FullOr, full_or}

-- how many places of a card below p a share has
abbrev one_below : ℕ → ℕ → Own → ℕ
one_below card p o = cond (eqb o.card card) (cond (ltb o.place p) 1 0) 0

abbrev below : ℕ → ℕ → Log → ℕ
below card p [] = 0
below card p (o ∷ log) = one_below card p o + below card p log

one_more : (card p : ℕ) (o : Own) → one_below card p o ≤ one_below card (suc p) o
one_more card p o = go (eqb o.card card) where
  go : (b : Bool) → cond b (cond (ltb o.place p) 1 0) 0 ≤ cond b (cond (ltb o.place (suc p)) 1 0) 0
  go true = grind (arith, nat_tests)
  go false = omega arith

one_here : (card p : ℕ) (o : Own) → o.card ≡ card → o.place ≡ p → one_below card p o < one_below card (suc p) o
one_here card p o c at =
    subst (λ (b : Bool). cond b (cond (ltb o.place p) 1 0) 0 < cond b (cond (ltb o.place (suc p)) 1 0) 0) (sym (eq-eqb o.card card c))
    (grind (arith, nat_tests, at))

below_more : (card p : ℕ) (log : Log) → below card p log ≤ below card (suc p) log
below_more card p [] = omega arith
below_more card p (o ∷ log) = let here = one_more card p o in let rest = below_more card p log in omega (arith, here, rest)

below_has : (card p : ℕ) (log : Log) → Has log card p → below card p log < below card (suc p) log
below_has card p [] h = absurd h
below_has card p (o ∷ log) h = elim h [
  | inl x ↦ let here = one_here card p o x.0 x.1 in let rest = below_more card p log in omega (arith, here, rest)
  | inr x ↦ let here = one_more card p o in let rest = below_has card p log x in omega (arith, here, rest)
]

below_within : (card p : ℕ) (log : Log) → below card p log ≤ length log
below_within card p [] = omega arith
below_within card p (o ∷ log) = go (eqb o.card card) (ltb o.place p) (below_within card p log) where
  go : (b d : Bool) → below card p log ≤ length log → cond b (cond d 1 0) 0 + below card p log ≤ suc (length log)
  go true true h = omega (arith, h)
  go true false h = omega (arith, h)
  go false d h = omega (arith, h)

-- p places are taken p times at least
taken : (count card most : ℕ) (shares : ℕ → List Move) → ((place : ℕ) → place < most → (k : ℕ) × IsTaker count shares card place k)
    → (p : ℕ) → p ≤ most → p ≤ total (λ k. below card p (share_of (shares k))) count
taken count card most shares all zero le = omega arith
taken count card most shares all (suc p) le =
    let t = all p (omega (arith, le)) in
    let rest = taken count card most shares all p (omega (arith, le)) in
    let more = total_less (λ k. below card p (share_of (shares k))) (λ k. below card (suc p) (share_of (shares k))) count t.0 t.1.is_script
    (λ j lt. below_more card p (share_of (shares j))) (below_has card p (share_of (shares t.0)) t.1.has) in
    omega (arith, rest, more)

pub shares_never_fill : SharesNeverFill
shares_never_fill names scripts records shares cards turns playable plays takers room k lt full = go (full_or cards (λ card. length (records card)) turns (shares k) full) where
  turns_within : (j : ℕ) (lines : List Line) → slice_get scripts j ≡ Some lines → turns_in (shares j) ≤ script_turns lines
  turns_within j lines e = script_within names lines (shares j) (playable j lines e) (plays j lines e)

  all_within : total (λ j. turns_in (shares j)) (length scripts) ≤ all_turns scripts
  all_within =
      let within = total_within (λ j. turns_in (shares j)) script_turns scripts (length scripts) (omega arith) turns_within in
      let le = sum_by-take-le script_turns scripts (length scripts) in
      omega (arith, within, le)

  go : FullOr cards (λ card. length (records card)) turns (shares k) → NeverFull (shares k)
  go r = elim r [
    | inl x ↦ x
    | inr x ↦
        let card = x.1.0 in
        let taken_all = taken (length scripts) card (length (records card)) shares (λ place below. takers card place below) (length (records card)) (omega arith) in
        let few = total_le (λ j. below card (length (records card)) (share_of (shares j))) (λ j. length (share_of (shares j))) (length scripts) (λ j b. below_within card (length (records card)) (share_of (shares j))) in
        let fewer = total_less (λ j. length (share_of (shares j))) (λ j. turns_in (shares j)) (length scripts) k lt (λ j b. share_within (shares j)) x.0 in
        let most = all_within in
        let has = room card x.1.1 in
        let cause = x.1.2 in
        absurd (omega (arith, taken_all, few, fewer, most, has, cause))
  ]
