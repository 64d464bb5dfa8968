-- The turns of a run are at most those of all lines, so that a port with as many never answers Full.
use Rattle.std.proofs.Common.{◌≡◌, ◌∙◌, ◌⊎◌, inl, inr, ℕ, zero, suc, ◌+◌, ◌<◌, ◌≤◌, Bool, true, false, cond, eqb, eq-eqb, ne_eqb, List, [], ◌∷◌, ◌++◌, length, take, Option, Some, None, sym, refl, ap, subst, arith, length-append}
use mathlib.Core.Logic.{dite}
use native.Mathlib.Decide.{ℕ_discrete}
use Rattle.std.specs.Prelude.{IsSome, is_some, slice_get, sum_by, get_or}
use Rattle.std.proofs.lemmas.Option.{slice_get_within, get_or_from_slice_get}
use Rattle.std.proofs.lemmas.List.Sums.{sum_by_more, sum_by-take-le}
use Rattle.piv_model.specs.declared.answers.ApiAnswer.{ApiAnswer}
use Rattle.script_line.specs.declared.line.Line.{Line}
use Rattle.script_line.specs.Playable.{ArePlayable}
use Rattle.client_api.specs.Answers.{api_answer, handle_after}
use Rattle.client_api.specs.Calls.{Asked, Call, Replies, sends}
use Rattle.client_api.specs.Ports.{Log, records_of}
use Rattle.client_api.specs.Readers.{Names}
use Rattle.client_api.specs.Playing.{kept, name_of, Playing, playing, Plays, Had, NoTurn, Took, Filled, Move, HasAsked, heard, settled, with_own}
use Rattle.client_api.specs.Players.{line_turns}
use Rattle.client_api.proofs.LineLaws.{lines_end}
use Rattle.script_runs.specs.Runs.{Turn, Run, moves_of, log_of, Follows, AllPlay}
use Rattle.script_runs.specs.Turns.{script_turns, all_turns, AllPlayable, HasTurns, WhereFilled, moves_in, FullHasCause, NeverFull}
use Rattle.script_runs.specs.Shares.{share_of}
use Rattle.script_runs.proofs.Listed.{found}

-- ---- the turns of one script

abbrev pub turns_had : Had → ℕ
turns_had NoTurn = 0
turns_had (Took own) = 1
turns_had Filled = 1

abbrev pub turns_in : List Move → ℕ
turns_in [] = 0
turns_in (m ∷ moves) = turns_had m.had + turns_in moves

abbrev turns_at : Option Line → ℕ
turns_at None = 0
turns_at (Some line) = line_turns line

-- the turns so far are those of the lines that have answers, and the replies of the next one
record IsWithin (lines : List Line) (at : Playing) (n : ℕ) : Type 0 where
  count : n ≤ sum_by line_turns (take (length at.answers) lines) + length at.replies
  few : length at.replies ≤ turns_at (slice_get lines (length at.answers))

sum_next : (lines : List Line) (n : ℕ) (line : Line) → slice_get lines n ≡ Some line → sum_by line_turns (take (n + 1) lines) ≡ sum_by line_turns (take n lines) + line_turns line
sum_next lines n line e =
    sum_by_more line_turns lines n line (slice_get_within lines n line e)
    ∙ ap (λ (l : Line). sum_by line_turns (take n lines) + line_turns l) (get_or_from_slice_get lines n line line e)

heard_few : (call : Call) (rs : Replies) (had : Had) (most : ℕ) → length rs ≤ most → HasAsked call rs had → (IsSome (sends call rs) → length rs < most) → length (heard rs had) ≤ most
heard_few call rs NoTurn most le asked less = le
heard_few call rs (Took own) most le asked less = let h = less (subst (λ (o : Option Asked). IsSome o) (sym asked) refl) in omega (arith, h)
heard_few call rs Filled most le asked less = let h = less asked in omega (arith, h)

heard_more : (rs : Replies) (had : Had) → length (heard rs had) ≡ turns_had had + length rs
heard_more rs NoTurn = omega arith
heard_more rs (Took own) = omega arith
heard_more rs Filled = omega arith

settled_within : (lines : List Line) (line : Line) (call : Call) (at : Playing) (rs : Replies) (n : ℕ) → slice_get lines (length at.answers) ≡ Some line
    → n ≤ sum_by line_turns (take (length at.answers) lines) + length rs → length rs ≤ line_turns line → IsWithin lines (settled (Some line) call at rs) n
settled_within lines line call at rs n here count few = go (is_some (sends call rs)) where
  answer : List ApiAnswer
  answer = api_answer call rs ∷ []

  more : length (at.answers ++ answer) ≡ length at.answers + 1
  more = length-append at.answers answer

  next : sum_by line_turns (take (length (at.answers ++ answer)) lines) ≡ sum_by line_turns (take (length at.answers) lines) + line_turns line
  next = ap (λ (k : ℕ). sum_by line_turns (take k lines)) more ∙ sum_next lines (length at.answers) line here

  go : (b : Bool) → IsWithin lines (cond b (record { answers = at.answers; handles = at.handles; replies = rs }) (record {
    answers = at.answers ++ api_answer call rs ∷ [];
    handles = kept at.handles (name_of line) (handle_after call rs);
    replies = [];
  })) n
  go true = record { count = count; few = subst (λ (o : Option Line). length rs ≤ turns_at o) (sym here) few }
  go false = record { count = omega (arith, next, count, few); few = omega arith }

within : (names : Names) (lines : List Line) (moves : List Move) → ArePlayable lines → Plays names lines moves → IsWithin lines (playing lines moves) (turns_in moves)
within names lines [] playable plays = record { count = omega arith; few = omega arith }
within names lines (m ∷ moves) playable plays =
    let at = playing lines moves in
    let w = within names lines moves playable plays.0 in
    let f = plays.1 in
    let less = λ (some : IsSome (sends m.call at.replies)). lines_end names at.handles f.line m.call at.replies (playable (length at.answers) f.line f.line_is) f.call some in
    let few = subst (λ (o : Option Line). length at.replies ≤ turns_at o) f.line_is w.few in
    let more = heard_more at.replies m.had in
    let count = w.count in
    subst (λ (o : Option Line). IsWithin lines (settled o m.call at (heard at.replies m.had)) (turns_had m.had + turns_in moves)) (sym f.line_is)
    (settled_within lines f.line m.call at (heard at.replies m.had) (turns_had m.had + turns_in moves) f.line_is
    (omega (arith, count, more)) (heard_few m.call at.replies m.had (line_turns f.line) few f.asked less))

-- a script makes no more turns than its lines have
pub script_within : (names : Names) (lines : List Line) (moves : List Move) → ArePlayable lines → Plays names lines moves → turns_in moves ≤ script_turns lines
script_within names lines moves playable plays = go (slice_get lines (length (playing lines moves).answers)) refl where
  w : IsWithin lines (playing lines moves) (turns_in moves)
  w = within names lines moves playable plays

  go : (o : Option Line) → slice_get lines (length (playing lines moves).answers) ≡ o → turns_in moves ≤ script_turns lines
  go None e =
      let few = subst (λ (p : Option Line). length (playing lines moves).replies ≤ turns_at p) e w.few in
      let le = sum_by-take-le line_turns lines (length (playing lines moves).answers) in
      let count = w.count in
      omega (arith, few, le, count)
  go (Some line) e =
      let few = subst (λ (p : Option Line). length (playing lines moves).replies ≤ turns_at p) e w.few in
      let next = sum_next lines (length (playing lines moves).answers) line e in
      let le = sum_by-take-le line_turns lines (length (playing lines moves).answers + 1) in
      let count = w.count in
      omega (arith, few, next, le, count)

-- ---- sums over all scripts

abbrev pub total : (ℕ → ℕ) → ℕ → ℕ
total f zero = 0
total f (suc n) = f n + total f n

total_zero : (n : ℕ) → total (λ k. 0) n ≡ 0
total_zero zero = refl
total_zero (suc n) = let rest = total_zero n in omega (arith, rest)

-- a number that one script adds
total_past : (script more : ℕ) (f : ℕ → ℕ) (n : ℕ) → n ≤ script → total (λ k. cond (eqb script k) more 0 + f k) n ≡ total f n
total_past script more f zero le = refl
total_past script more f (suc n) le =
    let rest = total_past script more f n (omega (arith, le)) in
    let apart : cond (eqb script n) more 0 ≡ 0 = ap (λ (b : Bool). cond b more 0) (ne_eqb script n (λ e. absurd (omega (arith, e, le)))) in
    omega (arith, rest, apart)

total_more : (script more : ℕ) (f : ℕ → ℕ) (n : ℕ) → script < n → total (λ k. cond (eqb script k) more 0 + f k) n ≡ more + total f n
total_more script more f zero lt = absurd (omega (arith, lt))
total_more script more f (suc n) lt = dite (ℕ_discrete script n)
    (λ e. let rest = total_past script more f n (omega (arith, e)) in
    let here : cond (eqb script n) more 0 ≡ more = ap (λ (b : Bool). cond b more 0) (eq-eqb script n e) in
    omega (arith, rest, here))
    (λ d. let rest = total_more script more f n (omega (arith, lt, d)) in
    let apart : cond (eqb script n) more 0 ≡ 0 = ap (λ (b : Bool). cond b more 0) (ne_eqb script n d) in
    omega (arith, rest, apart))

total_same : (f g : ℕ → ℕ) (n : ℕ) → ((k : ℕ) → f k ≡ g k) → total f n ≡ total g n
total_same f g zero e = refl
total_same f g (suc n) e = let rest = total_same f g n e in let here = e n in omega (arith, rest, here)

-- a sum over places is at most one over a list of as many
pub total_within : {A : Type 0} (f : ℕ → ℕ) (g : A → ℕ) (xs : List A) (n : ℕ) → n ≤ length xs → ((k : ℕ) (x : A) → slice_get xs k ≡ Some x → f k ≤ g x) → total f n ≤ sum_by g (take n xs)
total_within f g xs zero le all = omega arith
total_within f g xs (suc n) le all =
    let x = found xs n (omega (arith, le)) in
    let rest = total_within f g xs n (omega (arith, le)) all in
    let here = all n x.0 x.1 in
    let at = get_or_from_slice_get xs n x.0 x.0 x.1 in
    let gat : g (get_or xs n x.0) ≡ g x.0 = ap g at in
    let next = sum_by_more g xs n x.0 (omega (arith, le)) in
    let same : suc n ≡ n + 1 = omega arith in
    let one : sum_by g (take (suc n) xs) ≡ sum_by g (take (n + 1) xs) = ap (λ (k : ℕ). sum_by g (take k xs)) same in
    omega (arith, rest, here, gat, next, one)

pub total_le : (f g : ℕ → ℕ) (n : ℕ) → ((k : ℕ) → k < n → f k ≤ g k) → total f n ≤ total g n
total_le f g zero le = omega arith
total_le f g (suc n) le = let rest = total_le f g n (λ k lt. le k (omega (arith, lt))) in let here = le n (omega arith) in omega (arith, rest, here)

pub total_less : (f g : ℕ → ℕ) (n k : ℕ) → k < n → ((j : ℕ) → j < n → f j ≤ g j) → f k < g k → total f n < total g n
total_less f g zero k lt le less = absurd (omega (arith, lt))
total_less f g (suc n) k lt le less = dite (ℕ_discrete k n)
    (λ e. let rest = total_le f g n (λ j below. le j (omega (arith, below))) in
    let here : f n < g n = subst (λ (i : ℕ). f i < g i) e less in
    omega (arith, rest, here))
    (λ d. let rest = total_less f g n k (omega (arith, lt, d)) (λ j below. le j (omega (arith, below))) less in
    let here = le n (omega arith) in
    omega (arith, rest, here))

-- ---- a run

abbrev pub AreInside : ℕ → Run → Type 0
AreInside count [] = Unit {0}
AreInside count (t ∷ run) = AreInside count run × (t.script < count)

pub are_inside : (scripts : List (List Line)) (order : List ℕ) (run : Run) → Follows scripts order run → AreInside (length scripts) run
are_inside scripts [] run f = subst (λ (r : Run). AreInside (length scripts) r) (sym f) tt
are_inside scripts (k ∷ order) run f = elim f.2 [
  | inl x ↦ are_inside scripts order run x.1
  | inr x ↦ subst (λ (r : Run). AreInside (length scripts) r) (sym x.2) (are_inside scripts order x.1 x.3, slice_get_within scripts k f.0 f.1)
]

moves_more : (k : ℕ) (t : Turn) (run : Run) → turns_in (moves_of k (t ∷ run)) ≡ cond (eqb t.script k) (turns_had t.move.had) 0 + turns_in (moves_of k run)
moves_more k t run = go (eqb t.script k) where
  go : (b : Bool) → turns_in (cond b (t.move ∷ moves_of k run) (moves_of k run)) ≡ cond b (turns_had t.move.had) 0 + turns_in (moves_of k run)
  go true = refl
  go false = omega arith

-- the turns of a run are those of its scripts
turns_shared : (count : ℕ) (run : Run) → AreInside count run → turns_in (moves_in run) ≡ total (λ k. turns_in (moves_of k run)) count
turns_shared count [] inside = sym (total_zero count)
turns_shared count (t ∷ run) inside =
    let rest = turns_shared count run inside.0 in
    let same = total_same (λ k. turns_in (moves_of k (t ∷ run))) (λ k. cond (eqb t.script k) (turns_had t.move.had) 0 + turns_in (moves_of k run)) count (λ k. moves_more k t run) in
    let more = total_more t.script (turns_had t.move.had) (λ k. turns_in (moves_of k run)) count inside.1 in
    ap (λ (n : ℕ). turns_had t.move.had + n) rest ∙ sym (same ∙ more)

run_within : (names : Names) (scripts : List (List Line)) (run : Run) → AllPlayable scripts → AllPlay names scripts run → AreInside (length scripts) run → turns_in (moves_in run) ≤ all_turns scripts
run_within names scripts run playable plays inside =
    let shared = turns_shared (length scripts) run inside in
    let within = total_within (λ k. turns_in (moves_of k run)) script_turns scripts (length scripts) (omega arith)
    (λ k lines e. script_within names lines (moves_of k run) (playable k lines e) (plays k lines e)) in
    let le = sum_by-take-le script_turns scripts (length scripts) in
    omega (arith, shared, within, le)

card_within : (card : ℕ) (log : Log) → length (records_of card log) ≤ length log
card_within card [] = omega arith
card_within card (o ∷ log) = go (eqb o.card card) (card_within card log) where
  go : (b : Bool) → length (records_of card log) ≤ length log → length (cond b (o.did ∷ records_of card log) (records_of card log)) ≤ suc (length log)
  go true h = omega (arith, h)
  go false h = omega (arith, h)

-- no turn was answered Full, or a card has all its turns and there are more turns than records
abbrev pub FullOr : ℕ → (ℕ → ℕ) → (ℕ → ℕ) → List Move → Type 0
FullOr cards seen turns moves =
    NeverFull moves ⊎ ((length (share_of moves) < turns_in moves) × ((card : ℕ) × (card < cards) × (turns card ≤ seen card)))

pub share_within : (moves : List Move) → length (share_of moves) ≤ turns_in moves
share_within [] = omega arith
share_within (m ∷ moves) = go m.had (share_within moves) where
  go : (had : Had) → length (share_of moves) ≤ turns_in moves → length (with_own had (share_of moves)) ≤ turns_had had + turns_in moves
  go NoTurn h = omega (arith, h)
  go (Took own) h = omega (arith, h)
  go Filled h = omega (arith, h)

pub full_or : (cards : ℕ) (seen turns : ℕ → ℕ) (moves : List Move) → FullHasCause cards seen turns moves → FullOr cards seen turns moves
full_or cards seen turns [] f = inl tt
full_or cards seen turns (m ∷ moves) f = go m.had f.1 (full_or cards seen turns moves f.0) (share_within moves) where
  go : (had : Had) → WhereFilled had ((card : ℕ) × (card < cards) × (turns card ≤ seen card)) → FullOr cards seen turns moves → length (share_of moves) ≤ turns_in moves
      → (NeverFull moves × WhereFilled had ⊥) ⊎ ((length (with_own had (share_of moves)) < turns_had had + turns_in moves) × ((card : ℕ) × (card < cards) × (turns card ≤ seen card)))
  go NoTurn c r le = elim r [ inl x ↦ inl (x, tt) | inr x ↦ inr (let h = x.0 in omega (arith, h), x.1) ]
  go (Took own) c r le = elim r [ inl x ↦ inl (x, tt) | inr x ↦ inr (let h = x.0 in omega (arith, h), x.1) ]
  go Filled c r le = inr (omega (arith, le), c)

log_is_share : (run : Run) → log_of run ≡ share_of (moves_in run)
log_is_share [] = refl
log_is_share (t ∷ run) = ap (λ (l : Log). with_own t.move.had l) (log_is_share run)

pub never_full : (names : Names) (scripts : List (List Line)) (order : List ℕ) (cards : ℕ) (seen turns : ℕ → ℕ) (run : Run) → AllPlayable scripts → HasTurns cards turns (all_turns scripts)
    → ((card : ℕ) → seen card ≤ length (records_of card (log_of run))) → Follows scripts order run → AllPlay names scripts run → FullHasCause cards seen turns (moves_in run) → NeverFull (moves_in run)
never_full names scripts order cards seen turns run playable room owns follows plays full = go (full_or cards seen turns (moves_in run) full) where
  go : FullOr cards seen turns (moves_in run) → NeverFull (moves_in run)
  go r = elim r [
    | inl x ↦ x
    | inr x ↦
        let most = run_within names scripts run playable plays (are_inside scripts order run follows) in
        let own = owns x.1.0 in
        let few = card_within x.1.0 (log_of run) in
        let has = room x.1.0 x.1.1 in
        let less = x.0 in
        let same : length (log_of run) ≡ length (share_of (moves_in run)) = ap (λ (l : Log). length l) (log_is_share run) in
        let cause = x.1.2 in
        absurd (omega (arith, most, own, few, has, less, same, cause))
  ]
