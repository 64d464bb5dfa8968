-- The run goes on by a step of one script.
use Rattle.std.proofs.Common.{◌≡◌, ◌≢◌, ◌∙◌, inl, inr, ℕ, ◌<◌, ◌≤◌, Bool, true, false, cond, eq-eqb, ne_eqb, List, [], ◌∷◌, length, set, Option, Some, None, Result, Ok, Err, sym, refl, ap, subst, arith}
use mathlib.Core.Logic.{dite}
use native.Mathlib.Decide.{ℕ_discrete}
use Rattle.std.specs.Prelude.{IfOk, IsSome, slice_get}
use Rattle.std.proofs.Common.{get_or}
use Rattle.std.proofs.lemmas.Option.{slice_get_within, get_or_from_slice_get}
use Rattle.std.proofs.lemmas.List.Sums.{sum_by-set}
use Rattle.piv_model.specs.declared.no_memory.NoMemory.{NoMemory}
use Rattle.script_line.specs.declared.line.Line.{Line}
use Rattle.client_api.specs.Calls.{Asked, sends}
use Rattle.client_api.specs.Ports.{Log}
use Rattle.client_api.specs.Readers.{Names}
use Rattle.client_api.specs.Playing.{Playing, playing, Plays, Had, NoTurn, Took, Filled, Move, Fits, HasAsked, NamedHandle, moved, with_own}
use Rattle.client_api.specs.Players.{Played, IsPlaying, IsReady, AreHandlesOn, AreNamesOn, Moved, PlayerStepped, IsNewest, HasCause, steps_left}
use Rattle.client_api.proofs.CardLaws.{calls_on}
use Rattle.script_runs.specs.Runs.{Turn, Run, moves_of, log_of, AreRising, HasEnded}
use Rattle.script_runs.specs.Turns.{WhereFilled, moves_in, FullHasCause}
use Rattle.script_runs.specs.Progress.{scripts_of, all_left, AllReady, PortAt, StandFor, GoesOn, StepOne}
use Rattle.script_runs.proofs.Listed.{set_same, set_apart, one, map_kept, mapped}

moves_here : (k : ℕ) (m : Move) (run : Run) → moves_of k (record { script = k; move = m } ∷ run) ≡ m ∷ moves_of k run
moves_here k m run = ap (λ b. cond b (m ∷ moves_of k run) (moves_of k run)) (eq-eqb k k refl)

moves_other : (j k : ℕ) (m : Move) (run : Run) → j ≢ k → moves_of j (record { script = k; move = m } ∷ run) ≡ moves_of j run
moves_other j k m run n = ap (λ b. cond b (m ∷ moves_of j run) (moves_of j run)) (ne_eqb k j (λ e. n (sym e)))

-- ---- the port

pub rises_on : (had : Had) (log : Log) → AreRising log → IsNewest had log → AreRising (with_own had log)
rises_on NoTurn log r n = r
rises_on (Took own) log r n = (r, n)
rises_on Filled log r n = r

pub full_stays : (cards : ℕ) (seen turns seen' turns' : ℕ → ℕ) (moves : List Move) → ((c : ℕ) → turns' c ≡ turns c) → ((c : ℕ) → seen c ≤ seen' c)
    → FullHasCause cards seen turns moves → FullHasCause cards seen' turns' moves
full_stays cards seen turns seen' turns' [] t s f = tt
full_stays cards seen turns seen' turns' (m ∷ moves) t s f = (full_stays cards seen turns seen' turns' moves t s f.0, go m.had f.1) where
  go : (had : Had) → WhereFilled had ((card : ℕ) × (card < cards) × (turns card ≤ seen card)) → WhereFilled had ((card : ℕ) × (card < cards) × (turns' card ≤ seen' card))
  go NoTurn h = tt
  go (Took own) h = tt
  go Filled h = let a = t h.0 in let b = s h.0 in let c = h.2 in (h.0, h.1, omega (arith, a, b, c))

-- a turn that was answered Full has its card among the port's
pub filled_here : (cards : ℕ) (names : Names) (lines : List Line) (at : Playing) (seen turns : ℕ → ℕ) (m : Move) → AreNamesOn cards names → AreHandlesOn cards at.handles → Fits names lines at m
    → HasCause seen turns m.had (sends m.call at.replies) → WhereFilled m.had ((card : ℕ) × (card < cards) × (turns card ≤ seen card))
filled_here cards names lines at seen turns m ns hs fits cause = go m.had fits.asked cause where
  asks : (o : Option Asked) → sends m.call at.replies ≡ o → IsSome o → HasCause seen turns Filled o → (card : ℕ) × (card < cards) × (turns card ≤ seen card)
  asks None e s c = absurd (cc)
  asks (Some x) e s c = (x.card, calls_on cards names at.handles fits.line m.call at.replies x ns hs fits.call e, omega (arith, c))

  go : (had : Had) → HasAsked m.call at.replies had → HasCause seen turns had (sends m.call at.replies)
      → WhereFilled had ((card : ℕ) × (card < cards) × (turns card ≤ seen card))
  go NoTurn a c = tt
  go (Took own) a c = tt
  go Filled a c = asks (sends m.call at.replies) refl a c

-- ---- the players

module _ (names : Names) (scripts : List (List Line)) (order : List ℕ) (ps : List Played) (k : ℕ) (p q : Played) (run : Run) (at : slice_get ps k ≡ Some p) (same : q.lines ≡ p.lines) (w : StandFor names scripts order ps run) where
  lines_at : slice_get scripts k ≡ Some p.lines
  lines_at = subst (λ (s : List (List Line)). slice_get s k ≡ Some p.lines) w.theirs (mapped (λ (z : Played). z.lines) ps k p at)

  still_theirs : scripts_of (set ps k q) ≡ scripts
  still_theirs = map_kept (λ (z : Played). z.lines) ps k p q at same ∙ w.theirs

  -- the others are where they were
  playing_after : (after : Run) → IsPlaying q (playing q.lines (moves_of k after)) → ((j : ℕ) → j ≢ k → moves_of j after ≡ moves_of j run)
      → (j : ℕ) (r : Played) → slice_get (set ps k q) j ≡ Some r → IsPlaying r (playing r.lines (moves_of j after))
  playing_after after here apart j r e = dite (ℕ_discrete j k)
      (λ jk. let r_is : q ≡ r = set_same ps k q r (subst (λ (i : ℕ). slice_get (set ps k q) i ≡ Some r) jk e) in
      subst (λ (i : ℕ). IsPlaying r (playing r.lines (moves_of i after))) (sym jk) (subst (λ (z : Played). IsPlaying z (playing z.lines (moves_of k after))) r_is here))
      (λ n. subst (λ (s : List Move). IsPlaying r (playing r.lines s)) (sym (apart j n)) (w.playing_on j r (sym (set_apart ps k j q n) ∙ e)))

  goes_on : (now : Log → Type 0) (seen turns : ℕ → ℕ) (m : Move) → Moved names (playing p.lines (moves_of k run)) q now seen turns (log_of run) m
      → StandFor names scripts (k ∷ order) (set ps k q) (record { script = k; move = m } ∷ run)
  goes_on now seen turns m moves =
      let t : Turn = record { script = k; move = m } in
      let here = moves_here k m run in record {
        theirs = still_theirs;
        follows = (p.lines, lines_at, inr (m, run, refl, w.follows));
        plays = λ j ls e. dite (ℕ_discrete j k)
            (λ jk. let l : p.lines ≡ ls = one scripts k p.lines ls lines_at (subst (λ (i : ℕ). slice_get scripts i ≡ Some ls) jk e) in
            let fits : Fits names p.lines (playing p.lines (moves_of k run)) m = subst (λ (z : List Line). Fits names z (playing p.lines (moves_of k run)) m) same moves.fits in
            let done : Plays names p.lines (moves_of k (t ∷ run)) = subst (λ (s : List Move). Plays names p.lines s) (sym here) (w.plays k p.lines lines_at, fits) in
            subst (λ (z : ℕ × List Line). Plays names z.1 (moves_of z.0 (t ∷ run))) (λ i. (sym jk i, l i)) done)
            (λ n. subst (λ (s : List Move). Plays names ls s) (sym (moves_other j k m run n)) (w.plays j ls e));
        playing_on = playing_after (t ∷ run)
            (subst (λ (s : List Move). IsPlaying q (playing q.lines s)) (sym here)
            (subst (λ (z : List Line). IsPlaying q (moved q.lines (playing z (moves_of k run)) m)) (sym same) moves.plays))
            (λ j n. moves_other j k m run n);
      }

  stays : length (playing p.lines (moves_of k run)).answers ≡ length q.lines → IsPlaying q (playing p.lines (moves_of k run)) → StandFor names scripts (k ∷ order) (set ps k q) run
  stays ended on = record {
    theirs = still_theirs;
    follows = (p.lines, lines_at, inl (ended ∙ ap (λ (l : List Line). length l) same, w.follows));
    plays = w.plays;
    playing_on = playing_after run (subst (λ (z : List Line). IsPlaying q (playing z (moves_of k run))) (sym same) on) (λ j n. refl);
  }

  all_ended : length (playing p.lines (moves_of k run)).answers ≡ length q.lines → (ls : List Line) → slice_get scripts k ≡ Some ls → HasEnded ls (moves_of k run)
  all_ended ended ls e = subst (λ (l : List Line). HasEnded l (moves_of k run)) (one scripts k p.lines ls lines_at e) (ended ∙ ap (λ (l : List Line). length l) same)

  stepped : (old now : Log → Type 0) (cards cards' : ℕ) (seen turns seen' turns' : ℕ → ℕ) (more : Bool)
      → AreNamesOn cards names → IsReady cards p → cards' ≡ cards → ((c : ℕ) → turns' c ≡ turns c) → ((c : ℕ) → seen c ≤ seen' c)
      → ((at : Playing) (log : Log) → IsPlaying p at → old log → PlayerStepped more names at q now seen' turns' log)
      → PortAt old cards seen turns run → StepOne more names scripts k order (set ps k q) (PortAt now cards' seen' turns') run
  stepped old now cards cards' seen turns seen' turns' more ns ready same_cards t s does port = go more done where
    on : IsPlaying p (playing p.lines (moves_of k run))
    on = w.playing_on k p at

    done : PlayerStepped more names (playing p.lines (moves_of k run)) q now seen' turns' (log_of run)
    done = does (playing p.lines (moves_of k run)) (log_of run) on port.stands

    full : FullHasCause cards' seen' turns' (moves_in run)
    full = subst (λ (c : ℕ). FullHasCause c seen' turns' (moves_in run)) (sym same_cards) (full_stays cards seen turns seen' turns' (moves_in run) t s port.full)

    go : (b : Bool) → PlayerStepped b names (playing p.lines (moves_of k run)) q now seen' turns' (log_of run) → StepOne b names scripts k order (set ps k q) (PortAt now cards' seen' turns') run
    go true d = (
      record { script = k; move = d.0 } ∷ run,
      goes_on now seen' turns' d.0 d.1,
      record {
        stands = d.1.stands;
        rises = rises_on d.0.had (log_of run) port.rises d.1.newest;
        full = (
          full,
          subst (λ (c : ℕ). WhereFilled d.0.had ((card : ℕ) × (card < c) × (turns' card ≤ seen' card))) (sym same_cards)
              (filled_here cards names q.lines (playing p.lines (moves_of k run)) seen' turns' d.0 ns (subst (λ (hs : List NamedHandle). AreHandlesOn cards hs) on.handles ready.handles) d.1.fits d.1.cause),
        );
      },
    )
    go false d = (stays d.0 d.1, record { stands = d.2; rises = port.rises; full = full }, all_ended d.0)

pub stepped_ok : (r : Result Bool NoMemory) (names : Names) (ps : List Played) (k : ℕ) (p q : Played) (old now : Log → Type 0) (cards cards' : ℕ) (seen turns seen' turns' : ℕ → ℕ)
    → slice_get ps k ≡ Some p → q.lines ≡ p.lines → AreNamesOn cards names → IsReady cards p → cards' ≡ cards → ((c : ℕ) → turns' c ≡ turns c) → ((c : ℕ) → seen c ≤ seen' c)
    → IfOk r (λ more. (at : Playing) (log : Log) → IsPlaying p at → old log → PlayerStepped more names at q now seen' turns' log)
    → IfOk r (λ more. (scripts : List (List Line)) (order : List ℕ) (run : Run) → StandFor names scripts order ps run → PortAt old cards seen turns run
    → StepOne more names scripts k order (set ps k q) (PortAt now cards' seen' turns') run)
stepped_ok (Ok more) names ps k p q old now cards cards' seen turns seen' turns' at same ns ready sc t s does = λ scripts order run w port.
    stepped names scripts order ps k p q run at same w old now cards cards' seen turns seen' turns' more ns ready sc t s does port
stepped_ok (Err e) names ps k p q old now cards cards' seen turns seen' turns' at same ns ready sc t s does = tt

pub ready_set : (cards : ℕ) (ps : List Played) (k : ℕ) (q : Played) → AllReady cards ps → IsReady cards q → AllReady cards (set ps k q)
ready_set cards ps k q all is j r e = dite (ℕ_discrete j k)
    (λ jk. subst (λ (z : Played). IsReady cards z) (set_same ps k q r (subst (λ (i : ℕ). slice_get (set ps k q) i ≡ Some r) jk e)) is)
    (λ n. all j r (sym (set_apart ps k j q n) ∙ e))

pub step_goes : (more : Bool) (names : Names) (scripts : List (List Line)) (k : ℕ) (order : List ℕ) (players : List Played) (port : Run → Type 0) (run : Run)
    → StepOne more names scripts k order players port run → GoesOn names scripts (k ∷ order) players port
step_goes true names scripts k order players port run s = s
step_goes false names scripts k order players port run s = (run, s.0, s.1)

-- ---- how many steps are left

pub left_falls : (ps : List Played) (k : ℕ) (p q : Played) → slice_get ps k ≡ Some p → steps_left q < steps_left p → all_left (set ps k q) < all_left ps
left_falls ps k p q at less =
    let sums = sum_by-set steps_left ps k q p (slice_get_within ps k p at) in
    let here : steps_left (get_or ps k p) ≡ steps_left p = ap steps_left (get_or_from_slice_get ps k p p at) in
    omega (arith, sums, here, less)

pub left_same : (ps : List Played) (k : ℕ) (p q : Played) → slice_get ps k ≡ Some p → q ≡ p → all_left (set ps k q) ≡ all_left ps
left_same ps k p q at same =
    let sums = sum_by-set steps_left ps k q p (slice_get_within ps k p at) in
    let here : steps_left (get_or ps k p) ≡ steps_left p = ap steps_left (get_or_from_slice_get ps k p p at) in
    let is : steps_left q ≡ steps_left p = ap steps_left same in
    omega (arith, sums, here, is)
