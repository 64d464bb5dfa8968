-- Rounds of all scripts.
use Rattle.std.proofs.Common.{◌≡◌, ◌∙◌, ℕ, suc, ◌+◌, ◌<◌, ◌≤◌, Bool, true, false, List, [], ◌∷◌, ◌++◌, length, Some, sym, refl, ap, subst, arith, append_assoc}
use mathlib.Core.Logic.{dite}
use native.Mathlib.Decide.{ℕ_discrete}
use Rattle.std.specs.Prelude.{slice_get}
use Rattle.std.specs.Bool.{OnTrue, OnFalse}
use Rattle.std.proofs.lemmas.Option.{slice_get_within}
use Rattle.std.proofs.lemmas.List.{length-map}
use Rattle.script_line.specs.declared.line.Line.{Line}
use Rattle.client_api.specs.Ports.{Log}
use Rattle.client_api.specs.Readers.{Names}
use Rattle.client_api.specs.Playing.{playing}
use Rattle.client_api.specs.Players.{Played, IsPlaying, IsReady}
use Rattle.script_runs.specs.Runs.{Run, moves_of, round, rounds, HasEnded, Answered}
use Rattle.script_runs.specs.Progress.{begun, scripts_of, answers_of, AreBegun, AllReady, StandFor, GoesOn, StepOne, EndedBelow, Rounded, EndsIn, PortAt}
use Rattle.script_runs.proofs.Listed.{mapped, unmapped}

ended_more : (scripts : List (List Line)) (n : ℕ) (run : Run) → EndedBelow scripts n run → ((lines : List Line) → slice_get scripts n ≡ Some lines → HasEnded lines (moves_of n run)) → EndedBelow scripts (n + 1) run
ended_more scripts n run all here k lines lt e = dite (ℕ_discrete k n)
    (λ s. subst (λ (i : ℕ). HasEnded lines (moves_of i run)) (sym s) (here lines (subst (λ (i : ℕ). slice_get scripts i ≡ Some lines) s e)))
    (λ d. all k lines (omega (arith, lt, d)) e)

-- a round as far as script n
abbrev pub RoundSoFar : Bool → Names → List (List Line) → ℕ → List ℕ → List Played → (Run → Type 0) → Type 0
RoundSoFar any names scripts n order players port =
    (run : Run) × StandFor names scripts (round n ++ order) players run × port run × OnFalse any (EndedBelow scripts n run)

longer : (names : Names) (scripts : List (List Line)) (k : ℕ) (order : List ℕ) (players : List Played) (run : Run) → StandFor names scripts (k ∷ round k ++ order) players run → StandFor names scripts (round (k + 1) ++ order) players run
longer names scripts k order players run w = subst (λ (n : ℕ). StandFor names scripts (round n ++ order) players run) (sym one) w where
  one : k + 1 ≡ suc k
  one = omega arith

-- a script that made a step
pub round_more : (names : Names) (scripts : List (List Line)) (k : ℕ) (order : List ℕ) (players : List Played) (port : Run → Type 0) (run : Run) (more any : Bool)
    → more ≡ true → any ≡ true → StepOne more names scripts k (round k ++ order) players port run → RoundSoFar any names scripts (k + 1) order players port
round_more names scripts k order players port run true any m a s =
    (s.0, longer names scripts k order players s.0 s.1, s.2, subst (λ b. OnFalse b (EndedBelow scripts (k + 1) s.0)) (sym a) tt)
round_more names scripts k order players port run false any m a s = absurd (cc)

-- a script that had ended
pub round_less : (names : Names) (scripts : List (List Line)) (k : ℕ) (order : List ℕ) (players : List Played) (port : Run → Type 0) (run : Run) (more any : Bool)
    → more ≡ false → OnFalse any (EndedBelow scripts k run) → StepOne more names scripts k (round k ++ order) players port run → RoundSoFar any names scripts (k + 1) order players port
round_less names scripts k order players port run true any m e s = absurd (cc)
round_less names scripts k order players port run false true m e s = (run, longer names scripts k order players run s.0, s.1, tt)
round_less names scripts k order players port run false false m e s = (run, longer names scripts k order players run s.0, s.1, ended_more scripts k run e s.2)

pub round_whole : (any : Bool) (names : Names) (scripts : List (List Line)) (n : ℕ) (order : List ℕ) (players : List Played) (port : Run → Type 0)
    → n ≡ length scripts → RoundSoFar any names scripts n order players port → Rounded any names scripts (round (length scripts) ++ order) players port
round_whole true names scripts n order players port e r = (r.0, subst (λ (m : ℕ). StandFor names scripts (round m ++ order) players r.0) e r.1, r.2, tt)
round_whole false names scripts n order players port e r =
    (r.0, subst (λ (m : ℕ). StandFor names scripts (round m ++ order) players r.0) e r.1, r.2, λ k lines at. r.3 k lines (let lt = slice_get_within scripts k lines at in omega (arith, lt, e)) at)

-- one more round
pub once_more : (names : Names) (scripts : List (List Line)) (order : List ℕ) (times : ℕ) (players : List Played) (run : Run)
    → StandFor names scripts (round (length scripts) ++ (rounds (length scripts) times ++ order)) players run → StandFor names scripts (rounds (length scripts) (suc times) ++ order) players run
once_more names scripts order times players run w =
    subst (λ (l : List ℕ). StandFor names scripts l players run) (sym (append_assoc (round (length scripts)) (rounds (length scripts) times) order)) w

-- where all have ended
pub ends : (more : Bool) (names : Names) (scripts : List (List Line)) (order : List ℕ) (times : ℕ) (players : List Played) (port : Run → Type 0)
    → more ≡ false → Rounded more names scripts (round (length scripts) ++ (rounds (length scripts) times ++ order)) players port → EndsIn names scripts order players port
ends true names scripts order times players port e r = absurd (cc)
ends false names scripts order times players port e r = (suc times, r.0, once_more names scripts order times players r.0 r.1, r.2, r.3)

pub goes_round : (more : Bool) (names : Names) (scripts : List (List Line)) (order : List ℕ) (times : ℕ) (players : List Played) (port : Run → Type 0)
    → Rounded more names scripts (round (length scripts) ++ (rounds (length scripts) times ++ order)) players port → GoesOn names scripts (rounds (length scripts) (suc times) ++ order) players port
goes_round more names scripts order times players port r = (r.0, once_more names scripts order times players r.0 r.1, r.2)

-- ---- the beginning and the end

begun_at : (players : List Played) → AreBegun players → (k : ℕ) (p : Played) → slice_get players k ≡ Some p → p ≡ begun p.lines
begun_at players b k p e =
    let u = unmapped begun (scripts_of players) k p (subst (λ (l : List Played). slice_get l k ≡ Some p) b e) in
    sym u.2 ∙ ap begun (ap (λ (z : Played). z.lines) u.2)

pub begins : (names : Names) (players : List Played) → AreBegun players → StandFor names (scripts_of players) [] players []
begins names players b = record {
  theirs = refl;
  follows = refl;
  plays = λ k lines e. tt;
  playing_on = λ k p e. subst (λ (z : Played). IsPlaying z (playing z.lines [])) (sym (begun_at players b k p e)) (record { answers = refl; handles = refl; call = refl });
}

pub ready_begun : (cards : ℕ) (players : List Played) → AreBegun players → AllReady cards players
ready_begun cards players b k p e = subst (λ (z : Played). IsReady cards z) (sym (begun_at players b k p e)) (record { handles = tt; call = tt })

pub port_begins : (now : Log → Type 0) (cards : ℕ) (seen turns : ℕ → ℕ) → now [] → PortAt now cards seen turns []
port_begins now cards seen turns h = record { stands = h; rises = tt; full = tt }

pub answered : (names : Names) (scripts : List (List Line)) (order : List ℕ) (players : List Played) (run : Run) → StandFor names scripts order players run → Answered scripts (answers_of players) run
answered names scripts order players run w = record {
  many = length-map players (λ (p : Played). p.answers) ∙ (sym (length-map players (λ (p : Played). p.lines)) ∙ ap (λ (s : List (List Line)). length s) w.theirs);
  each = λ k lines e.
      let u = unmapped (λ (p : Played). p.lines) players k lines (subst (λ (s : List (List Line)). slice_get s k ≡ Some lines) (sym w.theirs) e) in
      mapped (λ (p : Played). p.answers) players k u.0 u.1
      ∙ ap Some ((w.playing_on k u.0 u.1).answers ∙ ap (λ (l : List Line). (playing l (moves_of k run)).answers) u.2);
}

-- ---- how many steps are left

pub falls_more : (any : Bool) (new old first : ℕ) → new < old → old ≤ first → OnTrue any (new < first)
falls_more true new old first less fewer = omega (arith, less, fewer)
falls_more false new old first less fewer = tt

pub falls_less : (any before : Bool) (new old first : ℕ) → any ≡ before → new ≡ old → OnTrue before (old < first) → OnTrue any (new < first)
falls_less true true new old first e same falls = omega (arith, same, falls)
falls_less true false new old first e same falls = absurd (cc)
falls_less false before new old first e same falls = tt

pub same_length : (players : List Played) (scripts : List (List Line)) → scripts_of players ≡ scripts → length players ≡ length scripts
same_length players scripts e = sym (length-map players (λ (p : Played). p.lines)) ∙ ap (λ (s : List (List Line)). length s) e
