-- A script by itself goes on by its steps.
use Rattle.std.proofs.Common.{◌≡◌, ◌∙◌, ℕ, ◌<◌, ◌≤◌, Bool, true, false, List, [], ◌∷◌, length, sym, refl, ap, subst}
use Rattle.script_line.specs.declared.line.Line.{Line}
use Rattle.client_api.specs.Ports.{Log}
use Rattle.client_api.specs.Readers.{Names}
use Rattle.client_api.specs.Playing.{Playing, playing, Plays, Move, Fits, NamedHandle, moved}
use Rattle.client_api.specs.Players.{Played, IsPlaying, IsReady, AreHandlesOn, AreNamesOn, Moved, PlayerStepped}
use Rattle.script_runs.specs.Runs.{AreRising}
use Rattle.script_runs.specs.Turns.{WhereFilled, FullHasCause}
use Rattle.script_runs.specs.Shares.{share_of}
use Rattle.script_runs.specs.Alone.{PlaysAlone}
use Rattle.script_runs.specs.Progress.{begun}
use Rattle.script_runs.proofs.Going.{rises_on, full_stays, filled_here}

-- the script is where these steps have brought it
pub record IsAlone (names : Names) (lines : List Line) (player : Played) (now : Log → Type 0) (cards : ℕ) (seen turns : ℕ → ℕ) (moves : List Move) : Type 0 where
  pub plays : Plays names lines moves
  pub playing_on : IsPlaying player (playing lines moves)
  pub stands : now (share_of moves)
  pub rises : AreRising (share_of moves)
  pub full : FullHasCause cards seen turns moves

pub begun_ready : (cards : ℕ) (p : Played) → p ≡ begun p.lines → IsReady cards p
begun_ready cards p e = subst (λ (z : Played). IsReady cards z) (sym e) (record { handles = tt; call = tt })

pub begun_alone : (names : Names) (p : Played) (now : Log → Type 0) (cards : ℕ) (seen turns : ℕ → ℕ) → p ≡ begun p.lines → now [] → IsAlone names p.lines p now cards seen turns []
begun_alone names p now cards seen turns e stands = record {
  plays = tt;
  playing_on = subst (λ (z : Played). IsPlaying z (playing p.lines [])) (sym e) (record { answers = refl; handles = refl; call = refl });
  stands = stands;
  rises = tt;
  full = tt;
}

module _ (names : Names) (lines : List Line) (p q : Played) (old now : Log → Type 0) (cards cards' : ℕ) (seen turns seen' turns' : ℕ → ℕ)
    (ns : AreNamesOn cards names) (ready : IsReady cards p) (was : p.lines ≡ lines) (same : q.lines ≡ p.lines) (same_cards : cards' ≡ cards) (t : (c : ℕ) → turns' c ≡ turns c) (s : (c : ℕ) → seen c ≤ seen' c)
    (moves : List Move) (w : IsAlone names lines p old cards seen turns moves) where
  lines_are : q.lines ≡ lines
  lines_are = same ∙ was

  stays_full : FullHasCause cards' seen' turns' moves
  stays_full = subst (λ (c : ℕ). FullHasCause c seen' turns' moves) (sym same_cards) (full_stays cards seen turns seen' turns' moves t s w.full)

  pub alone_more : PlayerStepped true names (playing lines moves) q now seen' turns' (share_of moves) → (more : List Move) × IsAlone names lines q now cards' seen' turns' more
  alone_more d =
      let m : Move = d.0 in
      let fits : Fits names lines (playing lines moves) m = subst (λ (l : List Line). Fits names l (playing lines moves) m) lines_are d.1.fits in (
        m ∷ moves,
        record {
          plays = (w.plays, fits);
          playing_on = subst (λ (l : List Line). IsPlaying q (moved l (playing lines moves) m)) lines_are d.1.plays;
          stands = d.1.stands;
          rises = rises_on m.had (share_of moves) w.rises d.1.newest;
          full = (
            stays_full,
            subst (λ (c : ℕ). WhereFilled m.had ((card : ℕ) × (card < c) × (turns' card ≤ seen' card))) (sym same_cards)
                (filled_here cards names q.lines (playing lines moves) seen' turns' m ns (subst (λ (hs : List NamedHandle). AreHandlesOn cards hs) w.playing_on.handles ready.handles) d.1.fits d.1.cause),
          );
        },
      )

  pub alone_done : PlayerStepped false names (playing lines moves) q now seen' turns' (share_of moves) → (done : List Move) × PlaysAlone names lines q now cards' seen' turns' done
  alone_done d = (
    moves,
    record {
      plays = w.plays;
      ended = d.0 ∙ ap (λ (l : List Line). length l) lines_are;
      answered = d.1.answers;
      stands = d.2;
      rises = w.rises;
      full = stays_full;
    },
  )
