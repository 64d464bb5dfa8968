-- The whole run.
use Rattle.std.specs.Prelude.{reverse}
use Rattle.std.proofs.Common.{◌≡◌, ℕ, List, [], ◌++◌, length, ap, subst, append-nil}
use Rattle.script_line.specs.declared.line.Line.{Line}
use Rattle.client_api.specs.Ports.{Log}
use Rattle.client_api.specs.Readers.{Names}
use Rattle.client_api.specs.Players.{Played}
use Rattle.script_runs.specs.Runs.{Run, log_of, rounds}
use Rattle.script_runs.specs.Progress.{EndsIn, HasRoom, PortAt, Ran, StandFor}
use Rattle.script_runs.proofs.Counting.{never_full}
use Rattle.script_runs.proofs.Rounds.{answered}

pub whole : (stands : Log → Type 0) (cards : ℕ) (seen turns : ℕ → ℕ) (names : Names) (scripts : List (List Line)) (schedule : List ℕ) (players : List Played)
    → EndsIn names scripts (reverse schedule ++ []) players (PortAt stands cards seen turns)
    → (run : Run) × Ran names scripts schedule players (PortAt stands cards seen turns) (HasRoom stands cards seen turns scripts) run
whole stands cards seen turns names scripts schedule players e =
    let order : rounds (length scripts) e.0 ++ (reverse schedule ++ []) ≡ rounds (length scripts) e.0 ++ reverse schedule =
    ap (λ (l : List ℕ). rounds (length scripts) e.0 ++ l) (append-nil (reverse schedule)) in
    let w : StandFor names scripts (rounds (length scripts) e.0 ++ reverse schedule) players e.1 =
    subst (λ (l : List ℕ). StandFor names scripts l players e.1) order e.2 in (
      e.1,
      record {
        scheduled = record { times = e.0; follows = w.follows; plays = w.plays; ended = e.4 };
        answered = answered names scripts (rounds (length scripts) e.0 ++ reverse schedule) players e.1 w;
        port_at = e.3;
        never_full = λ room.
            never_full names scripts (rounds (length scripts) e.0 ++ reverse schedule) cards seen turns e.1 room.playable room.turns_of
            (λ card. room.owns (log_of e.1) card e.3.stands) w.follows w.plays e.3.full;
      },
    )
