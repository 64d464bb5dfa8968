use Rattle.std.specs.Prelude.{reverse}
use Rattle.std.proofs.Common.{◌≡◌, ℕ, ◌≤◌, List, length, take, ◌++◌}
use Rattle.script_line.specs.declared.line.Line.{Line}
use Rattle.script_runs.specs.Runs.{Run}
use Rattle.script_runs.specs.Progress.{AllReady, GoesOn, PortAt, StandFor}
use Rattle.script_runs.proofs.scheduled.by_schedule.Given as goal

abbrev pub invariant-loop-k : goal.invariant-loop-k
invariant-loop-k g l = record {
  many : length l.players.items ≡ length l.initial.players.items;
  cards : g.P.Port.cards l.port ≡ g.P.Port.cards l.initial.port;
  bases : g.P.Port.bases l.port ≡ g.P.Port.bases l.initial.port;
  turns : (card : ℕ) → g.P.Port.turns l.port card ≡ g.P.Port.turns l.initial.port card;
  seen : (card : ℕ) → g.P.Port.seen l.initial.port card ≤ g.P.Port.seen l.port card;
  ready : AllReady (g.P.Port.cards l.port) l.players.items;
  stands : (scripts : List (List Line)) (order : List ℕ) (run : Run)
      → StandFor l.readers scripts order l.initial.players.items run
      → PortAt (g.P.Port.stands l.initial.port) (g.P.Port.cards l.initial.port) (g.P.Port.seen l.initial.port) (g.P.Port.turns l.initial.port) run
      → GoesOn l.readers scripts (reverse (take l.k-index l.schedule) ++ order) l.players.items
      (PortAt (g.P.Port.stands l.port) (g.P.Port.cards l.port) (g.P.Port.seen l.port) (g.P.Port.turns l.port));
}
