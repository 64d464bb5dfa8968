use Rattle.std.specs.Bool.{OnTrue}
use Rattle.std.proofs.Common.{◌≡◌, ℕ, ◌≤◌, ◌<◌, List, length}
use Rattle.script_line.specs.declared.line.Line.{Line}
use Rattle.script_runs.specs.Runs.{Run}
use Rattle.script_runs.specs.Progress.{all_left, AllReady, PortAt, StandFor}
use Rattle.script_runs.proofs.Rounds.{RoundSoFar}
use Rattle.script_runs.proofs.scheduled.round.Given as goal

abbrev pub invariant-loop-k : goal.invariant-loop-k
invariant-loop-k g l = record {
  many : length l.players.items ≡ length l.initial.players.items;
  cards : g.P.Port.cards l.port ≡ g.P.Port.cards l.initial.port;
  bases : g.P.Port.bases l.port ≡ g.P.Port.bases l.initial.port;
  turns : (card : ℕ) → g.P.Port.turns l.port card ≡ g.P.Port.turns l.initial.port card;
  seen : (card : ℕ) → g.P.Port.seen l.initial.port card ≤ g.P.Port.seen l.port card;
  ready : AllReady (g.P.Port.cards l.port) l.players.items;
  fewer : all_left l.players.items ≤ all_left l.initial.players.items;
  falls : OnTrue l.any (all_left l.players.items < all_left l.initial.players.items);
  stands : (scripts : List (List Line)) (order : List ℕ) (run : Run)
      → StandFor l.readers scripts order l.initial.players.items run
      → PortAt (g.P.Port.stands l.initial.port) (g.P.Port.cards l.initial.port) (g.P.Port.seen l.initial.port) (g.P.Port.turns l.initial.port) run
      → RoundSoFar l.any l.readers scripts l.k order l.players.items
      (PortAt (g.P.Port.stands l.port) (g.P.Port.cards l.port) (g.P.Port.seen l.port) (g.P.Port.turns l.port));
}
