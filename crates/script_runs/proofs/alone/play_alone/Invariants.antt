use Rattle.std.proofs.Common.{◌≡◌, ◌≤◌, ℕ, List, []}
use Rattle.client_api.specs.Playing.{Move}
use Rattle.client_api.specs.Players.{IsReady, AreNamesOn, steps_left}
use Rattle.script_runs.proofs.AloneSteps.{IsAlone}
use Rattle.script_runs.proofs.alone.play_alone.Given as goal

abbrev pub invariant-loop : goal.invariant-loop
invariant-loop g l = record {
  ready : IsReady (g.P.Port.cards l.port) l.player;
  names : AreNamesOn (g.P.Port.cards l.port) l.readers;
  lines : l.player.lines ≡ l.initial.player.lines;
  cards : g.P.Port.cards l.port ≡ g.P.Port.cards l.initial.port;
  bases : g.P.Port.bases l.port ≡ g.P.Port.bases l.initial.port;
  turns : (card : ℕ) → g.P.Port.turns l.port card ≡ g.P.Port.turns l.initial.port card;
  seen : (card : ℕ) → g.P.Port.seen l.initial.port card ≤ g.P.Port.seen l.port card;
  within : g.P.Port.stands l.initial.port [] → (moves : List Move) × IsAlone l.readers l.initial.player.lines l.player (g.P.Port.stands l.port) (g.P.Port.cards l.port) (g.P.Port.seen l.port) (g.P.Port.turns l.port) moves;
}

abbrev pub decreases-loop : goal.decreases-loop
decreases-loop g l = steps_left l.player
