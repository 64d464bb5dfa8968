use Rattle.std.proofs.Common.{◌≡◌, ◌≤◌, ℕ, []}
use Rattle.client_api.specs.Calls.{Call, Replies}
use Rattle.client_api.specs.Steps.{IsOn, left}
use Rattle.client_api.specs.Steps.{IsAt}
use Rattle.client_api.proofs.Going.{IsWithin}
use Rattle.client_api.proofs.whole.run.Given as goal

abbrev pub invariant-loop-answer : goal.invariant-loop-answer
invariant-loop-answer g l = record {
  on : IsOn (g.P.Port.cards l.port) l.call;
  within : (made : Call) → IsAt l.initial.call made [] → (replies : Replies) × IsWithin (g.P.Port.stands l.initial.port) (g.P.Port.stands l.port) l.call made replies;
  cards : g.P.Port.cards l.port ≡ g.P.Port.cards l.initial.port;
  bases : g.P.Port.bases l.port ≡ g.P.Port.bases l.initial.port;
  turns : (k : ℕ) → g.P.Port.turns l.port k ≡ g.P.Port.turns l.initial.port k;
  seen : (k : ℕ) → g.P.Port.seen l.initial.port k ≤ g.P.Port.seen l.port k;
}

abbrev pub decreases-loop-answer : goal.decreases-loop-answer
decreases-loop-answer g l = left l.call
