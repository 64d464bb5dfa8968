use Rattle.std.proofs.Common.{◌∙◌, ap}
use Rattle.client_api.specs.Players.{Played}
use Rattle.client_api.proofs.PlayerSteps.{player_stepped}
use Rattle.client_api.proofs.player.Player.step.Goals as goal

pub step-step-requires : goal.step-step-requires
step-step-requires g c = c.in_ok-call.ensures.on (g.P.Port.cards c.args.port.now) c.requires.ready c.requires.names

pub returns-clause-stepped : goal.returns-clause-stepped
returns-clause-stepped g c at log is h =
    let n = c.in_ok-call.ensures.next at is in
    player_stepped c.args.readers.now at c.next_call.new.self c.close.new.self c.in_ok-call.call c.step-step.new.self c.step-step.result
    (g.P.Port.stands c.args.port.now) (g.P.Port.stands c.step-step.new.port) (g.P.Port.seen c.step-step.new.port) (g.P.Port.turns c.step-step.new.port) log
    c.close.ensures.closed (ap (λ (z : Played). z.answers) c.in_ok-call.ensures.kept ∙ is.answers) (ap (λ (z : Played). z.handles) c.in_ok-call.ensures.kept ∙ is.handles)
    n (c.step-step.ensures.stepped n.call at.replies n.is_at) h
