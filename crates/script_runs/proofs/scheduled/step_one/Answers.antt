use Rattle.std.proofs.Common.{ℕ, sym, subst}
use Rattle.script_runs.specs.Progress.{AllReady}
use Rattle.script_runs.proofs.Going.{stepped_ok, ready_set, left_falls, left_same}
use Rattle.script_runs.proofs.Listed.{there}
use Rattle.script_runs.proofs.scheduled.step_one.Goals as goal

pub step-requires-clause-ready : goal.step-requires-clause-ready
step-requires-clause-ready g c = c.requires.ready c.args.k c.index_mut.result.now (there c.args.players.now.items c.args.k c.index_mut.result.now c.requires.inside c.index_mut.ensures.value)

pub returns-clause-stands : goal.returns-clause-stands
returns-clause-stands g c =
    let at = there c.args.players.now.items c.args.k c.index_mut.result.now c.requires.inside c.index_mut.ensures.value in
    stepped_ok c.step.result c.args.readers.now c.args.players.now.items c.args.k c.index_mut.result.now c.step.new.self
    (g.P.Port.stands c.args.port.now) (g.P.Port.stands c.step.new.port) (g.P.Port.cards c.args.port.now) (g.P.Port.cards c.step.new.port)
    (g.P.Port.seen c.args.port.now) (g.P.Port.turns c.args.port.now) (g.P.Port.seen c.step.new.port) (g.P.Port.turns c.step.new.port)
    at c.step.ensures.lines c.requires.names (c.requires.ready c.args.k c.index_mut.result.now at) c.step.ensures.cards c.step.ensures.turns c.step.ensures.seen c.step.ensures.stepped

pub returns-clause-falls : goal.returns-clause-falls
returns-clause-falls g c e =
    left_falls c.args.players.now.items c.args.k c.index_mut.result.now c.step.new.self
    (there c.args.players.now.items c.args.k c.index_mut.result.now c.requires.inside c.index_mut.ensures.value) (c.step.ensures.falls e)

pub returns-clause-same : goal.returns-clause-same
returns-clause-same g c e =
    left_same c.args.players.now.items c.args.k c.index_mut.result.now c.step.new.self
    (there c.args.players.now.items c.args.k c.index_mut.result.now c.requires.inside c.index_mut.ensures.value) (c.step.ensures.nothing e).0

pub returns-clause-ready : goal.returns-clause-ready
returns-clause-ready g c =
    ready_set (g.P.Port.cards c.step.new.port) c.args.players.now.items c.args.k c.step.new.self
    (subst (λ (n : ℕ). AllReady n c.args.players.now.items) (sym c.step.ensures.cards) c.requires.ready) c.step.ensures.ready
