use Rattle.std.proofs.Common.{◌∙◌, ◌++◌, suc, length, arith}
use Rattle.script_runs.specs.Runs.{rounds}
use Rattle.script_runs.specs.Progress.{PortAt}
use Rattle.script_runs.proofs.Rounds.{ends, goes_round}
use Rattle.script_runs.proofs.scheduled.rounds_to_end.Goals as goal

pub rounds-preserved : goal.rounds-preserved
rounds-preserved g c = record {
  many = c.round.ensures.many ∙ c.rounds.invariant.many;
  cards = c.round.ensures.cards ∙ c.rounds.invariant.cards;
  bases = c.round.ensures.bases ∙ c.rounds.invariant.bases;
  turns = λ card. c.round.ensures.turns card ∙ c.rounds.invariant.turns card;
  seen = λ card. let a = c.round.ensures.seen card in let b = c.rounds.invariant.seen card in omega (arith, a, b);
  ready = c.round.ensures.ready;
  stands = λ scripts order run w port.
      let t = c.rounds.invariant.stands scripts order run w port in (
        suc t.0,
        goes_round c.in_ok-round.field-0 c.args.readers.now scripts order t.0 c.round.new.players.items
            (PortAt (g.P.Port.stands c.round.new.port) (g.P.Port.cards c.round.new.port) (g.P.Port.seen c.round.new.port) (g.P.Port.turns c.round.new.port))
            (c.in_ok-round.ensures.stands scripts (rounds (length scripts) t.0 ++ order) t.1.0 t.1.1 t.1.2),
      );
}

pub returns-clause-stands : goal.returns-clause-stands
returns-clause-stands g c scripts order run w port =
    let t = c.rounds.invariant.stands scripts order run w port in
    ends c.in_ok-round.field-0 c.args.readers.now scripts order t.0 c.round.new.players.items
    (PortAt (g.P.Port.stands c.round.new.port) (g.P.Port.cards c.round.new.port) (g.P.Port.seen c.round.new.port) (g.P.Port.turns c.round.new.port))
    c.if-branch.false (c.in_ok-round.ensures.stands scripts (rounds (length scripts) t.0 ++ order) t.1.0 t.1.1 t.1.2)
