use Rattle.std.proofs.Common.{◌≡◌, ◌∙◌, ◌≤◌, ℕ, Bool, List, [], sym, refl, subst, arith}
use Rattle.client_api.specs.Readers.{Names}
use Rattle.client_api.specs.Playing.{Move, playing}
use Rattle.client_api.specs.Players.{AreNamesOn, PlayerStepped}
use Rattle.script_runs.specs.Shares.{share_of}
use Rattle.script_runs.specs.Alone.{PlaysAlone}
use Rattle.script_runs.proofs.AloneSteps.{IsAlone, begun_ready, begun_alone, alone_more, alone_done}
use Rattle.script_runs.proofs.alone.play_alone.Goals as goal

pub loop-init : goal.loop-init
loop-init g c = record {
  ready = begun_ready (g.P.Port.cards c.args.port.now) c.args.player.now c.requires.begun;
  names = c.requires.names;
  lines = refl;
  cards = refl;
  bases = refl;
  turns = λ card. refl;
  seen = λ card. omega arith;
  within = λ stands. ([], begun_alone c.args.readers.now c.args.player.now (g.P.Port.stands c.args.port.now) (g.P.Port.cards c.args.port.now) (g.P.Port.seen c.args.port.now) (g.P.Port.turns c.args.port.now) c.requires.begun stands);
}

pub loop-preserved : goal.loop-preserved
loop-preserved g c = record {
  ready = c.in_ok-step.ensures.ready;
  names = subst (λ (n : ℕ). AreNamesOn n c.args.readers.now) (sym c.in_ok-step.ensures.cards) c.loop.invariant.names;
  lines = c.in_ok-step.ensures.lines ∙ c.loop.invariant.lines;
  cards = c.in_ok-step.ensures.cards ∙ c.loop.invariant.cards;
  bases = c.in_ok-step.ensures.bases ∙ c.loop.invariant.bases;
  turns = λ card. c.in_ok-step.ensures.turns card ∙ c.loop.invariant.turns card;
  seen = λ card. let a = c.loop.invariant.seen card in let b = c.in_ok-step.ensures.seen card in omega (arith, a, b);
  within = λ stands.
      let w = c.loop.invariant.within stands in
      let lines = c.args.player.now.lines in
      let stepped = c.in_ok-step.ensures.stepped (playing lines w.0) (share_of w.0) w.1.playing_on w.1.stands in
      alone_more c.args.readers.now lines c.loop.player c.step.new.self (g.P.Port.stands c.loop.port) (g.P.Port.stands c.step.new.port) (g.P.Port.cards c.loop.port) (g.P.Port.cards c.step.new.port)
      (g.P.Port.seen c.loop.port) (g.P.Port.turns c.loop.port) (g.P.Port.seen c.step.new.port) (g.P.Port.turns c.step.new.port)
      c.loop.invariant.names c.loop.invariant.ready c.loop.invariant.lines c.in_ok-step.ensures.lines c.in_ok-step.ensures.cards c.in_ok-step.ensures.turns c.in_ok-step.ensures.seen w.0 w.1
      (subst (λ (b : Bool). PlayerStepped b c.args.readers.now (playing lines w.0) c.step.new.self (g.P.Port.stands c.step.new.port) (g.P.Port.seen c.step.new.port) (g.P.Port.turns c.step.new.port) (share_of w.0)) c.if-branch.true stepped);
}

pub returns-clause-played : goal.returns-clause-played
returns-clause-played g c stands =
    let w = c.loop.invariant.within stands in
    let lines = c.args.player.now.lines in
    let stepped = c.in_ok-step.ensures.stepped (playing lines w.0) (share_of w.0) w.1.playing_on w.1.stands in
    alone_done c.args.readers.now lines c.loop.player c.step.new.self (g.P.Port.stands c.loop.port) (g.P.Port.stands c.step.new.port) (g.P.Port.cards c.loop.port) (g.P.Port.cards c.step.new.port)
    (g.P.Port.seen c.loop.port) (g.P.Port.turns c.loop.port) (g.P.Port.seen c.step.new.port) (g.P.Port.turns c.step.new.port)
    c.loop.invariant.names c.loop.invariant.ready c.loop.invariant.lines c.in_ok-step.ensures.lines c.in_ok-step.ensures.cards c.in_ok-step.ensures.turns c.in_ok-step.ensures.seen w.0 w.1
    (subst (λ (b : Bool). PlayerStepped b c.args.readers.now (playing lines w.0) c.step.new.self (g.P.Port.stands c.step.new.port) (g.P.Port.seen c.step.new.port) (g.P.Port.turns c.step.new.port) (share_of w.0)) c.if-branch.false stepped)
