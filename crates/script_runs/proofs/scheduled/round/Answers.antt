use Rattle.std.specs.Bool.{OnFalse}
use Rattle.std.proofs.Common.{◌≡◌, ◌∙◌, ◌++◌, length, Ok, sym, ap, subst, Bool, arith}
use Rattle.script_runs.specs.Progress.{all_left, EndedBelow, PortAt}
use Rattle.script_runs.specs.Runs.{round as round_of}
use Rattle.script_runs.proofs.Rounds.{round_more, round_less, round_whole, falls_more, falls_less, same_length}
use Rattle.script_runs.proofs.scheduled.round.Goals.{then-branch, else-branch}
use Rattle.script_runs.proofs.scheduled.round.Goals as goal

pub loop-k-preserved : goal.loop-k-preserved
loop-k-preserved g c = record {
  many = c.step_one.ensures.many ∙ c.loop-k.invariant.many;
  cards = c.step_one.ensures.cards ∙ c.loop-k.invariant.cards;
  bases = c.step_one.ensures.bases ∙ c.loop-k.invariant.bases;
  turns = λ card. c.step_one.ensures.turns card ∙ c.loop-k.invariant.turns card;
  seen = λ card. let a = c.step_one.ensures.seen card in let b = c.loop-k.invariant.seen card in omega (arith, a, b);
  ready = c.step_one.ensures.ready;
  fewer = elim c.if-branch.branch [
    | then-branch w ↦
        let less = c.in_ok-step_one.ensures.falls (ap Ok w.if-branch.true) in
        let fewer = c.loop-k.invariant.fewer in
        omega (arith, less, fewer)
    | else-branch w ↦
        let same = c.in_ok-step_one.ensures.same (ap Ok w.if-branch.false) in
        let fewer = c.loop-k.invariant.fewer in
        omega (arith, same, fewer)
  ];
  falls = elim c.if-branch.branch [
    | then-branch w ↦
        falls_more c.if-branch.any (all_left c.step_one.new.players.items) (all_left c.loop-k.players.items) (all_left c.args.players.now.items)
        (c.in_ok-step_one.ensures.falls (ap Ok w.if-branch.true)) c.loop-k.invariant.fewer
    | else-branch w ↦
        falls_less c.if-branch.any c.loop-k.any (all_left c.step_one.new.players.items) (all_left c.loop-k.players.items) (all_left c.args.players.now.items)
        w.any-is (c.in_ok-step_one.ensures.same (ap Ok w.if-branch.false)) c.loop-k.invariant.falls
  ];
  stands = λ scripts order run w port.
      let r = c.loop-k.invariant.stands scripts order run w port in
      let s = c.in_ok-step_one.ensures.stands scripts (round_of c.loop-k.k ++ order) r.0 r.1 r.2 in
      elim c.if-branch.branch [
        | then-branch w ↦
            round_more c.args.readers.now scripts c.loop-k.k order c.step_one.new.players.items
            (PortAt (g.P.Port.stands c.step_one.new.port) (g.P.Port.cards c.step_one.new.port) (g.P.Port.seen c.step_one.new.port) (g.P.Port.turns c.step_one.new.port))
            r.0 c.in_ok-step_one.field-0 c.if-branch.any w.if-branch.true w.any-is s
        | else-branch w ↦
            round_less c.args.readers.now scripts c.loop-k.k order c.step_one.new.players.items
            (PortAt (g.P.Port.stands c.step_one.new.port) (g.P.Port.cards c.step_one.new.port) (g.P.Port.seen c.step_one.new.port) (g.P.Port.turns c.step_one.new.port))
            r.0 c.in_ok-step_one.field-0 c.if-branch.any w.if-branch.false
            (subst (λ (b : Bool). OnFalse b (EndedBelow scripts c.loop-k.k r.0)) (sym w.any-is) r.3) s
      ];
}

pub returns-clause-stands : goal.returns-clause-stands
returns-clause-stands g c scripts order run w port =
    let a = c.loop-k-test.false in
    let b = c.loop-k.auto.k-end in
    let n = c.len-k-end.ensures in
    let m : length c.args.players.now.items ≡ length scripts = same_length c.args.players.now.items scripts w.theirs in
    round_whole c.loop-k.any c.args.readers.now scripts c.loop-k.k order c.loop-k.players.items
    (PortAt (g.P.Port.stands c.loop-k.port) (g.P.Port.cards c.loop-k.port) (g.P.Port.seen c.loop-k.port) (g.P.Port.turns c.loop-k.port))
    (omega (arith, a, b, n, m)) (c.loop-k.invariant.stands scripts order run w port)
