use Rattle.std.specs.Prelude.{IfSome}
use Rattle.std.proofs.Common.{◌≤◌, ◌<◌, ◌∙◌, ℕ, sym, refl, subst, arith}
use Rattle.client_api.specs.declared.call.Step.{Step}
use Rattle.client_api.specs.Steps.{IsOn, GivesOn, Stepped}
use Rattle.client_api.proofs.Going.{is_begun, goes_more, goes_done}
use Rattle.client_api.proofs.whole.run.Goals as goal

pub loop-answer-init : goal.loop-answer-init
loop-answer-init g c = record {
  on = c.requires;
  within = λ made first. is_begun (g.P.Port.stands c.args.port.now) c.args.call made first;
  cards = refl;
  bases = refl;
  turns = λ k. refl;
  seen = λ k. omega arith;
}

pub loop-answer-preserved : goal.loop-answer-preserved
loop-answer-preserved g c = record {
  on = subst (λ (n : ℕ). IsOn n c.step.new.self) (sym c.step.ensures.cards) (c.step.ensures.on.0 c.in-More.is);
  within = λ made first. let r = c.loop-answer.invariant.within made first in
      goes_more (g.P.Port.stands c.args.port.now) (g.P.Port.stands c.loop-answer.port) (g.P.Port.stands c.step.new.port) (g.P.Port.seen c.step.new.port) (g.P.Port.turns c.step.new.port) made r.0 c.loop-answer.call c.step.new.self r.1
      (subst (λ (s : Step). Stepped (g.P.Port.stands c.loop-answer.port) (g.P.Port.stands c.step.new.port) (g.P.Port.seen c.step.new.port) (g.P.Port.turns c.step.new.port) made r.0 s c.step.new.self) c.in-More.is (c.step.ensures.stepped made r.0 r.1.at));
  cards = c.step.ensures.cards ∙ c.loop-answer.invariant.cards;
  bases = c.step.ensures.bases ∙ c.loop-answer.invariant.bases;
  turns = λ k. c.step.ensures.turns k ∙ c.loop-answer.invariant.turns k;
  seen = λ k. let a = c.loop-answer.invariant.seen k in let b = c.step.ensures.seen k in omega (arith, a, b);
}

pub returns-in-Done-clause-made : goal.returns-in-Done-clause-made
returns-in-Done-clause-made g c made first = let r = c.loop-answer.invariant.within made first in
    goes_done (g.P.Port.stands c.args.port.now) (g.P.Port.stands c.loop-answer.port) (g.P.Port.stands c.step.new.port) (g.P.Port.seen c.step.new.port) (g.P.Port.turns c.step.new.port) made r.0 c.loop-answer.call c.step.new.self c.in-Done.answer c.in-Done.handle r.1
    (subst (λ (s : Step). Stepped (g.P.Port.stands c.loop-answer.port) (g.P.Port.stands c.step.new.port) (g.P.Port.seen c.step.new.port) (g.P.Port.turns c.step.new.port) made r.0 s c.step.new.self) c.in-Done.is (c.step.ensures.stepped made r.0 r.1.at))

pub returns-in-Done-clause-on : goal.returns-in-Done-clause-on
returns-in-Done-clause-on g c =
    subst (λ (n : ℕ). IfSome c.in-Done.handle (λ h. h.card < n)) c.loop-answer.invariant.cards
    (subst (λ (s : Step). GivesOn (g.P.Port.cards c.loop-answer.port) s) c.in-Done.is c.step.ensures.on.1)

pub returns-in-Done-clause-cards : goal.returns-in-Done-clause-cards
returns-in-Done-clause-cards g c = c.step.ensures.cards ∙ c.loop-answer.invariant.cards

pub returns-in-Done-clause-bases : goal.returns-in-Done-clause-bases
returns-in-Done-clause-bases g c = c.step.ensures.bases ∙ c.loop-answer.invariant.bases

pub returns-in-Done-clause-turns : goal.returns-in-Done-clause-turns
returns-in-Done-clause-turns g c = λ k. c.step.ensures.turns k ∙ c.loop-answer.invariant.turns k

pub returns-in-Done-clause-seen : goal.returns-in-Done-clause-seen
returns-in-Done-clause-seen g c = λ k. let a = c.loop-answer.invariant.seen k in let b = c.step.ensures.seen k in omega (arith, a, b)
