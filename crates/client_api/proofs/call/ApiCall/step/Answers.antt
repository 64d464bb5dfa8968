use Rattle.std.specs.Prelude.{IsSome}
use Rattle.std.proofs.Common.{◌≡◌, ◌∙◌, ◌<◌, sym, ap, subst, refl, Option}
use Rattle.card_acts.specs.Acts.{answer_of}
use Rattle.client_api.specs.Calls.{Asked}
use Rattle.client_api.specs.Machine.{Going, Over, is_ended}
use Rattle.client_api.specs.Steps.{IsOn, HandsBack, given_at, left}
use Rattle.client_api.specs.States.{going_of, IsSound}
use Rattle.client_api.specs.declared.call.Step.{Step}
use Rattle.client_api.specs.declared.state.State.{State}
use Rattle.client_api.proofs.Falling.{next_falls, ended_gives}
use Rattle.client_api.proofs.HandedBack.{handed_kept, handed_next}
use Rattle.client_api.proofs.Stepping.{stepped_plain, stepped_turn, asks_some}
use Rattle.client_api.proofs.call.ApiCall.step.Goals as goal

pub returns-then-is_ended-clause-stepped : goal.returns-then-is_ended-clause-stepped
returns-then-is_ended-clause-stepped g c call rs at =
    let is : going_of c.replace-state.result ≡ c.args.self.now = ap going_of c.replace-state.ensures.value ∙ c.self.view_is in
    stepped_plain (g.P.Port.stands c.args.port.now) (g.P.Port.seen c.args.port.now) (g.P.Port.turns c.args.port.now) c.args.self.now c.give.new.self call rs c.give.result
    (ap is_ended (sym is) ∙ (sym c.is_ended.ensures ∙ c.if-is_ended.true)) (c.give.ensures.gives ∙ ap given_at is) at

pub send-answer-requires-clause-asks : goal.send-answer-requires-clause-asks
send-answer-requires-clause-asks g c =
    let is : going_of c.replace-state.result ≡ c.args.self.now = ap going_of c.replace-state.ensures.value ∙ c.self.view_is in
    let x = asks_some c.replace-state.result (subst (λ (s : State). IsSound s) (sym c.replace-state.ensures.value) c.self.invariant) (sym c.is_ended.ensures ∙ c.if-is_ended.false) (λ e. let f : IsOn (g.P.Port.cards c.args.port.now) Over = subst (λ (z : Going). IsOn (g.P.Port.cards c.args.port.now) z) (sym is ∙ e) c.requires in f) in
    subst (λ (o : Option Asked). IsSome o) (sym x.1) refl

pub returns-clause-stepped : goal.returns-clause-stepped
returns-clause-stepped g c call rs at =
    let is : going_of c.replace-state.result ≡ c.args.self.now = ap going_of c.replace-state.ensures.value ∙ c.self.view_is in
    let x = asks_some c.replace-state.result (subst (λ (s : State). IsSound s) (sym c.replace-state.ensures.value) c.self.invariant) (sym c.is_ended.ensures ∙ c.if-is_ended.false) (λ e. let f : IsOn (g.P.Port.cards c.args.port.now) Over = subst (λ (z : Going). IsOn (g.P.Port.cards c.args.port.now) z) (sym is ∙ e) c.requires in f) in
    stepped_turn (g.P.Port.stands c.args.port.now) (g.P.Port.stands c.send-answer.new.port) (g.P.Port.seen c.send-answer.new.port) (g.P.Port.turns c.send-answer.new.port) (going_of c.replace-state.result) c.give-2.new.self call rs c.give-2.result x.0 (answer_of c.send-answer.result) x.1
    (c.send-answer.ensures.sent x.0 x.1) (c.send-answer.ensures.answer x.0 x.1) (c.give-2.ensures.gives ∙ ap given_at c.take-state.ensures.next) (λ e. c.give-2.ensures.kept e ∙ c.take-state.ensures.next)
    (record { place = is ∙ at.place; run = at.run })

pub returns-then-is_ended-clause-on : goal.returns-then-is_ended-clause-on
returns-then-is_ended-clause-on g c =
    let cards = g.P.Port.cards c.args.port.now in
    let is : going_of c.replace-state.result ≡ c.args.self.now = ap going_of c.replace-state.ensures.value ∙ c.self.view_is in
    c.give.ensures.on cards (subst (λ (z : Going). IsOn cards z) (sym is) c.requires)

pub returns-clause-on : goal.returns-clause-on
returns-clause-on g c =
    let cards = g.P.Port.cards c.args.port.now in
    let is : going_of c.replace-state.result ≡ c.args.self.now = ap going_of c.replace-state.ensures.value ∙ c.self.view_is in
    c.give-2.ensures.on cards (c.take-state.ensures.on cards (subst (λ (z : Going). IsOn cards z) (sym is) c.requires))

pub returns-then-is_ended-clause-handle : goal.returns-then-is_ended-clause-handle
returns-then-is_ended-clause-handle g c =
    let is : going_of c.replace-state.result ≡ c.args.self.now = ap going_of c.replace-state.ensures.value ∙ c.self.view_is in
    subst (λ (s : Step). HandsBack c.args.self.now s) (sym (c.give.ensures.gives ∙ ap given_at is))
    (handed_kept c.args.self.now (ap is_ended (sym is) ∙ (sym c.is_ended.ensures ∙ c.if-is_ended.true)))

pub returns-clause-handle : goal.returns-clause-handle
returns-clause-handle g c =
    let is : going_of c.replace-state.result ≡ c.args.self.now = ap going_of c.replace-state.ensures.value ∙ c.self.view_is in
    let x = asks_some c.replace-state.result (subst (λ (s : State). IsSound s) (sym c.replace-state.ensures.value) c.self.invariant) (sym c.is_ended.ensures ∙ c.if-is_ended.false) (λ e. let f : IsOn (g.P.Port.cards c.args.port.now) Over = subst (λ (z : Going). IsOn (g.P.Port.cards c.args.port.now) z) (sym is ∙ e) c.requires in f) in
    subst (λ (z : Going). HandsBack z c.give-2.result) is
    (subst (λ (s : Step). HandsBack (going_of c.replace-state.result) s) (sym (c.give-2.ensures.gives ∙ ap given_at c.take-state.ensures.next))
    (handed_next (going_of c.replace-state.result) (answer_of c.send-answer.result) x.0 x.1 (c.send-answer.ensures.answer x.0 x.1)))

pub returns-then-is_ended-clause-falls : goal.returns-then-is_ended-clause-falls
returns-then-is_ended-clause-falls g c e = absurd (ended_gives (going_of c.replace-state.result) (sym c.is_ended.ensures ∙ c.if-is_ended.true) (sym c.give.ensures.gives ∙ e))

pub returns-clause-falls : goal.returns-clause-falls
returns-clause-falls g c e =
    let is : going_of c.replace-state.result ≡ c.args.self.now = ap going_of c.replace-state.ensures.value ∙ c.self.view_is in
    let x = asks_some c.replace-state.result (subst (λ (s : State). IsSound s) (sym c.replace-state.ensures.value) c.self.invariant) (sym c.is_ended.ensures ∙ c.if-is_ended.false) (λ e. let f : IsOn (g.P.Port.cards c.args.port.now) Over = subst (λ (z : Going). IsOn (g.P.Port.cards c.args.port.now) z) (sym is ∙ e) c.requires in f) in
    let new = c.give-2.ensures.kept e ∙ c.take-state.ensures.next in
    subst (λ (z : Going). left c.give-2.new.self < left z) is
    (subst (λ (z : Going). left z < left (going_of c.replace-state.result)) (sym new)
    (next_falls (going_of c.replace-state.result) (answer_of c.send-answer.result) x.0 x.1 (ap given_at (sym c.take-state.ensures.next) ∙ (sym c.give-2.ensures.gives ∙ e))))
