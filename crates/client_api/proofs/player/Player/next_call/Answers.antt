use Rattle.std.specs.Prelude.{reverse, slice_get}
use Rattle.std.proofs.Common.{◌∙◌, ◌+◌, ◌<◌, map, sym, refl, ap, subst}
use Rattle.client_api.specs.Held.{named_of}
use Rattle.client_api.specs.Steps.{left}
use Rattle.client_api.specs.Players.{Played, IsPlaying, AreHandlesOn, steps_later, steps_left}
use Rattle.client_api.proofs.Starting.{next_new, few_new, starts_on}
use Rattle.client_api.proofs.player.Player.next_call.Goals as goal

pub returns-clause-next : goal.returns-clause-next
returns-clause-next c at is =
    next_new c.args.readers.now (record { lines = c.self.inside.script.now.lines; answers = c.self.inside.answers.items; handles = map named_of (reverse c.self.inside.handles.items); call = c.self.inside.call }) _ at c.in_ok-call.call c.line-line.result.now
    (sym c.take.ensures.value ∙ c.in-None.is) refl (ap (λ n. slice_get c.self.inside.script.now.lines n) (sym (c.len.ensures ∙ c.self.inside.answers.ok.0)) ∙ c.line-line.ensures)
    c.in_ok-call.ensures.starts (subst (λ (z : Played). IsPlaying z at) (sym c.self.view_is) is)

pub returns-clause-few : goal.returns-clause-few
returns-clause-few c =
    subst (λ (z : Played). left c.in_ok-call.call + steps_later z < steps_left z) c.self.view_is
    (few_new (record { lines = c.self.inside.script.now.lines; answers = c.self.inside.answers.items; handles = map named_of (reverse c.self.inside.handles.items); call = c.self.inside.call }) c.in_ok-call.call c.line-line.result.now
    (sym c.take.ensures.value ∙ c.in-None.is) (ap (λ n. slice_get c.self.inside.script.now.lines n) (sym (c.len.ensures ∙ c.self.inside.answers.ok.0)) ∙ c.line-line.ensures) c.in_ok-call.ensures.few)

pub returns-clause-on : goal.returns-clause-on
returns-clause-on c cards ready on =
    starts_on cards c.args.readers.now (map named_of (reverse c.self.inside.handles.items)) c.line-line.result.now c.in_ok-call.call
    c.in_ok-call.ensures.starts (subst (λ (z : Played). AreHandlesOn cards z.handles) (sym c.self.view_is) ready.handles) on
