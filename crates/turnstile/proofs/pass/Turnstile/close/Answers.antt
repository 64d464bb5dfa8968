use Rattle.std.proofs.Common.{◌∙◌, sym, ap, subst, refl, Option}
use Rattle.std.specs.Option.{IsSome}
use Rattle.turnstile.specs.Known.{Known, Gate}
use Rattle.turnstile.specs.Turns.{Closed}
use Rattle.turnstile.proofs.Closing.{closes}
use Rattle.turnstile.proofs.Opening.{some_same}
use Rattle.turnstile.proofs.pass.Turnstile.close.Goals as goal

pub unwrap-state-requires : goal.unwrap-state-requires
unwrap-state-requires g c =
    let K : Type 0 = Known g.row.T-Base.Denot g.row.T-Record.Denot in
    let k = c.pass.view_is in
    let z = closes g.T.Held.stands_for c.self.inside.table.shared.key _ _ _ _ _ c.take.result
    (ap (λ (k : K). k.is_first) k ∙ c.requires.first) (ap (λ (k : K). k.base) k ∙ c.requires.own.1) c.pass.invariant.1 (ap (λ (k : K). k.out) k ∙ c.requires.out)
    c.close_with-closed.ensures.values.2 c.take.ensures.value c.args.pass (sym (ap (λ (k : K). k.own) k)) (sym (ap (λ (k : K). k.seen) k)) in
    subst (λ (o : Option g.row.T.Denot). IsSome o) (sym z.1) refl

pub returns : goal.returns
returns g c =
    let B : Type 0 = g.row.T-Base.Denot in
    let K : Type 0 = Known B g.row.T-Record.Denot in
    let k = c.pass.view_is in
    let z = closes g.T.Held.stands_for c.self.inside.table.shared.key _ _ _ _ _ c.take.result
    (ap (λ (k : K). k.is_first) k ∙ c.requires.first) (ap (λ (k : K). k.base) k ∙ c.requires.own.1) c.pass.invariant.1 (ap (λ (k : K). k.out) k ∙ c.requires.out)
    c.close_with-closed.ensures.values.2 c.take.ensures.value c.args.pass (sym (ap (λ (k : K). k.own) k)) (sym (ap (λ (k : K). k.seen) k)) in
    let there = ap (λ (t : Gate B). t.base) c.self.view_is in
    record {
      closed = subst (λ b. Closed g.T.Held.stands_for b c.unwrap-state.result c.args.pass) there
          (subst (λ (x : g.row.T.Denot). Closed g.T.Held.stands_for c.self.inside.table.shared.key x c.args.pass) (some_same (sym z.1 ∙ c.unwrap-state.ensures)) z.2);
    }
