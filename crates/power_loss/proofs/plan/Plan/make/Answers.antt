use Rattle.std.proofs.Common.{◌<◌, ◌+◌, ◌∷◌, length, drop, if◌then◌else◌, arith, ap, sym, ◌∙◌}
use Rattle.std.proofs.lemmas.List.{drop_more}
use Rattle.power_loss.specs.Due.{is_due}
use Rattle.power_loss.specs.Plans.{write_numbers, plan_after}
use Rattle.power_loss.proofs.PlanLaws.{above, counted_kept, counted_lost, numbers_after, rises_from_none, length_after}
use Rattle.power_loss.proofs.plan.Plan.make.Goals as goal

pub returns-then-next-self-clause-plan : goal.returns-then-next-self-clause-plan
returns-then-next-self-clause-plan g c =
    let losses = c.self.inside.losses.items in
    let within : c.self.inside.came < length losses = omega (arith, c.if-self-len.false) in
    let is = drop_more losses c.self.inside.came c.index.result.now within ∙ ap (λ l. l ∷ drop (c.self.inside.came + 1) losses) (sym c.index.ensures) in
    ap (λ l. record { span = length losses; to_come = l }) (counted_kept c.self.inside.made c.args.writes _ _ _ is (omega (arith, c.if-next-self.true)))
    ∙ ap (plan_after c.args.writes) c.self.view_is

pub returns-then-next-self-clause-due : goal.returns-then-next-self-clause-due
returns-then-next-self-clause-due g c =
    ap (λ p. write_numbers p.to_come) (returns-then-next-self-clause-plan g c) ∙ numbers_after c.args.writes c.args.self.now.to_come

pub returns-then-next-self-clause-rises : goal.returns-then-next-self-clause-rises
returns-then-next-self-clause-rises g c =
    let losses = c.self.inside.losses.items in
    let within : c.self.inside.came < length losses = omega (arith, c.if-self-len.false) in
    let is = drop_more losses c.self.inside.came c.index.result.now within ∙ ap (λ l. l ∷ drop (c.self.inside.came + 1) losses) (sym c.index.ensures) in
    let first = above c.self.inside.made _ _ _ is c.self.invariant.1 in
    rises_from_none (c.self.inside.made + c.args.writes) (drop c.self.inside.came losses) (rw is (omega (arith, first.0, c.if-next-self.true), first.1))

pub returns-then-next-self-clause-came : goal.returns-then-next-self-clause-came
returns-then-next-self-clause-came g c = length_after c.args.writes c.args.self.now.to_come ∙ ap (λ p. length p.to_come + (if is_due c.args.writes (write_numbers c.args.self.now.to_come) then 1 else 0)) (sym (returns-then-next-self-clause-plan g c))

pub returns-clause-plan : goal.returns-clause-plan
returns-clause-plan g c =
    let losses = c.self.inside.losses.items in
    let within : c.self.inside.came < length losses = omega (arith, c.if-self-len.false) in
    let is = drop_more losses c.self.inside.came c.index.result.now within ∙ ap (λ l. l ∷ drop (c.self.inside.came + 1) losses) (sym c.index.ensures) in
    let first = above c.self.inside.made _ _ _ is c.self.invariant.1 in
    ap (λ l. record { span = length losses; to_come = l }) (counted_lost c.self.inside.made c.args.writes _ _ _ is (omega (arith, first.0)) (omega (arith, c.if-next-self.false)))
    ∙ ap (plan_after c.args.writes) c.self.view_is

pub returns-clause-due : goal.returns-clause-due
returns-clause-due g c =
    ap (λ p. write_numbers p.to_come) (returns-clause-plan g c) ∙ numbers_after c.args.writes c.args.self.now.to_come

pub returns-clause-came : goal.returns-clause-came
returns-clause-came g c = length_after c.args.writes c.args.self.now.to_come ∙ ap (λ p. length p.to_come + (if is_due c.args.writes (write_numbers c.args.self.now.to_come) then 1 else 0)) (sym (returns-clause-plan g c))

pub returns-clause-rises : goal.returns-clause-rises
returns-clause-rises g c =
    let losses = c.self.inside.losses.items in
    let within : c.self.inside.came < length losses = omega (arith, c.if-self-len.false) in
    let is = drop_more losses c.self.inside.came c.index.result.now within ∙ ap (λ l. l ∷ drop (c.self.inside.came + 1) losses) (sym c.index.ensures) in
    let first = above c.self.inside.made _ _ _ is c.self.invariant.1 in
    rises_from_none c.index.result.now.write (drop (c.self.inside.came + 1) losses) first.1
