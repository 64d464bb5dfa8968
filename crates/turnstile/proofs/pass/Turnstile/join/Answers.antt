use Rattle.std.proofs.Common.{rules, ◌∙◌, ap, subst, ℕ, List, Option}
use Rattle.atomic_table.specs.Table.{Me}
use Rattle.turnstile.specs.declared.view.View.{View}
use Rattle.turnstile.specs.Records.{Rises, Apart}
use Rattle.turnstile.proofs.Merging.{apart_from}
use Rattle.turnstile.specs.Known.{Known}
use Rattle.turnstile.proofs.Joining.{joins, looks}
use Rattle.turnstile.proofs.pass.Turnstile.join.Goals as goal

pub join_seat-requires : goal.join_seat-requires
join_seat-requires g c =
    let K : Type 0 = Known g.row.T-Base.Denot g.row.T-Record.Denot in (
      search rules,
      search rules,
      search rules,
      search rules,
      joins _ _ _ _ _ _ _ _
          (ap (λ (k : K). k.is_first) c.pass.view_is ∙ c.requires.first.0)
          (ap (λ (k : K). k.base) c.pass.view_is ∙ c.requires.own.0.1)
          c.pass.invariant.1
          (ap (λ (k : K). k.is_first) c.other.view_is ∙ c.requires.first.1)
          (ap (λ (k : K). k.base) c.other.view_is ∙ c.requires.own.1.1)
          c.other.invariant.1,
    )

pub load-requires : goal.load-requires
load-requires g c = (search rules, search rules, looks _ _ _ _ _)

pub returns-clause-apart : goal.returns-clause-apart
returns-clause-apart g c =
    let E : Type 0 = g.row.T-Record.Denot in
    let K : Type 0 = Known g.row.T-Base.Denot E in
    let V : Type 0 = View g.row.T.Denot g.row.T-Base.Denot E in
    let own = ap (λ (m : Me (Option g.row.T.Denot) V). m.0.own) c.join_seat.ensures.2 in
    let both = apart_from _ c.pass.inside.place.me.0.own c.other.inside.place.me.0.own (subst (λ (l : List (ℕ × E)). Rises c.join_seat.new.seat.me.0.seen l) own c.load.ensures.2.1) in
    subst (λ (l : List (ℕ × E)). Apart l c.args.other.own) (ap (λ (k : K). k.own) c.pass.view_is)
    (subst (λ (l : List (ℕ × E)). Apart c.pass.inside.place.me.0.own l) (ap (λ (k : K). k.own) c.other.view_is) both)
