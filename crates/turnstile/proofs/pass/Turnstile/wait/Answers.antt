use Rattle.std.proofs.Common.{rules, ◌∙◌, ap, Option}
use Rattle.atomic_table.specs.Table.{Me}
use Rattle.turnstile.specs.declared.view.View.{View}
use Rattle.turnstile.proofs.Taking.{takes_it, tries_busy, one_busy, two_busy}
use Rattle.turnstile.proofs.pass.Turnstile.wait.Goals as goal

pub compare_exchange-requires : goal.compare_exchange-requires
compare_exchange-requires g c = (search rules, search rules, takes_it _ _ _ _ _ _ _ one_busy tries_busy c.requires.seat.1 c.requires.idle.1 c.requires.idle.0)

pub swap-requires : goal.swap-requires
swap-requires g c =
    let X : Type 0 = g.row.T.Denot in
    let V : Type 0 = View X g.row.T-Base.Denot g.row.T-Record.Denot in
    let same = c.loop.invariant.2 ∙ c.compare_exchange.ensures.2.1 (search rules) in (
      search rules,
      search rules,
      takes_it _ _ _ _ _ _ _ two_busy (λ _ _. two_busy)
          (ap (λ (m : Me (Option X) V). m.1) same ∙ c.requires.seat.1)
          (ap (λ (m : Me (Option X) V). m.0.base) same ∙ c.requires.idle.1)
          (ap (λ (m : Me (Option X) V). m.0.taken) same ∙ c.requires.idle.0),
    )
