use Rattle.std.proofs.Common.{rules, ◌∙◌, ◌∷◌, ℕ, List, sym, ap, subst, Option, Some}
use Rattle.atomic_table.specs.Table.{Me, rest}
use Rattle.turnstile.specs.declared.view.View.{View}
use Rattle.turnstile.specs.Records.{followed}
use Rattle.turnstile.proofs.GivingBack.{gives_it}
use Rattle.turnstile.proofs.pass.Turnstile.give_back.Goals as goal

pub swap-requires : goal.swap-requires
swap-requires g c =
    let X : Type 0 = g.row.T.Denot in
    let V : Type 0 = View X g.row.T-Base.Denot g.row.T-Record.Denot in
    let here = ap (λ (m : Me (Option X) V). m.1) c.exchange.ensures.3 ∙ ap (λ (l : List (ℕ × Option X)). (0, Some c.args.left) ∷ rest l) c.requires.seat.1 in
    let v = ap (λ (m : Me (Option X) V). m.0) c.exchange.ensures.3 in (
      search rules,
      search rules,
      gives_it _ _ g.T.Held.record_count g.T.Held.counted _ _ _ c.args.found.value c.args.left c.args.self.now.base g.W.Made.made here
          (ap (λ (u : V). u.base) v ∙ c.requires.base)
          (ap (λ (u : V). u.taken) v ∙ c.requires.taken)
          (λ b rs s. subst (λ (i : Option g.row.T-Record.Denot). g.T.Held.stands_for c.args.left b (followed rs i)) (sym c.requires.made) (c.requires.stands b rs s)),
    )
