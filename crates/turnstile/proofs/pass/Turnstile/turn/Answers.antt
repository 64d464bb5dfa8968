use Rattle.std.proofs.Common.{rules, ◌∙◌, ◌∷◌, ℕ, List, sym, ap, refl, Option, Some}
use Rattle.atomic_table.specs.Table.{Me, rest}
use Rattle.turnstile.specs.declared.view.View.{View}
use Rattle.turnstile.specs.Known.{Known}
use Rattle.turnstile.proofs.pass.Turnstile.turn.Goals as goal

pub exchange-requires : goal.exchange-requires
exchange-requires g c =
    let X : Type 0 = g.row.T.Denot in
    let K : Type 0 = Known g.row.T-Base.Denot g.row.T-Record.Denot in
    let V : Type 0 = View X g.row.T-Base.Denot g.row.T-Record.Denot in
    let t = c.wait.ensures.took.0 refl c.args.self.now.base (ap (λ (k : K). k.base) c.pass.view_is ∙ c.requires.own.1) in
    let e = ap (λ (m : Me (Option X) V). m.1) t.6 in
    (search rules, (Some t.0, e ∙ sym (ap (λ (l : List (ℕ × Option X)). (0, Some t.0) ∷ rest l) e)))
