use Rattle.std.proofs.Common.{◌∙◌, ◌++◌, ◌∷◌, [], List, sym, ap, subst, Option, Some}
use Rattle.atomic_table.specs.Table.{opening}
use Rattle.turnstile.specs.Rule.{Keeps, opener}
use Rattle.turnstile.proofs.Opening.{opens}
use Rattle.turnstile.proofs.pass.Turnstile.new.Goals as goal

pub new-requires : goal.new-requires
new-requires g c =
    let e = c.push_reserved.ensures.items ∙ ap (λ (l : List (Option g.row.T.Denot)). l ++ Some c.args.state ∷ []) c.in-Ok.ensures.items in
    subst (λ (l : List (Option g.row.T.Denot)). Keeps g.T.Held.stands_for c.args.base.now (opening (0 ∷ []) l (opener c.args.base.now))) (sym e) (opens g.T.Held.stands_for c.args.base.now c.args.state c.requires.stands)
