use Rattle.std.proofs.Common.{rules, ◌<◌, ◌∙◌, ap, subst, sym}
use Rattle.turnstile.specs.Known.{Known, most_out}
use Rattle.turnstile.proofs.Opening.{splits}
use Rattle.turnstile.proofs.pass.Turnstile.split.Goals as goal

pub split_seat-requires : goal.split_seat-requires
split_seat-requires g c =
    let K : Type 0 = Known g.row.T-Base.Denot g.row.T-Record.Denot in (
      search rules,
      search rules,
      splits _ _ _ _ _
          (ap (λ (k : K). k.is_first) c.pass.view_is ∙ c.requires.first)
          (ap (λ (k : K). k.base) c.pass.view_is ∙ c.requires.own.1)
          c.pass.invariant.1
          (subst (λ n. n < most_out) (sym (ap (λ (k : K). k.out) c.pass.view_is)) c.requires.room),
    )
