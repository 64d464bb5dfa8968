use Rattle.std.proofs.Common.{◌≡◌, ◌∙◌, ◌∷◌, ◌++◌, [], List, length, Option, sym, ap, subst, arith, rules, length-append}
use Rattle.std.specs.Option.{option_to_list}
use Rattle.turnstile.specs.Known.{Gate, Known}
use Rattle.turnstile.specs.Turns.{Closed}
use Rattle.turnstile_rows.specs.Rows.{StandBehind}
use Rattle.turnstile_rows.proofs.Leaving.{comes_back, closed_at_start, all_back, unwound}
use Rattle.turnstile_rows.proofs.standing.unwind.Goals as goal

pub loop-turnstile-preserved : goal.loop-turnstile-preserved
loop-turnstile-preserved g c =
    let B : Type 0 = g.row.T-Base.Denot in
    let E : Type 0 = g.row.T-Record.Denot in
    let P : Type 0 = Known B E in
    let G : Type 0 = Gate B in
    let X : Type 0 = g.row.T.Denot in
    let gs = c.in-Some.ensures.items in
    let ps : c.loop-turnstile.firsts.items ≡ c.pop-in-Some.new.self.items ++ c.unwrap-first.result ∷ [] =
    c.pop-in-Some.ensures.items ∙ ap (λ (o : Option P). c.pop-in-Some.new.self.items ++ option_to_list o) c.unwrap-first.ensures in
    let u = unwound {B = B} {E = E} c.loop-turnstile.turnstiles.items c.pop.new.self.items c.in-Some.turnstile c.loop-turnstile.firsts.items c.pop-in-Some.new.self.items c.unwrap-first.result gs ps c.loop-turnstile.invariant.firsts in
    let stands = closed_at_start g.T.Held.stands_for c.in-Some.turnstile c.close.result (subst (λ (p : P). Closed g.T.Held.stands_for c.in-Some.turnstile.base c.close.result p) u.1 c.close.ensures.closed) in
    let room = c.loop-turnstile.invariant.room in
    let more = c.push_reserved.ensures.items in
    let cap = c.push_reserved.ensures.capacity in
    let a = ap (λ (l : List G). length l) gs in
    let b = ap (λ (l : List X). length l) more in
    record {
      behind = subst (λ (l : List X). StandBehind g.T.Held.stands_for l c.pop.new.self.items c.args.bases.now) (sym more)
          (comes_back g.T.Held.stands_for c.loop-turnstile.values.items c.close.result c.pop.new.self.items c.in-Some.turnstile c.args.bases.now
          (subst (λ (l : List G). StandBehind g.T.Held.stands_for c.loop-turnstile.values.items l c.args.bases.now) gs c.loop-turnstile.invariant.behind) stands);
      firsts = u.0;
      room = omega (arith, room, a, b, cap, length-append c.pop.new.self.items (c.in-Some.turnstile ∷ []), length-append c.loop-turnstile.values.items (c.close.result ∷ []));
    }

pub returns : goal.returns
returns g c =
    let G : Type 0 = Gate g.row.T-Base.Denot in
    let none : c.loop-turnstile.turnstiles.items ≡ [] = search rules in
    all_back g.T.Held.stands_for c.loop-turnstile.values.items c.args.bases.now
    (subst (λ (l : List G). StandBehind g.T.Held.stands_for c.loop-turnstile.values.items l c.args.bases.now) none c.loop-turnstile.invariant.behind)
