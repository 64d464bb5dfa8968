use Rattle.std.proofs.Common.{◌≡◌, ℕ, ◌-◌, List, ◌∷◌, ◌++◌, [], length, map, sym, subst, arith, rules, length-append, Vec, Global}
use Rattle.std.proofs.lemmas.List.{map-append}
use Rattle.std.proofs.lemmas.Iterator.Adapters.{YieldsList-from_vec}
use Rattle.std.proofs.lemmas.Iterator.Consumers.{YieldsList-turn}
use Rattle.turnstile.specs.Known.{Known}
use Rattle.turnstile_rows.specs.Rows.{HaveOut}
use Rattle.turnstile_rows.specs.Gathered.{AreGathered}
use Rattle.turnstile_rows.proofs.Rows.{gathered_more, out_less, row_at}
use Rattle.turnstile_rows.proofs.gathering.gather_all.Goals as goal

pub gather-requires-clause-own : goal.gather-requires-clause-own
gather-requires-clause-own g c =
    let t = YieldsList-turn (YieldsList-from_vec {s = c.into_iter-row-iterator.result} c.args.rows.items (search rules) (search rules)) c.loop-row.yielded c.loop-row.row-iterator c.loop-row.yielded_by c.next.result c.next.new.self c.in-Some.row c.in-Some.is c.next.ensures.steps in
    (c.loop-row.invariant.own, (row_at c.args.turnstiles.now c.args.rows.items (length c.loop-row.yielded) c.in-Some.row t.0 t.1 c.requires.rows).0)

pub gather-requires-clause-first : goal.gather-requires-clause-first
gather-requires-clause-first g c =
    let t = YieldsList-turn (YieldsList-from_vec {s = c.into_iter-row-iterator.result} c.args.rows.items (search rules) (search rules)) c.loop-row.yielded c.loop-row.row-iterator c.loop-row.yielded_by c.next.result c.next.new.self c.in-Some.row c.in-Some.is c.next.ensures.steps in
    (c.loop-row.invariant.first, (row_at c.args.turnstiles.now c.args.rows.items (length c.loop-row.yielded) c.in-Some.row t.0 t.1 c.requires.rows).1)

pub loop-row-preserved : goal.loop-row-preserved
loop-row-preserved g c =
    let P : Type 0 = Known g.row.T-Base.Denot g.row.T-Record.Denot in
    let V : Type 0 = Vec P Global in
    let t = YieldsList-turn (YieldsList-from_vec {s = c.into_iter-row-iterator.result} c.args.rows.items (search rules) (search rules)) c.loop-row.yielded c.loop-row.row-iterator c.loop-row.yielded_by c.next.result c.next.new.self c.in-Some.row c.in-Some.is c.next.ensures.steps in
    let mine = (row_at c.args.turnstiles.now c.args.rows.items (length c.loop-row.yielded) c.in-Some.row t.0 t.1 c.requires.rows).0 in
    let less = out_less c.args.turnstiles.now (length c.args.rows.items - length c.loop-row.yielded) c.in-Some.row.items c.loop-row.firsts.items c.gather.new.firsts.items c.loop-row.invariant.own mine c.loop-row.invariant.out c.gather.ensures.joined in
    let n : (length c.args.rows.items - length c.loop-row.yielded) - 1 ≡ length c.args.rows.items - length (c.loop-row.yielded ++ c.in-Some.row ∷ []) = omega (arith, length-append c.loop-row.yielded (c.in-Some.row ∷ [])) in
    record {
      own = c.gather.ensures.own;
      first = c.gather.ensures.first;
      out = subst (λ (k : ℕ). HaveOut k c.gather.new.firsts.items) n less;
      gathered = subst (λ (l : List (List P)). AreGathered l c.args.firsts.now.items c.gather.new.firsts.items) (sym (map-append (λ (v : V). v.items) c.loop-row.yielded (c.in-Some.row ∷ [])))
          (gathered_more c.args.turnstiles.now (map (λ (v : V). v.items) c.loop-row.yielded) c.in-Some.row.items c.args.firsts.now.items c.loop-row.firsts.items c.gather.new.firsts.items
          c.loop-row.invariant.own mine c.loop-row.invariant.gathered c.gather.ensures.joined);
    }
