use Rattle.std.proofs.Common.{◌≡◌, ◌∙◌, ℕ, List, [], length, ap, subst, arith, rules}
use Rattle.std.specs.Prelude.{IfSome, slice_index_or}
use Rattle.turnstile.specs.Known.{Known}
use Rattle.turnstile_rows.specs.Rows.{IsJoined}
use Rattle.turnstile_rows.proofs.Passes.{passes_set, first_set}
use Rattle.turnstile_rows.proofs.Joining.{JoinedFrom, joined_on, joined_all, picked}
use Rattle.turnstile_rows.proofs.gathering.gather.Goals as goal

pub join-requires-clause-own : goal.join-requires-clause-own
join-requires-clause-own g c =
    let n : c.len-card.result ≡ length c.pop.new.self.items = omega (arith, c.len-card.ensures, c.pop.new.self.ok) in
    let read = subst (λ o. IfSome o (λ x. x.now ≡ slice_index_or c.args.turnstiles.now c.len-card.result x.now)) c.unwrap-turnstile.ensures c.get.ensures.lookup.1 in
    let p = picked c.args.turnstiles.now c.loop-pass.firsts.items c.args.passes.items c.loop-pass.passes.items c.pop.new.self.items c.in-Some.pass c.index_mut.result.now c.len-card.result c.unwrap-turnstile.result.now
    c.loop-pass.invariant.own c.requires.own.1 c.in-Some.ensures.items c.loop-pass.invariant.left n read c.index_mut.ensures.value in
    (c.loop-pass.invariant.own.each c.len-card.result _ _ p.gate_at p.first_at, c.requires.own.1.each c.len-card.result _ _ p.gate_at p.pass_at)

pub join-requires-clause-first : goal.join-requires-clause-first
join-requires-clause-first g c =
    let n : c.len-card.result ≡ length c.pop.new.self.items = omega (arith, c.len-card.ensures, c.pop.new.self.ok) in
    let read = subst (λ o. IfSome o (λ x. x.now ≡ slice_index_or c.args.turnstiles.now c.len-card.result x.now)) c.unwrap-turnstile.ensures c.get.ensures.lookup.1 in
    let p = picked c.args.turnstiles.now c.loop-pass.firsts.items c.args.passes.items c.loop-pass.passes.items c.pop.new.self.items c.in-Some.pass c.index_mut.result.now c.len-card.result c.unwrap-turnstile.result.now
    c.loop-pass.invariant.own c.requires.own.1 c.in-Some.ensures.items c.loop-pass.invariant.left n read c.index_mut.ensures.value in
    (c.loop-pass.invariant.first c.len-card.result _ p.first_at, c.requires.first.1 c.len-card.result _ p.pass_at)

pub loop-pass-preserved : goal.loop-pass-preserved
loop-pass-preserved g c =
    let P : Type 0 = Known g.row.T-Base.Denot g.row.T-Record.Denot in
    let n : c.len-card.result ≡ length c.pop.new.self.items = omega (arith, c.len-card.ensures, c.pop.new.self.ok) in
    let read = subst (λ o. IfSome o (λ x. x.now ≡ slice_index_or c.args.turnstiles.now c.len-card.result x.now)) c.unwrap-turnstile.ensures c.get.ensures.lookup.1 in
    let p = picked c.args.turnstiles.now c.loop-pass.firsts.items c.args.passes.items c.loop-pass.passes.items c.pop.new.self.items c.in-Some.pass c.index_mut.result.now c.len-card.result c.unwrap-turnstile.result.now
    c.loop-pass.invariant.own c.requires.own.1 c.in-Some.ensures.items c.loop-pass.invariant.left n read c.index_mut.ensures.value in
    let of = c.loop-pass.invariant.own.each c.len-card.result _ _ p.gate_at p.first_at in
    let is = c.loop-pass.invariant.first c.len-card.result _ p.first_at in
    let after = c.join.ensures.joined in
    let one = p.one in
    let joins : IsJoined c.index_mut.result.now c.in-Some.pass c.join.new.pass = record { same = after; apart = c.join.ensures.apart } in
    let on = joined_on c.len-card.result (length c.loop-pass.passes.items) c.args.firsts.now.items c.args.passes.items c.loop-pass.firsts.items c.index_mut.result.now c.in-Some.pass c.join.new.pass
    (omega (arith, one, n)) c.loop-pass.invariant.joined p.first_at p.pass_at joins in
    record {
      own = passes_set c.args.turnstiles.now c.loop-pass.firsts.items c.len-card.result c.unwrap-turnstile.result.now c.join.new.pass c.loop-pass.invariant.own p.gate_at
          (ap (λ (q : P). q.table) after ∙ of.0, ap (λ (q : P). q.base) after ∙ of.1);
      first = first_set c.loop-pass.firsts.items c.len-card.result c.join.new.pass c.loop-pass.invariant.first (ap (λ (q : P). q.is_first) after ∙ is);
      left = p.left;
      joined = subst (λ (k : ℕ). JoinedFrom k c.args.firsts.now.items c.args.passes.items (Rattle.std.specs.Prelude.slice_set c.loop-pass.firsts.items c.len-card.result c.join.new.pass)) n on;
    }

pub returns-clause-joined : goal.returns-clause-joined
returns-clause-joined g c =
    let P : Type 0 = Known g.row.T-Base.Denot g.row.T-Record.Denot in
    let none : c.loop-pass.passes.items ≡ [] = search rules in
    joined_all c.args.firsts.now.items c.args.passes.items c.loop-pass.firsts.items
    (subst (λ (l : List P). JoinedFrom (length l) c.args.firsts.now.items c.args.passes.items c.loop-pass.firsts.items) none c.loop-pass.invariant.joined)
