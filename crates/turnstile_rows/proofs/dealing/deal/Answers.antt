use Rattle.std.proofs.Common.{◌≡◌, ◌∙◌, ◌<◌, ℕ, List, ◌∷◌, ◌++◌, [], length, map, take, drop, set, Some, sym, ap, subst, arith, add-one}
use Rattle.std.specs.List.{slice_get}
use Rattle.turnstile.specs.Known.{Known, split_off}
use Rattle.turnstile_rows.specs.Rows.{one_more_out}
use Rattle.turnstile_rows.proofs.Lists.{at_changed, set_changed, one_mapped, read_at}
use Rattle.turnstile_rows.proofs.dealing.deal.Goals as goal

pub loop-card-preserved : goal.loop-card-preserved
loop-card-preserved g c =
    let P : Type 0 = Known g.row.T-Base.Denot g.row.T-Record.Denot in
    let k : ℕ = c.loop-card.card in
    let init : List P = c.args.firsts.now.items in
    let x : P = c.index_mut.result.now in
    let same = subst (λ (l : List P). slice_get l k ≡ slice_get init k) (sym c.loop-card.invariant.firsts) (at_changed one_more_out init k) in
    let many = c.requires.own.many in
    let lt : k < length init = omega (arith, many) in
    let at : slice_get init k ≡ Some x = read_at c.loop-card.firsts.items init k x lt same c.index_mut.ensures.value in
    let cap = c.push_reserved.ensures.capacity in
    let room = c.loop-card.invariant.room in
    let len = c.push_reserved.ensures.len in
    let count = c.loop-card.invariant.count in
    record {
      firsts = ap (λ (l : List P). set l k c.split.new.pass) c.loop-card.invariant.firsts
          ∙ (ap (λ (p : P). set (map one_more_out (take k init) ++ drop k init) k p) c.in-Ok-split.ensures.out
          ∙ (set_changed one_more_out init k x at ∙ ap (λ (n : ℕ). map one_more_out (take n init) ++ drop n init) (sym (add-one k))));
      passes = c.push_reserved.ensures.items
          ∙ (ap (λ (l : List P). l ++ c.in-Ok-split.pass ∷ []) c.loop-card.invariant.passes
          ∙ (ap (λ (p : P). map split_off (take k init) ++ p ∷ []) c.in-Ok-split.ensures.ok
          ∙ (one_mapped split_off init k x at ∙ ap (λ (n : ℕ). map split_off (take n init)) (sym (add-one k)))));
      room = omega (arith, cap, room);
      count = omega (arith, len, count);
    }
