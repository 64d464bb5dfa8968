use Rattle.std.proofs.Common.{◌≡◌, ◌∙◌, ◌∷◌, ◌++◌, [], ℕ, List, length, map, Some, sym, refl, ap, subst, arith, length-append}
use Rattle.std.specs.List.{slice_get}
use Rattle.std.specs.Prelude.{IfSome, slice_index_or, reverse}
use Rattle.std.proofs.lemmas.List.{map-append}
use Rattle.turnstile.specs.Known.{Gate, Known, first_pass}
use Rattle.turnstile_rows.specs.Rows.{StandBehind}
use Rattle.turnstile_rows.proofs.Lists.{read_at, map_reversed}
use Rattle.turnstile_rows.proofs.Leaving.{leaves}
use Rattle.turnstile_rows.proofs.standing.stand.Goals as goal

pub loop-value-preserved : goal.loop-value-preserved
loop-value-preserved g c =
    let B : Type 0 = g.row.T-Base.Denot in
    let E : Type 0 = g.row.T-Record.Denot in
    let P : Type 0 = Known B E in
    let G : Type 0 = Gate B in
    let X : Type 0 = g.row.T.Denot in
    let vs = c.in-Some.ensures.items in
    let left = leaves g.T.Held.stands_for c.pop.new.self.items c.in-Some.value c.loop-value.turnstiles.items c.args.bases.now
    (subst (λ (l : List X). StandBehind g.T.Held.stands_for l c.loop-value.turnstiles.items c.args.bases.now) vs c.loop-value.invariant.behind) in
    let inside = left.inside in
    let n : c.len-in-Some.result ≡ length c.pop.new.self.items = omega (arith, c.len-in-Some.ensures, c.pop.new.self.ok) in
    let read = subst (λ o. IfSome o (λ x. x.now ≡ slice_index_or c.args.bases.now c.len-in-Some.result x.now)) c.unwrap-base.ensures c.get.ensures.lookup.1 in
    let at = read_at c.args.bases.now c.args.bases.now c.len-in-Some.result c.unwrap-base.result.now (omega (arith, n, inside)) refl read in
    let made = c.in-Ok-new.ensures.ok in
    let base : c.in-Ok-new.turnstile.base ≡ c.unwrap-base.result.now = made.0 in
    let first : c.in-Ok-new.first ≡ first_pass c.in-Ok-new.turnstile = made.1 in
    let gates = c.push_reserved.ensures.items in
    let firsts = c.push_reserved-in-Ok-new.ensures.items in
    let here = subst (λ (k : ℕ). slice_get c.args.bases.now k ≡ Some c.in-Ok-new.turnstile.base) n (at ∙ ap Some (sym base)) in
    let room = c.loop-value.invariant.room in
    let turnstiles_room = c.loop-value.invariant.turnstiles_room in
    let firsts_room = c.loop-value.invariant.firsts_room in
    let whole = c.loop-value.invariant.whole in
    let cap = c.in-Some.ensures.capacity in
    let gates_cap = c.push_reserved.ensures.capacity in
    let firsts_cap = c.push_reserved-in-Ok-new.ensures.capacity in
    let a = ap (λ (l : List X). length l) vs in
    let b = ap (λ (l : List G). length l) gates in
    let d = ap (λ (l : List P). length l) firsts in
    record {
      behind = subst (λ (l : List G). StandBehind g.T.Held.stands_for c.pop.new.self.items l c.args.bases.now) (sym gates) (left.behind c.in-Ok-new.turnstile here);
      firsts = firsts ∙ (ap (λ (l : List P). l ++ c.in-Ok-new.first ∷ []) c.loop-value.invariant.firsts
          ∙ (ap (λ (p : P). map first_pass c.loop-value.turnstiles.items ++ p ∷ []) first
          ∙ (sym (map-append first_pass c.loop-value.turnstiles.items (c.in-Ok-new.turnstile ∷ [])) ∙ ap (λ (l : List G). map first_pass l) (sym gates))));
      turnstiles_room = omega (arith, turnstiles_room, gates_cap, a, b, length-append c.pop.new.self.items (c.in-Some.value ∷ []), length-append c.loop-value.turnstiles.items (c.in-Ok-new.turnstile ∷ []));
      firsts_room = omega (arith, firsts_room, firsts_cap, a, d, length-append c.pop.new.self.items (c.in-Some.value ∷ []), length-append c.loop-value.firsts.items (c.in-Ok-new.first ∷ []));
      room = omega (arith, room, cap, a, b, length-append c.pop.new.self.items (c.in-Some.value ∷ []), length-append c.loop-value.turnstiles.items (c.in-Ok-new.turnstile ∷ []));
      whole = omega (arith, whole, cap);
    }

pub returns-clause-firsts : goal.returns-clause-firsts
returns-clause-firsts g c =
    let P : Type 0 = Known g.row.T-Base.Denot g.row.T-Record.Denot in
    let G : Type 0 = Gate g.row.T-Base.Denot in
    c.reverse-2.ensures.items
    ∙ (ap (λ (l : List P). reverse l) c.loop-value.invariant.firsts
    ∙ (map_reversed first_pass c.loop-value.turnstiles.items ∙ ap (λ (l : List G). map first_pass l) (sym c.reverse.ensures.items)))
