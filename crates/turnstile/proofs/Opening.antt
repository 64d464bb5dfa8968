-- A new turnstile keeps the rule, and so does a split.
use Rattle.std.proofs.Common.{◌≡◌, ⊎_elim, ℕ, zero, suc, ◌+◌, ◌<◌, ◌≤◌, true, cond, ◌&&◌, List, [], ◌∷◌, ◌++◌, length, set, Option, Some, None, sym, refl, ap, ◌∙◌, subst, ne_eqb, arith, length-append, length-set}
use Rattle.std.specs.Prelude.{is_some}
use mathlib.Core.Option.{some, some-injective, some-ne-none}
use lib.ListN.{get_elem?}
use Rattle.atomic_table.specs.Table.{State, Splits, opening}
use Rattle.atomic_table.proofs.Lists.{at_set}
use Rattle.turnstile.specs.declared.view.View.{View}
use Rattle.turnstile.specs.Known.{most_out}
use Rattle.turnstile.specs.Rule.{taken_by, IsSeatBelow, is_out, count_out, opener, Knows, Keeps}
use Rattle.turnstile.specs.Steps.{split_from, newcomer}
use Rattle.turnstile.proofs.Owned.{at_below, at_end, owned_none}
use Rattle.turnstile.proofs.Counting.{weight, count_out_same, count_out_snoc}

pub seat_more : (h : Option ℕ) (n m : ℕ) → n ≤ m → IsSeatBelow n h → IsSeatBelow m h
seat_more None n m le s = tt
seat_more (Some h) n m le s = omega (arith, s)

pub some_same : {A : Type 0} {a b : A} → Some a ≡ Some b → a ≡ b
some_same e = cc

-- what is no seat has taken nothing
not_taken : {X : Type 0} (h : Option ℕ) (x : X) (n : ℕ) → IsSeatBelow n h → taken_by h x n ≡ None
not_taken None x n s = refl
not_taken (Some h) x n s = ap (λ b. cond b (Some x) None) (ne_eqb h n (λ e. omega (arith, s)))

module _ {X B E : Type 0} (stands_for : X → B → List E → Type 0) (base : B) where
  abbrev pub Law : State (Option X) (View X B E) → Type 0
  Law s = Keeps stands_for base s

  pub opens : (x : X) → stands_for x base [] → Law (opening (0 ∷ []) (Some x ∷ []) (opener base))
  opens x is = record {
    log = [];
    holder = None;
    value = x;
    word = 0;
    words = refl;
    marked = refl;
    homes = refl;
    stands = is;
    seat = tt;
    owners = λ k o r at. absurd (some-ne-none (o, r) (sym at));
    views = go;
  }
    where
      go : (id : ℕ) (v : View X B E) → get_elem? (opener {X = X} {E = E} base ∷ []) id ≡ some v → Knows {X = X} {E = E} base [] None x (count_out {X = X} {E = E} (opener base ∷ [])) id v
      go zero v at = subst (λ u. Knows {X = X} {E = E} base [] None x (count_out {X = X} {E = E} (opener base ∷ [])) 0 u) (some-injective (opener base) v at) (record {
        own = refl;
        seen = omega arith;
        below = λ k r there. absurd (some-ne-none (0, r) (sym there));
        taken = refl;
        based = λ b e. some_same (sym e);
        away = λ not. absurd (cc);
        first = λ _. (refl, refl, refl, omega arith);
      })
      go (suc id) v at = absurd (some-ne-none v (sym at))

  -- the number of those that are out matters to the first alone
  recount : (log : List (ℕ × E)) (h : Option ℕ) (x : X) (n m id : ℕ) (v : View X B E) → (v.is_first ≡ true → n ≡ m) → Knows base log h x n id v → Knows base log h x m id v
  recount log h x n m id v same f = record {
    own = f.own;
    seen = f.seen;
    below = f.below;
    taken = f.taken;
    based = f.based;
    away = f.away;
    first = λ is. let t = f.first is in let e = same is in (t.0, t.1, t.2 ∙ e, subst (λ c. c ≤ most_out) e t.3);
  }

  pub splits : (id : ℕ) (v : View X B E) (b : B) → v.is_first ≡ true → v.base ≡ Some b → v.taken ≡ None → v.out < most_out → Splits Law id v (split_from v) (newcomer v)
  splits id v b first based idle room s k at =
      let vs : List (View X B E) = s.views in
      let ws : List (View X B E) = set vs id (split_from v) in
      let left_same : is_out (split_from v) ≡ is_out v = refl in
      let n : count_out ws ≡ count_out vs = count_out_same vs id v (split_from v) at left_same in
      let one : weight (newcomer v) ≡ 1 = ap (λ o. cond (is_some o && true) 1 0) based in
      let m : count_out (ws ++ newcomer v ∷ []) ≡ count_out vs + 1 = count_out_snoc ws (newcomer v) ∙ (ap (λ c. c + weight (newcomer v)) n ∙ ap (λ c. count_out vs + c) one) in
      let long : length ws ≡ length vs = length-set vs id (split_from v) in
      let longer : length (ws ++ newcomer v ∷ []) ≡ length vs + 1 = omega (arith, length-append ws (newcomer v ∷ []), long) in
      let mine = k.views id v at in
      let here : id < length vs = at_below vs id v at in
      let fresh : (j : ℕ) (r : E) → get_elem? k.log j ≡ some (length vs, r) → Prim.⊥ = λ j r there. let o = k.owners j (length vs) r there in omega (arith, o) in
      record {
        log = k.log;
        holder = k.holder;
        value = k.value;
        word = k.word;
        words = k.words;
        marked = k.marked;
        homes = k.homes;
        stands = k.stands;
        seat = seat_more k.holder (length vs) (length (ws ++ newcomer v ∷ [])) (omega arith) k.seat;
        owners = λ j o r there. let h = k.owners j o r there in omega (arith, h, longer);
        views = λ j u there. ⊎_elim
            (λ t. ⊎_elim
            (λ e. subst (λ (z : ℕ × View X B E). Knows base k.log k.holder k.value (count_out (ws ++ newcomer v ∷ [])) z.0 z.1) (λ i. (sym e.0 i, e.1 i)) (record {
              own = mine.own;
              seen = mine.seen;
              below = mine.below;
              taken = mine.taken;
              based = mine.based;
              away = mine.away;
              first = λ is. let f = mine.first is in let c = f.2 in (f.0, f.1, omega (arith, c, m), omega (arith, c, m, room));
            }))
            (λ e. recount k.log k.holder k.value (count_out vs) (count_out (ws ++ newcomer v ∷ [])) j u
            (λ is. let a = (k.views j u e.1).first is in let b = mine.first first in absurd (e.0 (a.0 ∙ sym b.0))) (k.views j u e.1))
            (at_set vs id j (split_from v) u t))
            (λ t. subst (λ (z : ℕ × View X B E). Knows base k.log k.holder k.value (count_out (ws ++ newcomer v ∷ [])) z.0 z.1) (λ i. (sym (t.0 ∙ long) i, t.1 i)) (record {
              own = sym (owned_none (length vs) 0 k.log fresh);
              seen = mine.seen;
              below = λ q r at'. absurd (fresh q r at');
              taken = idle ∙ sym (not_taken k.holder k.value (length vs) k.seat);
              based = mine.based;
              away = λ not. (refl, idle);
              first = λ is. absurd (cc);
            }))
            (at_end ws (newcomer v) u j there);
      }
