-- Joining two passes keeps the rule, and so does a look.
use Rattle.std.proofs.Common.{◌≡◌, ⊎_elim, ℕ, ◌+◌, true, false, cond, not, ◌&&◌, List, length, get_or, set, Option, Some, None, sym, refl, ap, ◌∙◌, subst, arith, length-set}
use Rattle.std.specs.Prelude.{is_some}
use mathlib.Core.Option.{some}
use lib.ListN.{get_elem?}
use Rattle.atomic_table.specs.Table.{Me, keeps, Allows, Joins}
use Rattle.atomic_table.proofs.Lists.{at_set, set_again, set_else}
use Rattle.turnstile.specs.declared.view.View.{View}
use Rattle.turnstile.specs.Rule.{count_out, Knows}
use Rattle.turnstile.specs.Records.{Rises, merged}
use Rattle.turnstile.specs.Steps.{Looks, both, joined_away}
use Rattle.turnstile.proofs.Owned.{at_below, owned_some}
use Rattle.turnstile.proofs.Merging.{moved, moved_at, records_moved, length_moved, owned_third, owned_gone, owned_merged, owned_rises}
use Rattle.turnstile.proofs.Counting.{weight, count_out_set, count_out_same}
use Rattle.turnstile.proofs.Opening.{Law, seat_more}

module _ {X B E : Type 0} (stands_for : X → B → List E → Type 0) (base : B) where
  pub joins : (id : ℕ) (v : View X B E) (other : ℕ) (w : View X B E) (b c : B) → v.is_first ≡ true → v.base ≡ Some b → v.taken ≡ None → w.is_first ≡ false → w.base ≡ Some c → w.taken ≡ None → Joins (Law stands_for base) id v other w (both v w) joined_away
  joins id v other w b c first based idle not_first based' idle' s k at apart at' =
      let vs : List (View X B E) = s.views in
      let one_of_two : View X B E = both v w in
      let ws : List (View X B E) = set vs id one_of_two in
      let us : List (View X B E) = set ws other joined_away in
      let n : count_out ws ≡ count_out vs = count_out_same vs id v one_of_two at refl in
      let one : weight w ≡ 1 = λ i. cond (is_some (based' i) && not (not_first i)) 1 0 in
      let less = count_out_set ws other w joined_away at' in
      let m : count_out us + 1 ≡ count_out vs = omega (arith, less, one, n) in
      let long : length us ≡ length vs = length-set ws other joined_away ∙ length-set vs id one_of_two in
      let there : get_elem? vs other ≡ some w = sym (set_else vs id other one_of_two apart) ∙ at' in
      let mine = k.views id v at in
      let its = k.views other w there in
      let here = at_below vs id v at in
      let log : List (ℕ × E) = moved id other k.log in
      let same : length log ≡ length k.log = length_moved id other k.log in
      let top = mine.first first in
      let seen = mine.seen in
      let its_seen = its.seen in
      record {
        log = log;
        holder = k.holder;
        value = k.value;
        word = k.word;
        words = k.words;
        marked = k.marked;
        homes = k.homes;
        stands = subst (λ l. stands_for k.value base l) (sym (records_moved id other k.log)) k.stands;
        seat = seat_more k.holder (length vs) (length us) (omega (arith, long)) k.seat;
        owners = λ j o r q. ⊎_elim (λ t. let e = t.0 in omega (arith, e, here, long)) (λ t. let h = k.owners j o r t in omega (arith, h, long)) (moved_at id other k.log j o r q);
        views = λ j u q. ⊎_elim
            (λ e. subst (λ (z : ℕ × View X B E). Knows base log k.holder k.value (count_out us) z.0 z.1) (λ i. (sym e.0 i, e.1 i)) (record {
              own = sym (owned_gone id other 0 k.log apart);
              seen = omega arith;
              below = λ p r p_at. absurd (owned_some other 0 log p r p_at (owned_gone id other 0 k.log apart));
              taken = sym idle' ∙ its.taken;
              based = λ d e. absurd (cc);
              away = λ _. (refl, refl);
              first = λ is. absurd (cc);
            }))
            (λ e. ⊎_elim
            (λ d. subst (λ (z : ℕ × View X B E). Knows base log k.holder k.value (count_out us) z.0 z.1) (λ i. (sym d.0 i, d.1 i)) (record {
              own = (λ i. merged (mine.own i) (its.own i)) ∙ sym (owned_merged id other 0 k.log apart);
              seen = omega (arith, seen, its_seen, same);
              below = λ p r p_at. ⊎_elim (λ t. let h = its.below p r t.1 in omega (arith, h)) (λ t. let h = mine.below p r t in omega (arith, h)) (moved_at id other k.log p id r p_at);
              taken = mine.taken;
              based = mine.based;
              away = λ none. let e : Some b ≡ None = sym based ∙ none in absurd (cc);
              first = λ _. let o = top.2 in let n' = top.3 in (top.0, top.1, omega (arith, o, m), omega (arith, n', m));
            }))
            (λ d. let f = k.views j u d.1 in let f_seen = f.seen in record {
              own = f.own ∙ sym (owned_third id other j 0 k.log d.0 e.0);
              seen = omega (arith, f_seen, same);
              below = λ p r p_at. ⊎_elim (λ t. absurd (d.0 t.0)) (λ t. f.below p r t) (moved_at id other k.log p j r p_at);
              taken = f.taken;
              based = f.based;
              away = f.away;
              first = λ is. absurd (d.0 ((f.first is).0 ∙ sym top.0));
            })
            (at_set vs id j one_of_two u e.1))
            (at_set ws other j joined_away u q);
      }

  pub looks : (slots id : ℕ) (me : Me (Option X) (View X B E)) → Allows (Law stands_for base) slots id me 0 (λ n. n) (λ n w. Looks me w)
  looks slots id me s k deep at wide =
      let mine = k.views id me.0 at in
      let words : set s.words 0 (get_or s.words 0 0) ≡ s.words = ap (λ (ws : List ℕ). set ws 0 (get_or ws 0 0)) k.words ∙ sym k.words in
      let still : set s.views id me.0 ≡ s.views = set_again s.views id me.0 at in (
        me.0,
        keeps,
        tt,
        subst (λ (z : List ℕ × List (View X B E)). Law stands_for base (record { words = z.0; homes = s.homes; views = z.1 })) (λ i. (sym words i, sym still i)) k,
        (refl, subst (λ l. Rises me.0.seen l) (sym mine.own) (owned_rises id 0 me.0.seen k.log (λ j r there. let h = mine.below j r there in omega (arith, h)))),
      )
