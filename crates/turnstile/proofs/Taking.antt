-- A step that takes the value, or finds it taken, keeps the rule.
use Rattle.std.proofs.Common.{◌≡◌, ⊎_elim, ℕ, ◌<◌, ◌≤◌, eqb, cond, List, [], ◌∷◌, length, get_or, set, Option, Some, None, sym, refl, ap, ◌∙◌, subst, eq-eqb, ne_eqb, arith, length-set}
use Rattle.std.specs.List.{slice_get}
use mathlib.Core.Option.{some, none, some-injective, some-ne-none}
use mathlib.Core.Option as maybe
use prog.Atomic.{either}
use lib.ListN.{get_elem?}
use Rattle.atomic_table.specs.Table.{State, Me, Act, keeps, takes, stepped, Valid, carried_after, Allows}
use Rattle.atomic_table.proofs.Lists.{at_set, at_map, set_again}
use Rattle.turnstile.specs.declared.view.View.{View}
use Rattle.turnstile.specs.Known.{most_out}
use Rattle.turnstile.specs.Rule.{records_of, IsBusy, Marks, home_of, taken_by, IsSeatBelow, is_out, count_out, Knows}
use Rattle.turnstile.specs.Records.{InPlace, Rises}
use Rattle.turnstile.specs.Steps.{Takes}
use Rattle.turnstile.proofs.Owned.{at_below, got, stand, length_records}
use Rattle.turnstile.proofs.Merging.{owned_rises}
use Rattle.turnstile.proofs.Counting.{count_out_same}
use Rattle.turnstile.proofs.Opening.{Law}

module _ {X B E : Type 0} (stands_for : X → B → List E → Type 0) (base : B) where
  -- what a step owes, at one state
  abbrev pub Goes : State (Option X) (View X B E) → ℕ → Me (Option X) (View X B E) → (ℕ → ℕ) → (ℕ → Me (Option X) (View X B E) → Type 0) → Type 0
  Goes s id me f then = (w : View X B E) × (a : Act (Option X)) × Valid s.homes me.1 a × Law stands_for base (stepped s 0 (f (get_or s.words 0 0)) id me.1 w a) × then (get_or s.words 0 0) (w, carried_after me.1 a)

  take_by : (h : Option ℕ) (s : State (Option X) (View X B E)) (k : Law stands_for base s) → k.holder ≡ h → (id : ℕ) (me : Me (Option X) (View X B E)) (b : B) → me.1 ≡ [] → me.0.base ≡ Some b → me.0.taken ≡ None → get_elem? s.views id ≡ some me.0
      → (f : ℕ → ℕ) → IsBusy (f 0) → ((n : ℕ) → IsBusy n → IsBusy (f n)) → Goes s id me f (Takes stands_for me)
  take_by None s k is id me b bare based idle at f free busy =
      let vs : List (View X B E) = s.views in
      let x : X = k.value in
      let w : View X B E = record me.0 { taken = Some x } in
      let none_there : k.word ≡ 0 = subst (λ h. Marks k.word h) is k.marked in
      let words : s.words ≡ 0 ∷ [] = k.words ∙ ap (λ n. n ∷ []) none_there in
      let homes : s.homes ≡ some (Some x) ∷ [] = k.homes ∙ ap (λ h. home_of h x ∷ []) is in
      let mine = k.views id me.0 at in
      let same : is_out w ≡ is_out me.0 = refl in
      let n : count_out (set vs id w) ≡ count_out vs = count_out_same vs id me.0 w at same in
      let long : length (set vs id w) ≡ length vs = length-set vs id w in
      let here = at_below vs id me.0 at in (
        w,
        takes 0 (Some x),
        ap (λ hs. get_elem? hs 0) homes,
        record {
          log = k.log;
          holder = Some id;
          value = x;
          word = f 0;
          words = ap (λ (ws : List ℕ). set ws 0 (f (get_or ws 0 0))) words;
          marked = free;
          homes = ap (λ (hs : List (maybe.Option (Option X))). set hs 0 none) homes;
          stands = k.stands;
          seat = omega (arith, here, long);
          owners = λ j o r there. let h = k.owners j o r there in omega (arith, h, long);
          views = λ j u there. ⊎_elim
              (λ e. subst (λ (z : ℕ × View X B E). Knows base k.log (Some id) x (count_out (set vs id w)) z.0 z.1) (λ i. (sym e.0 i, e.1 i)) (record {
                own = mine.own;
                seen = mine.seen;
                below = mine.below;
                taken = ap (λ b. cond b (Some x) None) (sym (eq-eqb id id refl));
                based = mine.based;
                away = λ not. let q : Some b ≡ None = sym based ∙ not in absurd (cc);
                first = λ is'. let g = mine.first is' in (g.0, g.1, g.2 ∙ sym n, subst (λ c. c ≤ most_out) (sym n) g.3);
              }))
              (λ e. let g = k.views j u e.1 in record {
                own = g.own;
                seen = g.seen;
                below = g.below;
                taken = g.taken ∙ (ap (λ h. taken_by h x j) is ∙ ap (λ b. cond b (Some x) None) (sym (ne_eqb id j (λ q. e.0 (sym q)))));
                based = g.based;
                away = g.away;
                first = λ is'. let q = g.first is' in (q.0, q.1, q.2 ∙ sym n, subst (λ c. c ≤ most_out) (sym n) q.3);
              })
              (at_set vs id j w u there);
        },
        (
          (λ found c has.
              let right : c ≡ base = mine.based c has in (
                x,
                records_of k.log,
                subst (λ d. stands_for x d (records_of k.log)) (sym right) k.stands,
                subst (λ m. me.0.seen ≤ m) (sym (length_records k.log)) mine.seen,
                subst (λ l. InPlace l (records_of k.log)) (sym mine.own) (stand id 0 k.log (records_of k.log) (λ j e there. subst (λ q. slice_get (records_of k.log) q ≡ Some e.1) (omega arith) (got (records_of k.log) j e.1 (at_map (λ (z : ℕ × E). z.1) k.log j e there)))),
                subst (λ l. Rises me.0.seen l) (sym mine.own) (owned_rises id 0 me.0.seen k.log (λ j r there. let h = mine.below j r there in omega (arith, h))),
                refl,
              )),
          (λ not. absurd (not (ap (λ (ws : List ℕ). get_or ws 0 0) words))),
        ),
      )
  take_by (Some h) s k is id me b bare based idle at f free busy =
      let held : IsBusy k.word = subst (λ o. Marks k.word o) is k.marked in
      let still : set s.views id me.0 ≡ s.views = set_again s.views id me.0 at in
      let found : get_or s.words 0 0 ≡ k.word = ap (λ (ws : List ℕ). get_or ws 0 0) k.words in
      let more = held.0 in (
        me.0,
        keeps,
        tt,
        record {
          log = k.log;
          holder = k.holder;
          value = k.value;
          word = f k.word;
          words = ap (λ (ws : List ℕ). set ws 0 (f (get_or ws 0 0))) k.words;
          marked = subst (λ o. Marks (f k.word) o) (sym is) (busy k.word held);
          homes = k.homes;
          stands = k.stands;
          seat = subst (λ (us : List (View X B E)). IsSeatBelow (length us) k.holder) (sym still) k.seat;
          owners = subst (λ (us : List (View X B E)). (j o : ℕ) (r : E) → get_elem? k.log j ≡ some (o, r) → o < length us) (sym still) k.owners;
          views = subst (λ (us : List (View X B E)). (j : ℕ) (u : View X B E) → get_elem? us j ≡ some u → Knows base k.log k.holder k.value (count_out us) j u) (sym still) k.views;
        },
        (
          (λ none. absurd (omega (arith, none, found, more))),
          (λ _. refl),
        ),
      )

  pub takes_it : (slots id : ℕ) (me : Me (Option X) (View X B E)) (b : B) (f : ℕ → ℕ) → IsBusy (f 0) → ((n : ℕ) → IsBusy n → IsBusy (f n)) → me.1 ≡ [] → me.0.base ≡ Some b → me.0.taken ≡ None → Allows (Law stands_for base) slots id me 0 f (Takes stands_for me)
  takes_it slots id me b f free busy bare based idle s k deep at wide = take_by k.holder s k refl id me b bare based idle at f free busy

-- a compare and exchange of 0 against 1, and a swap to 2, leave the word busy
pub tries_busy : (n : ℕ) → IsBusy n → IsBusy (either (eqb n 0) 1 n)
tries_busy n busy = let h = busy.0 in subst (λ b. IsBusy (either b 1 n)) (sym (ne_eqb n 0 (λ e. omega (arith, h, e)))) busy

pub one_busy : IsBusy 1
one_busy = (omega arith, omega arith)

pub two_busy : IsBusy 2
two_busy = (omega arith, omega arith)
