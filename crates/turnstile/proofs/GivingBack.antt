-- Giving the slot back keeps the rule.
use Rattle.std.proofs.Common.{◌≡◌, ◌≢◌, ⊎_elim, ℕ, ◌+◌, ◌<◌, Bool, true, false, eqb, cond, List, [], ◌∷◌, ◌++◌, length, set, Option, Some, None, sym, refl, ap, ◌∙◌, subst, ne_eqb, arith, length-append, length-set}
use borrow.Author.Tests.{eqb-true}
use mathlib.Core.Option.{some, none, some-injective, some-ne-none}
use mathlib.Core.Option as maybe
use lib.ListN.{get_elem?}
use Rattle.atomic_table.specs.Table.{State, Me, gives, stepped, put_back, rest, Allows}
use Rattle.atomic_table.proofs.Lists.{at_set}
use Rattle.turnstile.specs.declared.view.View.{View}
use Rattle.turnstile.specs.Rule.{owned, records_of, home_of, taken_by, is_out, count_out, Knows}
use Rattle.turnstile.specs.Records.{followed}
use Rattle.turnstile.specs.Steps.{given, GivesBack}
use Rattle.turnstile.proofs.Owned.{at_below, at_end, length_records, records_snoc, owned_other, owned_mine}
use Rattle.turnstile.proofs.Counting.{count_out_same}
use Rattle.turnstile.proofs.Opening.{Law, some_same}

module _ {X B E : Type 0} (stands_for : X → B → List E → Type 0) (base : B) where
  give_to : (s : State (Option X) (View X B E)) (k : Law stands_for base s) (id : ℕ) (me : Me (Option X) (View X B E)) (y : X) (log : List (ℕ × E)) (w : View X B E) → k.holder ≡ Some id → me.1 ≡ (0, Some y) ∷ [] → get_elem? s.views id ≡ some me.0
      → is_out w ≡ is_out me.0 → stands_for y base (records_of log) → ((j o : ℕ) (r : E) → get_elem? log j ≡ some (o, r) → o < length s.views) → Knows base log None y (count_out s.views) id w
      → ((j : ℕ) (u : View X B E) → j ≢ id → Knows base k.log (Some id) k.value (count_out s.views) j u → Knows base log None y (count_out s.views) j u)
      → Law stands_for base (stepped s 0 0 id me.1 w gives)
  give_to s k id me y log w is carried at same stood owners mine theirs =
      let vs : List (View X B E) = s.views in
      let words : s.words ≡ k.word ∷ [] = k.words in
      let homes : s.homes ≡ none ∷ [] = k.homes ∙ ap (λ h. home_of h k.value ∷ []) is in
      let n : count_out (set vs id w) ≡ count_out vs = count_out_same vs id me.0 w at same in
      let long : length (set vs id w) ≡ length vs = length-set vs id w in
      record {
        log = log;
        holder = None;
        value = y;
        word = 0;
        words = ap (λ (ws : List ℕ). set ws 0 0) words;
        marked = refl;
        homes = ap (λ (c : List (ℕ × Option X)). put_back s.homes c) carried ∙ ap (λ (hs : List (maybe.Option (Option X))). set hs 0 (some (Some y))) homes;
        stands = stood;
        seat = tt;
        owners = λ j o r there. let h = owners j o r there in omega (arith, h, long);
        views = λ j u there. subst (λ c. Knows base log None y c j u) (sym n) (⊎_elim
            (λ e. subst (λ (z : ℕ × View X B E). Knows base log None y (count_out vs) z.0 z.1) (λ i. (sym e.0 i, e.1 i)) mine)
            (λ e. theirs j u e.0 (subst (λ h. Knows base k.log h k.value (count_out vs) j u) is (k.views j u e.1)))
            (at_set vs id j w u there));
      }

  -- the pass that has taken the state is the holder
  holds_it : (h : Option ℕ) (st x : X) (id : ℕ) → Some x ≡ taken_by h st id → (h ≡ Some id) × (st ≡ x)
  holds_it None st x id e = absurd (cc)
  holds_it (Some h) st x id e = go (eqb h id) refl
    where
      go : (b : Bool) → eqb h id ≡ b → (Some h ≡ Some id) × (st ≡ x)
      go true is = (ap Some (eqb-true h id is), some_same (sym (e ∙ ap (λ b. cond b (Some st) None) is)))
      go false is = let q : Some x ≡ None = e ∙ ap (λ b. cond b (Some st) None) is in absurd (cc)

  -- what is another's stays as it was
  theirs_stay : (log : List (ℕ × E)) (x y : X) (n id j : ℕ) (u : View X B E) → j ≢ id → Knows base log (Some id) x n j u → Knows base log None y n j u
  theirs_stay log x y n id j u other f = record {
    own = f.own;
    seen = f.seen;
    below = f.below;
    taken = f.taken ∙ ap (λ b. cond b (Some x) None) (ne_eqb id j (λ q. other (sym q)));
    based = f.based;
    away = f.away;
    first = f.first;
  }

  theirs_more : (log : List (ℕ × E)) (x y : X) (n id j : ℕ) (r : E) (u : View X B E) → j ≢ id → Knows base log (Some id) x n j u → Knows base (log ++ (id, r) ∷ []) None y n j u
  theirs_more log x y n id j r u other f = let seen = f.seen in record {
    own = f.own ∙ sym (owned_other j 0 id log r (λ q. other (sym q)));
    seen = omega (arith, seen, length-append log ((id, r) ∷ []));
    below = λ q r' there. ⊎_elim (λ t. f.below q r' t) (λ t. absurd (other (sym (ap (λ (z : ℕ × E). z.0) t.1)))) (at_end log (id, r) (j, r') q there);
    taken = f.taken ∙ ap (λ b. cond b (Some x) None) (ne_eqb id j (λ q. other (sym q)));
    based = f.based;
    away = f.away;
    first = f.first;
  }

  module _ (count : X → ℕ) (counts : (x : X) (b : B) (rs : List E) → stands_for x b rs → length rs ≡ count x) where
    give_by : (item : Option E) (s : State (Option X) (View X B E)) (k : Law stands_for base s) (id : ℕ) (me : Me (Option X) (View X B E)) (x y : X) (q : B) → k.holder ≡ Some id → k.value ≡ x → me.1 ≡ (0, Some y) ∷ [] → me.0.base ≡ Some q → get_elem? s.views id ≡ some me.0
        → stands_for y base (followed (records_of k.log) item) → Law stands_for base (stepped s 0 0 id me.1 (given me.0 (count x) item) gives)
    give_by None s k id me x y q is st carried based at stood =
        let mine = k.views id me.0 at in
        let seen = mine.seen in
        let n : length k.log ≡ count x = sym (length_records k.log) ∙ (counts k.value base (records_of k.log) k.stands ∙ ap count st) in
        give_to s k id me y k.log (given me.0 (count x) None) is carried at refl stood k.owners (record {
          own = mine.own;
          seen = omega (arith, n);
          below = λ j r there. let h = mine.below j r there in omega (arith, h, n, seen);
          taken = refl;
          based = mine.based;
          away = λ not. let e : Some q ≡ None = sym based ∙ not in absurd (cc);
          first = mine.first;
        }) (λ j u other f. theirs_stay k.log k.value y (count_out s.views) id j u other f)
    give_by (Some r) s k id me x y q is st carried based at stood =
        let mine = k.views id me.0 at in
        let seen = mine.seen in
        let here = at_below s.views id me.0 at in
        let n : length k.log ≡ count x = sym (length_records k.log) ∙ (counts k.value base (records_of k.log) k.stands ∙ ap count st) in
        let long : length (k.log ++ (id, r) ∷ []) ≡ length k.log + 1 = length-append k.log ((id, r) ∷ []) in
        give_to s k id me y (k.log ++ (id, r) ∷ []) (given me.0 (count x) (Some r)) is carried at refl
        (subst (λ l. stands_for y base l) (sym (records_snoc k.log id r)) stood)
        (λ j o r' there. ⊎_elim (λ t. k.owners j o r' t) (λ t. subst (λ m. m < length s.views) (ap (λ (z : ℕ × E). z.0) t.1) here) (at_end k.log (id, r) (o, r') j there))
        (record {
          own = ap (λ l. l ++ (count x, r) ∷ []) mine.own ∙ (ap (λ m. owned id 0 k.log ++ (m, r) ∷ []) (omega (arith, n)) ∙ sym (owned_mine id 0 k.log r));
          seen = omega (arith, n, long);
          below = λ j r' there. ⊎_elim (λ t. let h = mine.below j r' t in omega (arith, h, n, seen)) (λ t. let h = t.0 in omega (arith, h, n)) (at_end k.log (id, r) (id, r') j there);
          taken = refl;
          based = mine.based;
          away = λ not. let e : Some q ≡ None = sym based ∙ not in absurd (cc);
          first = mine.first;
        }) (λ j u other f. theirs_more k.log k.value y (count_out s.views) id j r u other f)

    pub gives_it : (slots id : ℕ) (me : Me (Option X) (View X B E)) (x y : X) (q : B) (item : Option E) → me.1 ≡ (0, Some y) ∷ [] → me.0.base ≡ Some q → me.0.taken ≡ Some x
        → ((b : B) (rs : List E) → stands_for x b rs → stands_for y b (followed rs item)) → Allows (Law stands_for base) slots id me 0 (λ _. 0) (λ n w. GivesBack count item me w)
    gives_it slots id me x y q item carried based taken keep s k deep at wide =
        let h = holds_it k.holder k.value x id (sym taken ∙ (k.views id me.0 at).taken) in (
          given me.0 (count x) item,
          gives,
          tt,
          give_by item s k id me x y q h.0 h.1 carried based at (keep base (records_of k.log) (subst (λ z. stands_for z base (records_of k.log)) h.1 k.stands)),
          (λ x' t. let same : x ≡ x' = some_same (sym taken ∙ t) in ap (λ z. (given me.0 (count z) item, rest me.1)) same),
        )
