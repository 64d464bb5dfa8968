-- What a client stands for after a turn.
use Rattle.std.specs.List.{slice_get}
use Rattle.std.proofs.Common.{◌≡◌, ◌≢◌, ◌∙◌, ℕ, ◌+◌, ◌<◌, ◌≤◌, Bool, cond, List, [], ◌∷◌, ◌++◌, set, Some, None, sym, refl, ap, subst, arith, length-set, eq-eqb, ne_eqb}
use Rattle.std.proofs.lemmas.Option.{slice_get_within}
use mathlib.Core.Logic.{dite}
use native.Mathlib.Decide.{ℕ_discrete}
use Rattle.turnstile.specs.Known.{after_turn}
use Rattle.turnstile_rows.proofs.Lists.{set_there, set_same, set_apart}
use Rattle.piv_rules.specs.Acts.{CardAct}
use Rattle.card_acts.specs.Acts.{Heard}
use Rattle.client_api.specs.Ports.{Own, Log, IsAbove, TurnedPort, AreInside, AreSeen}
use Rattle.client_threads.specs.Passes.{CellGate, CellPass, IsStill, AreStill, turns_of, turns_at, seen_of, seen_at, owns_of, StandsOwn, recorded, TurnedAt}

-- ---- what was seen

seen_on : (f g : ℕ → ℕ) (log : Log) → ((k : ℕ) → f k ≤ g k) → AreSeen f log → AreSeen g log
seen_on f g [] le s = tt
seen_on f g (o ∷ log) le s =
    let a = s.0 in
    let b = le o.card in
    (omega (arith, a, b), seen_on f g log le s.1)

above_seen : (card place : ℕ) (f : ℕ → ℕ) (log : Log) → f card ≤ place → AreSeen f log → IsAbove card place log
above_seen card place f [] le s = tt
above_seen card place f (o ∷ log) le s = (
  λ e. let a : o.place < f card = subst (λ (k : ℕ). o.place < f k) e s.0 in omega (arith, a, le),
  above_seen card place f log le s.1,
)

seen_here : (passes : List CellPass) (card : ℕ) (pass after : CellPass) → slice_get passes card ≡ Some pass → seen_at (set passes card after) card ≡ after.seen
seen_here passes card pass after at = ap seen_of (set_there passes card pass after at)

seen_set : (passes : List CellPass) (card : ℕ) (pass after : CellPass) → slice_get passes card ≡ Some pass → pass.seen ≤ after.seen → (k : ℕ) → seen_at passes k ≤ seen_at (set passes card after) k
seen_set passes card pass after at le k = dite (ℕ_discrete k card)
    (λ e. let before : seen_at passes k ≡ pass.seen = ap (λ (j : ℕ). seen_at passes j) e ∙ ap seen_of at in
    let now : seen_at (set passes card after) k ≡ after.seen = ap (λ (j : ℕ). seen_at (set passes card after) j) e ∙ seen_here passes card pass after at in
    omega (arith, before, now, le))
    (λ n. let same : seen_at (set passes card after) k ≡ seen_at passes k = ap seen_of (set_apart passes card k after n) in omega (arith, same))

-- ---- own records

own_set : (passes : List CellPass) (card : ℕ) (after : CellPass) (log more : Log) → after.own ≡ owns_of card more → ((k : ℕ) → k ≢ card → owns_of k more ≡ owns_of k log)
    → ((k : ℕ) (pass : CellPass) → slice_get passes k ≡ Some pass → pass.own ≡ owns_of k log) → (k : ℕ) (pass : CellPass) → slice_get (set passes card after) k ≡ Some pass → pass.own ≡ owns_of k more
own_set passes card after log more here there all k pass at = dite (ℕ_discrete k card)
    (λ e. let same : after ≡ pass = set_same passes card after pass (subst (λ (j : ℕ). slice_get (set passes card after) j ≡ Some pass) e at) in
    ap (λ (p : CellPass). p.own) (sym same) ∙ (here ∙ ap (λ (j : ℕ). owns_of j more) (sym e)))
    (λ n. all k pass (sym (set_apart passes card k after n) ∙ at) ∙ sym (there k n))

owns_here : (o : Own) (log : Log) → owns_of o.card (o ∷ log) ≡ owns_of o.card log ++ (o.place, o.did) ∷ []
owns_here o log = ap (λ (b : Bool). cond b (owns_of o.card log ++ (o.place, o.did) ∷ []) (owns_of o.card log)) (eq-eqb o.card o.card refl)

owns_apart : (o : Own) (log : Log) (k : ℕ) → k ≢ o.card → owns_of k (o ∷ log) ≡ owns_of k log
owns_apart o log k n = ap (λ (b : Bool). cond b (owns_of k log ++ (o.place, o.did) ∷ []) (owns_of k log)) (ne_eqb o.card k (λ e. n (sym e)))

pub turned_stands : (gates : List CellGate) (card : ℕ) (act : CardAct) (heard : Heard) (old new : List CellPass) → TurnedAt gates card act heard old new → (log : Log) → StandsOwn old log
    → TurnedPort (StandsOwn new) log card act heard
turned_stands gates card act None old new t log s =
    let after : CellPass = after_turn t.pass t.found None in
    subst (λ (passes : List CellPass). StandsOwn passes log) (sym t.knows) (record {
      own = own_set old card after log log (s.own card t.pass t.pass_is) (λ k n. refl) s.own;
      inside = subst (λ (n : ℕ). AreInside n log) (sym (length-set old card after)) s.inside;
      seen = seen_on (seen_at old) (seen_at (set old card after)) log (seen_set old card t.pass after t.pass_is t.seen) s.seen;
    })
turned_stands gates card act (Some told) old new t log s =
    let after : CellPass = after_turn t.pass t.found (Some (recorded act t.entry told)) in
    let o : Own = record { card = card; place = t.found; did = recorded act t.entry told } in
    let was : seen_at old card ≡ t.pass.seen = ap seen_of t.pass_is in
    let seen = t.seen in
    let rises : t.pass.seen ≤ after.seen = omega (arith, seen) in
    let now : seen_at (set old card after) card ≡ t.found + 1 = seen_here old card t.pass after t.pass_is in (
      o,
      record {
        on_card = refl;
        made = refl;
        got = refl;
        above = above_seen card t.found (seen_at old) log (omega (arith, was, seen)) s.seen;
        stands = subst (λ (passes : List CellPass). StandsOwn passes (o ∷ log)) (sym t.knows) (record {
          own = own_set old card after log (o ∷ log) (ap (λ l. l ++ (t.found, recorded act t.entry told) ∷ []) (s.own card t.pass t.pass_is) ∙ sym (owns_here o log)) (owns_apart o log) s.own;
          inside = subst (λ (n : ℕ). AreInside n (o ∷ log)) (sym (length-set old card after)) (s.inside, slice_get_within old card t.pass t.pass_is);
          seen = (
            omega (arith, now),
            seen_on (seen_at old) (seen_at (set old card after)) log (seen_set old card t.pass after t.pass_is rises) s.seen,
          );
        });
      },
    )

-- ---- what else a port says of a turn

pub seen_rises : (gates : List CellGate) (card : ℕ) (act : CardAct) (heard : Heard) (old new : List CellPass) → TurnedAt gates card act heard old new → (k : ℕ) → seen_at old k ≤ seen_at new k
seen_rises gates card act None old new t k =
    subst (λ (passes : List CellPass). seen_at old k ≤ seen_at passes k) (sym t.knows) (seen_set old card t.pass (after_turn t.pass t.found None) t.pass_is t.seen k)
seen_rises gates card act (Some told) old new t k =
    let seen = t.seen in
    subst (λ (passes : List CellPass). seen_at old k ≤ seen_at passes k) (sym t.knows) (seen_set old card t.pass (after_turn t.pass t.found (Some (recorded act t.entry told))) t.pass_is (omega (arith, seen)) k)

pub full_seen : (gates : List CellGate) (card : ℕ) (act : CardAct) (heard : Heard) (old new : List CellPass) → TurnedAt gates card act heard old new → heard ≡ None → seen_at new card ≡ turns_at gates card
full_seen gates card act None old new t none =
    ap (λ (passes : List CellPass). seen_at passes card) t.knows
    ∙ (seen_here old card t.pass (after_turn t.pass t.found None) t.pass_is ∙ (t.full refl ∙ sym (ap turns_of t.gate_is)))
full_seen gates card act (Some told) old new t none = absurd (cc)

-- ---- the passes that were handed in

pub still_same : (passes : List CellPass) → AreStill passes passes
still_same passes = record {
  many = refl;
  each = λ k before after a b.
      let both : Some before ≡ Some after = sym a ∙ b in
      let same : before ≡ after = cc in
      subst (λ (p : CellPass). IsStill before p) same (record { same = refl });
}

pub still_set : (first passes : List CellPass) (card : ℕ) (pass after : CellPass) → AreStill first passes → slice_get passes card ≡ Some pass → after ≡ record pass { seen = after.seen; own = after.own }
    → AreStill first (set passes card after)
still_set first passes card pass after are at is = record {
  many = length-set passes card after ∙ are.many;
  each = λ k p q a b. dite (ℕ_discrete k card)
      (λ e. let same : after ≡ q = set_same passes card after q (subst (λ (j : ℕ). slice_get (set passes card after) j ≡ Some q) e b) in
      let here : slice_get first card ≡ Some p = subst (λ (j : ℕ). slice_get first j ≡ Some p) e a in
      let was = (are.each card p pass here at).same in
      subst (λ (z : CellPass). IsStill p z) same (record { same = is ∙ ap (λ (z : CellPass). record z { seen = after.seen; own = after.own }) was }))
      (λ n. are.each k p q a (sym (set_apart passes card k after n) ∙ b));
}
