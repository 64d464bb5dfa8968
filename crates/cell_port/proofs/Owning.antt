-- What an owner of cells stands for after a turn of one cell.
use Rattle.std.proofs.Common.{◌≡◌, ◌≢◌, ℕ, zero, suc, ◌<◌, ◌≤◌, Bool, true, false, cond, ne_eqb, List, [], ◌∷◌, length, set, length-set, Option, Some, None, IfSome, sym, refl, ap, subst, ◌∙◌, arith}
use mathlib.Core.Logic.{dite}
use native.Mathlib.Decide.{ℕ_discrete}
use Rattle.std.specs.List.{slice_get}
use Rattle.std.specs.Prelude.{map, option_map, unwrap_or, slice_index_or}
use Rattle.piv_model.specs.declared.store.Store.{Ghosts}
use Rattle.piv_model.specs.Entries.{Past}
use Rattle.piv_rules.specs.Acts.{CardAct, Records}
use Rattle.card_acts.specs.Acts.{Heard, answer_of}
use Rattle.card_acts.specs.declared.answer.Answer.{Answer}
use Rattle.card_acts.specs.declared.answer.Answer.TheVariants as answer
use Rattle.client_api.specs.Ports.{Own, Log, ArePlaces, AreInside, IsAbove, TurnedPort, records_of}
use Rattle.card_cell.specs.declared.base.CellBase.{CellBase}
use Rattle.card_cell.specs.declared.cell.CardCell.{CardCell}
use Rattle.card_cell.specs.Cells.{TurnsOnce, followed, history_of, store_in, turned_as, turns_of}
use Rattle.card_cell.specs.Exchanged.{latest}
use Rattle.card_cell.specs.Holds.{IsHeld}
use Rattle.card_cell.specs.Losses.{IsCounted, is_loss}
use Rattle.cell_port.specs.Owned.{HoldAll, OwnerStandsFor, seen_at, tells_due, turns_at}
use Rattle.cell_port.specs.OwnedLaws.{records-here, records-grow}

-- ---- one item of a list is set

module _ {A : Type 0} where
  set-same : (xs : List A) (k : ℕ) (a b : A) → slice_get (set xs k a) k ≡ Some b → a ≡ b
  set-same [] k a b e = absurd (cc)
  set-same (x ∷ xs) zero a b e = cc
  set-same (x ∷ xs) (suc k) a b e = set-same xs k a b e

  set-here : (xs : List A) (k : ℕ) (a : A) → k < length xs → slice_get (set xs k a) k ≡ Some a
  set-here [] k a h = absurd (omega arith)
  set-here (x ∷ xs) zero a h = refl
  set-here (x ∷ xs) (suc k) a h = set-here xs k a (omega (arith, h))

  set-apart : (xs : List A) (k j : ℕ) (a : A) → j ≢ k → slice_get (set xs k a) j ≡ slice_get xs j
  set-apart [] k j a n = refl
  set-apart (x ∷ xs) zero zero a n = absurd (n refl)
  set-apart (x ∷ xs) zero (suc j) a n = refl
  set-apart (x ∷ xs) (suc k) zero a n = refl
  set-apart (x ∷ xs) (suc k) (suc j) a n = set-apart xs k j a (λ e. n (ap suc e))

  -- what is the same of an item is the same of all
  map-set : {B : Type 0} (f : A → B) (xs : List A) (k : ℕ) (a b : A) → slice_get xs k ≡ Some a → f b ≡ f a → map f (set xs k b) ≡ map f xs
  map-set f [] k a b e same = refl
  map-set f (x ∷ xs) zero a b e same = let is : x ≡ a = cc in ap (λ y. y ∷ map f xs) (same ∙ ap f (sym is))
  map-set f (x ∷ xs) (suc k) a b e same = ap (λ ys. f x ∷ ys) (map-set f xs k a b e same)

  pub there : (xs : List A) (k : ℕ) (a : A) → k < length xs → a ≡ slice_index_or xs k a → slice_get xs k ≡ Some a
  there [] k a h e = absurd (omega arith)
  there (x ∷ xs) zero a h e = ap Some (sym e)
  there (x ∷ xs) (suc k) a h e = there xs k a (omega (arith, h)) e

-- ---- records

records-other : (k : ℕ) (o : Own) (log : Log) → k ≢ o.card → records_of k (o ∷ log) ≡ records_of k log
records-other k o log n = ap (λ b. cond b (o.did ∷ records_of k log) (records_of k log)) (ne_eqb o.card k (λ e. n (sym e)))

-- places that count up are below the next one
above-places : (card : ℕ) (log : Log) (n : ℕ) → ArePlaces log → length (records_of card log) ≤ n → IsAbove card n log
above-places card [] n places le = tt
above-places card (o ∷ log) n places le =
    let grow = records-grow card o log in (
      (λ e. let here : length (records_of o.card (o ∷ log)) ≡ suc (length (records_of o.card log)) = ap (λ (R : Records). length R) (records-here o log) in
          let at : length (records_of o.card (o ∷ log)) ≤ n = subst (λ (k : ℕ). length (records_of k (o ∷ log)) ≤ n) (sym e) le in
          omega (arith, here, at, places.1)),
      above-places card log n places.0 (omega (arith, grow, le)),
    )

-- ---- a turn

-- the records of one card change, and its cell with them
held-set : {S T : Type 0} {meaning : Ghosts S T} (put_cost : ℕ → ℕ) (cells : List (CardCell S T meaning)) (bases : List CellBase) (card : ℕ)
    (old new : CardCell S T meaning) (records later : ℕ → Records)
    → slice_get cells card ≡ Some old
    → ((base : CellBase) → IsHeld put_cost old base (records card) → IsHeld put_cost new base (later card))
    → ((k : ℕ) → k ≢ card → later k ≡ records k)
    → HoldAll put_cost cells bases records → HoldAll put_cost (set cells card new) bases later
held-set {S} {T} {meaning} put_cost cells bases card old new records later here step apart all = record {
  many = length-set cells card new ∙ all.many;
  each = λ k cell base at told. dite (ℕ_discrete k card)
      (λ e. let same : new ≡ cell = set-same cells card new cell (subst (λ i. slice_get (set cells card new) i ≡ Some cell) e at) in
      let began : slice_get bases card ≡ Some base = subst (λ i. slice_get bases i ≡ Some base) e told in
      subst (λ (z : CardCell S T meaning × ℕ). IsHeld put_cost z.0 base (later z.1)) (λ i. (same i, sym e i)) (step base (all.each card old base here began)))
      (λ n. subst (λ (R : Records). IsHeld put_cost cell base R) (sym (apart k n)) (all.each k cell base (sym (set-apart cells card k new n) ∙ at) told));
}

pub owner-turned : {S T : Type 0} {meaning : Ghosts S T} (put_cost : ℕ → ℕ) (cells : List (CardCell S T meaning)) (bases : List CellBase) (tells : List Bool) (card : ℕ)
    (old new : CardCell S T meaning) (act : CardAct) (heard : Heard) (log : Log)
    → card < length cells → slice_get cells card ≡ Some old → tells_due new ≡ tells_due old
    → ((base : CellBase) (R : Records) → IsHeld put_cost old base R → IsHeld put_cost new base (followed act new heard R))
    → OwnerStandsFor put_cost cells bases tells log
    → TurnedPort (OwnerStandsFor put_cost (set cells card new) bases tells) log card act heard
owner-turned {S} {T} {meaning} put_cost cells bases tells card old new act None log lt here same held stood = record {
  places = stood.places;
  inside = subst (λ n. AreInside n log) (sym (length-set cells card new)) stood.inside;
  held = held-set put_cost cells bases card old new (λ k. records_of k log) (λ k. records_of k log) here (λ base is. held base (records_of card log) is) (λ k n. refl) stood.held;
  told = map-set (λ (cell : CardCell S T meaning). tells_due cell) cells card old new here same ∙ stood.told;
}
owner-turned {S} {T} {meaning} put_cost cells bases tells card old new act (Some answer) log lt here same held stood = (
  own,
  record {
    on_card = refl;
    made = refl;
    got = refl;
    above = above-places card log (length (records_of card log)) stood.places (omega arith);
    stands = record {
      places = (stood.places, refl);
      inside = (subst (λ n. AreInside n log) (sym (length-set cells card new)) stood.inside, let l = length-set cells card new in omega (arith, l, lt));
      held = held-set put_cost cells bases card old new (λ k. records_of k log) (λ k. records_of k (own ∷ log)) here
          (λ base is. subst (λ (R : Records). IsHeld put_cost new base R) (sym (records-here own log)) (held base (records_of card log) is))
          (λ k n. records-other k own log n) stood.held;
      told = map-set (λ (cell : CardCell S T meaning). tells_due cell) cells card old new here same ∙ stood.told;
    };
  },
)
  where
    own : Own
    own = record { card = card; place = length (records_of card log); did = turned_as act new answer }

-- ---- the turns that are made

full-heard : (a : Answer) → answer_of a ≡ None → a ≡ answer.Full
full-heard answer.Full h = refl
full-heard (answer.Connected c epoch) h = absurd (cc)
full-heard answer.Disconnected h = absurd (cc)
full-heard (answer.Reply body sw) h = absurd (cc)
full-heard (answer.Mute epoch) h = absurd (cc)
full-heard (answer.Stale epoch) h = absurd (cc)
full-heard answer.NoConnection h = absurd (cc)
full-heard answer.Locked h = absurd (cc)
full-heard answer.NoChannel h = absurd (cc)
full-heard answer.Off h = absurd (cc)
full-heard answer.On h = absurd (cc)
full-heard answer.WasReset h = absurd (cc)
full-heard answer.WasCut h = absurd (cc)
full-heard (answer.Up took) h = absurd (cc)

-- what a turn leaves of a cell's turns and history, and of what its store tells
pub record Keeps {S T : Type 0} {meaning : Ghosts S T} (old new : CardCell S T meaning) : Type 0 where
  pub turns : turns_of new ≡ turns_of old
  pub grows : length (history_of old) ≤ length (history_of new)
  pub tells : tells_due new ≡ tells_due old

told-as : {S T : Type 0} {meaning : Ghosts S T} (old new : CardCell S T meaning) (lost : Bool) → IsCounted lost (store_in old) (store_in new) → tells_due new ≡ tells_due old
told-as old new true counted = counted.2.1
told-as old new false counted = counted.2.1

pub kept : {S T : Type 0} {meaning : Ghosts S T} (put_cost : ℕ → ℕ) (old new : CardCell S T meaning) (act : CardAct) (a : Answer)
    → (a ≡ answer.Full → new ≡ old) → IfSome (answer_of a) (TurnsOnce put_cost old new act) → Keeps old new
kept {S} {T} {meaning} put_cost old new act a same once = go (answer_of a) refl once
  where
    go : (h : Heard) → answer_of a ≡ h → IfSome h (TurnsOnce put_cost old new act) → Keeps old new
    go None is turned =
        let e : old ≡ new = sym (same (full-heard a is)) in
        subst (λ (x : CardCell S T meaning). Keeps old x) e (record { turns = refl; grows = omega arith; tells = refl })
    go (Some told) is turned = record {
      turns = turned.turns;
      grows = (let l = ap (λ (H : Past). length H) turned.past in omega (arith, l));
      tells = told-as old new (is_loss (latest (history_of new))) turned.counted;
    }

pub kept-full : {S T : Type 0} {meaning : Ghosts S T} (old new : CardCell S T meaning) (a : Answer) → (a ≡ answer.Full → new ≡ old)
    → (a ≡ answer.Full → length (history_of old) ≡ turns_of old) → answer_of a ≡ None → length (history_of new) ≡ turns_of new
kept-full {S} {T} {meaning} old new a same full is =
    subst (λ (x : CardCell S T meaning). length (history_of x) ≡ turns_of x) (sym (same (full-heard a is))) (full (full-heard a is))

pub turns-set : {S T : Type 0} {meaning : Ghosts S T} (cells : List (CardCell S T meaning)) (card k : ℕ) (old new : CardCell S T meaning)
    → card < length cells → slice_get cells card ≡ Some old → turns_of new ≡ turns_of old → turns_at (set cells card new) k ≡ turns_at cells k
turns-set {S} {T} {meaning} cells card k old new lt here e = dite (ℕ_discrete k card)
    (λ s. let a : turns_at (set cells card new) card ≡ turns_of new = ap (λ (o : Option (CardCell S T meaning)). unwrap_or (option_map (λ c. turns_of c) o) 0) (set-here cells card new lt) in
    let b : turns_at cells card ≡ turns_of old = ap (λ (o : Option (CardCell S T meaning)). unwrap_or (option_map (λ c. turns_of c) o) 0) here in
    subst (λ i. turns_at (set cells card new) i ≡ turns_at cells i) (sym s) (a ∙ (e ∙ sym b)))
    (λ n. ap (λ (o : Option (CardCell S T meaning)). unwrap_or (option_map (λ c. turns_of c) o) 0) (set-apart cells card k new n))

seen-new : {S T : Type 0} {meaning : Ghosts S T} (cells : List (CardCell S T meaning)) (card : ℕ) (new : CardCell S T meaning)
    → card < length cells → seen_at (set cells card new) card ≡ length (history_of new)
seen-new {S} {T} {meaning} cells card new lt = ap (λ (o : Option (CardCell S T meaning)). unwrap_or (option_map (λ c. length (history_of c)) o) 0) (set-here cells card new lt)

pub seen-set : {S T : Type 0} {meaning : Ghosts S T} (cells : List (CardCell S T meaning)) (card k : ℕ) (old new : CardCell S T meaning)
    → card < length cells → slice_get cells card ≡ Some old → length (history_of old) ≤ length (history_of new)
    → seen_at cells k ≤ seen_at (set cells card new) k
seen-set {S} {T} {meaning} cells card k old new lt here le = dite (ℕ_discrete k card)
    (λ s. let a = seen-new cells card new lt in
    let b : seen_at cells card ≡ length (history_of old) = ap (λ (o : Option (CardCell S T meaning)). unwrap_or (option_map (λ c. length (history_of c)) o) 0) here in
    subst (λ i. seen_at cells i ≤ seen_at (set cells card new) i) (sym s) (omega (arith, a, b, le)))
    (λ n. let h : seen_at (set cells card new) k ≡ seen_at cells k = ap (λ (o : Option (CardCell S T meaning)). unwrap_or (option_map (λ c. length (history_of c)) o) 0) (set-apart cells card k new n) in omega (arith, h))

pub full-set : {S T : Type 0} {meaning : Ghosts S T} (cells : List (CardCell S T meaning)) (card : ℕ) (new : CardCell S T meaning)
    → card < length cells → length (history_of new) ≡ turns_of new → seen_at (set cells card new) card ≡ turns_at (set cells card new) card
full-set {S} {T} {meaning} cells card new lt full =
    seen-new cells card new lt ∙ full
    ∙ sym (ap (λ (o : Option (CardCell S T meaning)). unwrap_or (option_map (λ c. turns_of c) o) 0) (set-here cells card new lt))
