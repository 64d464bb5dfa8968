-- What an owner of cells has seen of each card is what it has recorded.
use Rattle.std.specs.List.{slice_get}
use Rattle.std.specs.Prelude.{option_map, unwrap_or}
use Rattle.std.proofs.Common.{◌≡◌, ℕ, zero, suc, ◌<◌, ◌≤◌, Bool, true, false, cond, eqb, eq-eqb, List, [], ◌∷◌, length, Option, Some, refl, ap, subst, ◌∙◌, arith}
use Rattle.std.proofs.lemmas.Option.{slice_get_within}
use Rattle.piv_model.specs.declared.store.Store.{Ghosts}
use Rattle.piv_rules.specs.Acts.{Records, entries}
use Rattle.client_api.specs.Ports.{Own, Log, ArePlaces, AreInside, AreSeen, records_of}
use Rattle.card_cell.specs.declared.base.CellBase.{CellBase}
use Rattle.card_cell.specs.declared.cell.CardCell.{CardCell}
use Rattle.card_cell.specs.Cells.{history_of, turns_of}
use Rattle.cell_port.specs.Owned.{HoldAll, OwnerStandsFor, seen_at, turns_at}

-- ---- records of a card

pub found : {A : Type 0} (xs : List A) (k : ℕ) → k < length xs → (x : A) × (slice_get xs k ≡ Some x)
found [] k h = absurd (omega arith)
found (x ∷ xs) zero h = (x, refl)
found (x ∷ xs) (suc k) h = found xs k (omega (arith, h))

pub records-here : (o : Own) (log : Log) → records_of o.card (o ∷ log) ≡ o.did ∷ records_of o.card log
records-here o log = ap (λ b. cond b (o.did ∷ records_of o.card log) (records_of o.card log)) (eq-eqb o.card o.card refl)

pub records-grow : (k : ℕ) (o : Own) (log : Log) → length (records_of k log) ≤ length (records_of k (o ∷ log))
records-grow k o log = elim (eqb o.card k) as (λ b. length (records_of k log) ≤ length (cond b (o.did ∷ records_of k log) (records_of k log))) [ true ↦ omega arith | false ↦ omega arith ]

entries-length : (R : Records) → length (entries R) ≡ length R
entries-length [] = refl
entries-length (r ∷ R) = ap suc (entries-length R)

-- ---- the turns of a card

-- they are those that its base has
pub turns-held : {S T : Type 0} {meaning : Ghosts S T} (put_cost : ℕ → ℕ) (cells : List (CardCell S T meaning)) (bases : List CellBase) (records : ℕ → Records)
    → HoldAll put_cost cells bases records → (k : ℕ) (base : CellBase) → slice_get bases k ≡ Some base → turns_at cells k ≡ base.turns
turns-held {S} {T} {meaning} put_cost cells bases records all k base began =
    let within = slice_get_within bases k base began in
    let cell = found cells k (omega (arith, within, all.many)) in
    ap (λ (o : Option (CardCell S T meaning)). unwrap_or (option_map (λ c. turns_of c) o) 0) cell.1 ∙ (all.each k cell.0 base cell.1 began).turns

-- ---- what is seen

seen-is : {S T : Type 0} {meaning : Ghosts S T} (put_cost : ℕ → ℕ) (cells : List (CardCell S T meaning)) (bases : List CellBase) (records : ℕ → Records)
    → HoldAll put_cost cells bases records → (k : ℕ) → k < length cells → seen_at cells k ≡ length (records k)
seen-is {S} {T} {meaning} put_cost cells bases records all k lt =
    let cell = found cells k lt in
    let base = found bases k (omega (arith, lt, all.many)) in
    ap (λ (o : Option (CardCell S T meaning)). unwrap_or (option_map (λ c. length (history_of c)) o) 0) cell.1
    ∙ ap (λ H. length H) (all.each k cell.0 base.0 cell.1 base.1).past
    ∙ entries-length (records k)

seen-none : {S T : Type 0} {meaning : Ghosts S T} (cells : List (CardCell S T meaning)) (k n : ℕ) → (k < length cells → seen_at cells k ≤ n) → seen_at cells k ≤ n
seen-none [] k n below = omega arith
seen-none (cell ∷ cells) zero n below = below (omega arith)
seen-none (cell ∷ cells) (suc k) n below = seen-none cells k n (λ lt. below (omega (arith, lt)))

-- no more than is recorded
pub seen-recorded : {S T : Type 0} {meaning : Ghosts S T} (put_cost : ℕ → ℕ) (cells : List (CardCell S T meaning)) (bases : List CellBase) (tells : List Bool) (log : Log) (k : ℕ)
    → OwnerStandsFor put_cost cells bases tells log → seen_at cells k ≤ length (records_of k log)
seen-recorded put_cost cells bases tells log k stood =
    seen-none cells k (length (records_of k log)) (λ lt. let e = seen-is put_cost cells bases (λ j. records_of j log) stood.held k lt in omega (arith, e))

seen-from : {S T : Type 0} {meaning : Ghosts S T} (cells : List (CardCell S T meaning)) (log : Log) → ArePlaces log → AreInside (length cells) log
    → ((k : ℕ) → k < length cells → length (records_of k log) ≤ seen_at cells k) → AreSeen (seen_at cells) log
seen-from cells [] places inside all = tt
seen-from cells (o ∷ log) places inside all =
    let n : suc (length (records_of o.card log)) ≤ seen_at cells o.card = subst (λ (R : Records). length R ≤ seen_at cells o.card) (records-here o log) (all o.card inside.1) in (
      omega (arith, n, places.1),
      seen-from cells log places.0 inside.0 (λ k lt. let h = records-grow k o log in let a = all k lt in omega (arith, h, a)),
    )

-- and all that is recorded
pub seen-above : {S T : Type 0} {meaning : Ghosts S T} (put_cost : ℕ → ℕ) (cells : List (CardCell S T meaning)) (bases : List CellBase) (tells : List Bool) (log : Log)
    → OwnerStandsFor put_cost cells bases tells log → AreSeen (seen_at cells) log
seen-above put_cost cells bases tells log stood = seen-from cells log stood.places stood.inside
    (λ k lt. let e = seen-is put_cost cells bases (λ j. records_of j log) stood.held k lt in omega (arith, e))
