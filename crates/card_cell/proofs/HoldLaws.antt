-- What a cell is to its base: at its beginning, and after one turn.
use Rattle.std.specs.Prelude.{is_some, nat_lt, filter, map, slice_index, IsSome, if◌then◌else◌}
use Rattle.std.specs.List.Sorted.{IsStrictlyIncreasing}
use Rattle.std.proofs.Common.{◌≡◌, ◌<◌, ◌+◌, ◌-◌, ℕ, zero, suc, Bool, true, false, List, [], ◌∷◌, Option, Some, None, IfSome, refl, ap, sym, ◌∙◌, subst, arith, length}
use Rattle.std.proofs.lemmas.Bool.Decides.{nat_tests}
use Rattle.power_loss.specs.Due.{RisesFrom}
use Rattle.power_loss.specs.Power.{RisesWithin}
use Rattle.piv_model.specs.declared.store.Store.{Ghosts}
use Rattle.piv_model.specs.declared.kinds.Interface.{Interface}
use Rattle.piv_model.specs.Base.{Base}
use Rattle.piv_model.specs.Entries.{Past}
use Rattle.piv_model.specs.declared.kinds.RefId.{RefId}
use Rattle.piv_model.specs.Memory.{Memory}
use Rattle.piv_model.specs.Sound.{IsSound}
use Rattle.piv_model.specs.Starts.{memory_of_start}
use Rattle.piv_model.specs.Stores.{StoreState}
use Rattle.piv_rules.specs.Acts.{CardAct, CardAnswer, Records, entries}
use Rattle.piv_rules.specs.Plans.{IsPlanOf}
use Rattle.challenge_blocks.specs.Next.{IsNext}
use Rattle.card_commands.specs.Executes.{TellsAlike}
use Rattle.card_app.specs.Stands.{CardStandsFor}
use Rattle.card_acts.specs.Acts.{Heard}
use Rattle.card_cell.specs.declared.base.CellBase.{CellBase}
use Rattle.card_cell.specs.declared.cell.CardCell.{CardCell}
use Rattle.card_cell.specs.Cells.{CellStandsFor, TurnsOnce, followed, history_of, store_in, turns_of}
use Rattle.card_cell.specs.Epochs.{epoch_in}
use Rattle.card_cell.specs.Exchanged.{latest}
use Rattle.card_cell.specs.Holds.{base_of, BeginsWith, IsHeld}
use Rattle.card_cell.specs.Kept.{kept_in}
use Rattle.card_cell.specs.Losses.{is_loss, IsCounted}
use Rattle.card_cell.specs.Opened.{open_in, opened_in}
use Rattle.card_cell.specs.Tally.{count_in}
use Rattle.card_cell.proofs.CountLaws.{no-count}
use Rattle.card_cell.proofs.LossTies.{tallied}

-- ---- a plan at the beginning: what a store tells is due

rising : (low : ℕ) (xs : List ℕ) → RisesFrom low xs → IsStrictlyIncreasing xs
rising low [] r = λ k h. absurd (let l : k + 1 < 0 = h in omega arith)
rising low (x ∷ []) r = λ k h. absurd (let l : k + 1 < 1 = h in omega arith)
rising low (x ∷ y ∷ ys) r = at (rising x (y ∷ ys) r.1)
  where
    at : IsStrictlyIncreasing (y ∷ ys) → IsStrictlyIncreasing (x ∷ y ∷ ys)
    at ih zero h = r.1.0
    at ih (suc k) h =
        let e : suc (k + 1) ≡ suc k + 1 = omega arith in
        subst (λ (n : ℕ). slice_index (y ∷ ys) k < slice_index (x ∷ y ∷ ys) n) e
        (ih k (let b : suc k + 1 < suc (suc (length ys)) = h in let c : k + 1 < suc (length ys) = omega arith in c))

all-due : (low : ℕ) (xs : List ℕ) → RisesFrom low xs → xs ≡ map (λ x. x - 0) (filter (nat_lt 0) xs)
all-due low [] r = refl
all-due low (x ∷ xs) r =
    let a = r.0 in
    let l : nat_lt 0 x ≡ true = grind (arith, nat_tests) in
    let z : x ≡ x - 0 = omega arith in
    (λ j. z j ∷ all-due x xs r.1 j) ∙ sym (λ j. map (λ y. y - 0) (if l j then x ∷ filter (nat_lt 0) xs else filter (nat_lt 0) xs))

pub first-plan : (put_cost : ℕ → ℕ) (B : Base) (due : List ℕ) → RisesFrom 0 due → IsPlanOf put_cost B due [] due
first-plan put_cost B due r = record { rises = rising 0 due r; planned = tt; due = all-due 0 due r }

pub due-planned : (put_cost : ℕ → ℕ) (B : Base) (span : ℕ) (due : Option (List ℕ)) → RisesWithin span due → IfSome due (λ d. IsPlanOf put_cost B d [] d)
due-planned put_cost B span None r = tt
due-planned put_cost B span (Some due) r = first-plan put_cost B due r.0

-- ---- a cell at the beginning

pub begun-stands : {S T : Type 0} {meaning : Ghosts S T} (cell : CardCell S T meaning) (B : Base) → CardStandsFor cell.card B []
    → cell.history.past ≡ [] → ((i : Interface) → epoch_in cell.epochs i ≡ 0) → open_in cell.connections ≡ [] → opened_in cell.connections ≡ 0
    → IsNext B.random 0 cell.blocks → IsSound B.memory → cell.has_global ≡ is_some B.memory.global → ((r : RefId) → count_in cell.tally r ≡ 0)
    → CellStandsFor cell B []
begun-stands cell B card past epochs none opened blocks sound global counts = record {
  card = card;
  past = past;
  epochs = epochs;
  connections = record { opened = opened; kept = λ c. (λ j. kept_in (none j) c) };
  blocks = blocks;
  sound = sound;
  global = global;
  compared = λ r h. counts r ∙ no-count B r;
}

pub begun-held : {S T : Type 0} {meaning : Ghosts S T} (put_cost : ℕ → ℕ) (cell : CardCell S T meaning) (base : CellBase) (random : List ℕ) (turns : ℕ)
    → BeginsWith base random turns (store_in cell) → RisesWithin (store_in cell).power.span (store_in cell).power.due
    → turns_of cell ≡ turns → history_of cell ≡ []
    → ((B : Base) → B.random ≡ random → (store_in cell).mem ≡ Some B.memory → CellStandsFor cell B [])
    → IsHeld put_cost cell base []
begun-held put_cost cell base random turns begins rises few past stands = record {
  turns = few ∙ sym begins.turns;
  past = past;
  stands = λ told. stands (base_of base.start) begins.random (memory (store_in cell).mem told begins.memory);
  plan = λ told. planned (store_in cell).power.due begins.due rises;
  tally = record {
    span = begins.span;
    low = (let l = begins.losses in omega arith);
    most = λ few. (let l = begins.losses in omega arith);
    some = λ few rose. absurd (let l = begins.losses in omega arith);
  };
}
  where
    memory : (mem : Option Memory) → is_some mem ≡ true → IfSome mem (λ m. m ≡ memory_of_start base.start) → mem ≡ Some (memory_of_start base.start)
    memory None told is = absurd (cc)
    memory (Some m) told is = ap Some is

    planned : (due : Option (List ℕ)) → IfSome due (λ d. d ≡ base.plan) → RisesWithin (store_in cell).power.span due
        → IfSome due (λ d. IsPlanOf put_cost (base_of base.start) base.plan [] d)
    planned None is r = tt
    planned (Some due) is r = subst (λ (L : List ℕ). IsPlanOf put_cost (base_of base.start) L [] due) is (first-plan put_cost (base_of base.start) due r.0)

-- ---- one turn

alike : (b : Bool) (so sn : StoreState) → IsCounted b so sn → TellsAlike so sn
alike true so sn c = c.2
alike false so sn c = c.2

plan-on : (put_cost : ℕ → ℕ) (B : Base) (L : List ℕ) (G H : Past) (so sn : Option (List ℕ)) → is_some sn ≡ is_some so
    → IfSome so (λ told. IsPlanOf put_cost B L G told → IfSome sn (λ later. IsPlanOf put_cost B L H later))
    → IfSome so (λ due. IsPlanOf put_cost B L G due) → IfSome sn (λ due. IsPlanOf put_cost B L H due)
plan-on put_cost B L G H None None same goes plan = tt
plan-on put_cost B L G H None (Some n) same goes plan = absurd (cc)
plan-on put_cost B L G H (Some o) n same goes plan = goes plan

pub held-once : {S T : Type 0} {meaning : Ghosts S T} (put_cost : ℕ → ℕ) (old new : CardCell S T meaning) (act : CardAct) (a : CardAnswer)
    (base : CellBase) (R : Records) → TurnsOnce put_cost old new act a → IsHeld put_cost old base R
    → IsHeld put_cost new base (record { act = act; entry = latest (history_of new); answer = a } ∷ R)
held-once put_cost old new act a base R once held =
    let keeps = alike (is_loss (latest (history_of new))) (store_in old) (store_in new) once.counted in
    record {
      turns = once.turns ∙ held.turns;
      past = once.past ∙ ap (λ (H : Past). latest (history_of new) ∷ H) held.past;
      stands = λ told. once.stands (base_of base.start) R (held.stands (sym keeps.0 ∙ told));
      plan = λ told. plan-on put_cost (base_of base.start) base.plan (entries R) (latest (history_of new) ∷ entries R) (store_in old).power.due (store_in new).power.due keeps.1
          (once.plan (base_of base.start) R base.plan (held.stands (sym keeps.0 ∙ told))) (held.plan (sym keeps.0 ∙ told));
      tally = tallied (length base.plan) base.losses (entries R) (latest (history_of new)) (store_in old) (store_in new) held.tally once.counted;
    }

pub followed-stands : {S T : Type 0} {meaning : Ghosts S T} (put_cost : ℕ → ℕ) (old new : CardCell S T meaning) (act : CardAct) (h : Heard)
    (B : Base) (R : Records) → IsSome h → IfSome h (TurnsOnce put_cost old new act) → CellStandsFor old B R → CellStandsFor new B (followed act new h R)
followed-stands put_cost old new act None B R some once s = absurd (cc)
followed-stands put_cost old new act (Some a) B R some once s = once.stands B R s

pub followed-held : {S T : Type 0} {meaning : Ghosts S T} (put_cost : ℕ → ℕ) (old new : CardCell S T meaning) (act : CardAct) (h : Heard)
    (base : CellBase) (R : Records) → IsSome h → IfSome h (TurnsOnce put_cost old new act) → IsHeld put_cost old base R
    → IsHeld put_cost new base (followed act new h R)
followed-held put_cost old new act None base R some once held = absurd (cc)
followed-held put_cost old new act (Some a) base R some once held = held-once put_cost old new act a base R once held
