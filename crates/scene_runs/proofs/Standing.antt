-- What stands on the devices after a run.
use Rattle.std.specs.Prelude.{slice_get}
use Rattle.std.proofs.Common.{◌≡◌, ℕ, zero, suc, ◌≤◌, ◌+◌, List, [], ◌∷◌, ◌++◌, length, map, drop, Some, Result, Ok, Err, OnOk, IfOk, sym, ap, subst, ◌∙◌, arith}
use Rattle.std.proofs.lemmas.List.{length-map, length-append, length-drop, append-nil, drop_at}
use Rattle.std.proofs.lemmas.Option.{slice_get_within}
use Rattle.piv_model.specs.declared.store.Store.{Ghosts}
use Rattle.piv_model.specs.Entries.{Past}
use Rattle.nvm_device.specs.Device.{DeviceState}
use Rattle.piv_rules.specs.Acts.{Records}
use Rattle.block_store.specs.Blocks.{block_form}
use Rattle.block_store.specs.Devices.{OthersStand}
use Rattle.scene_cards.specs.CardValues.{CardValue}
use Rattle.piv_scene.specs.SceneValues.{SceneValue}
use Rattle.card_cell.specs.declared.base.CellBase.{CellBase}
use Rattle.card_cell.specs.declared.cell.CardCell.{CardCell}
use Rattle.card_cell.specs.Cells.{history_of}
use Rattle.card_cell.specs.Holds.{IsHeld}
use Rattle.cell_port.specs.Owned.{HoldAll}
use Rattle.cell_port.specs.OwnedLaws.{found}
use Rattle.scene_cells.specs.Lowered.{AreLeft, IsLeft}
use Rattle.scene_cells.specs.Raised.{AreRaised, cell_base, cell_bases}
use Rattle.scene_cells.specs.Turns.{scene_turns}
use Rattle.scene_runs.specs.CardRuns.{AreLeftBy, CardRan, CardsRan}
use Rattle.scene_runs.proofs.Holding.{bases-there, length-bases}

pub mapped : {A B : Type 0} (f : A → B) (xs : List A) (ys : List B) (k : ℕ) (x : A) → slice_get xs k ≡ Some x → slice_get (map f xs ++ ys) k ≡ Some (f x)
mapped f [] ys k x at = absurd (cc)
mapped f (z ∷ xs) ys zero x at = let same : z ≡ x = cc in ap (λ w. Some (f w)) same
mapped f (z ∷ xs) ys (suc k) x at = mapped f xs ys k x at

one : {A : Type 0} {x y : A} (xs : List A) (k : ℕ) → slice_get xs k ≡ Some x → slice_get xs k ≡ Some y → x ≡ y
one xs k a b = cc

-- an item of a list that was made of another, with more behind it or none
pub made-of : {A B : Type 0} (f : A → B) (xs : List A) (ys all : List B) (k : ℕ) (x : A) (y : B) → all ≡ map f xs ++ ys
    → slice_get xs k ≡ Some x → slice_get all k ≡ Some y → f x ≡ y
made-of {A} {B} f xs ys all k x y is at there = one all k (ap (λ (l : List B). slice_get l k) is ∙ mapped f xs ys k x at) there

-- lists that were put before others
pub front-many : {A B : Type 0} (f : A → B) (xs firsts : List A) (ys all : List B) → all ≡ map f xs ++ ys → length xs ≡ length firsts
    → length all ≡ length firsts + length ys
front-many {A} {B} f xs firsts ys all is many =
    ap (λ (l : List B). length l) is ∙ length-append (map f xs) ys ∙ ap (λ (n : ℕ). n + length ys) (length-map xs f ∙ many)

pub front-dropped : {A B : Type 0} (f : A → B) (xs firsts : List A) (ys all : List B) → all ≡ map f xs ++ ys → length xs ≡ length firsts
    → drop (length firsts) all ≡ ys
front-dropped {A} {B} f xs firsts ys all is many =
    ap (λ (l : List B). drop (length firsts) l) is ∙ drop_at (map f xs) ys (length firsts) (length-map xs f ∙ many)

-- what holds where all went well
pub known : {A E P : Type 0} {a : A} (r : Result A E) → r ≡ Ok a → OnOk r P → P
known (Ok a) is holds = holds
known (Err e) is holds = absurd (cc)

pub if-ok : {A E : Type 0} {P Q : A → Type 0} (r : Result A E) → IfOk r P → ((a : A) → P a → Q a) → IfOk r Q
if-ok (Ok a) holds then = then a holds
if-ok (Err e) holds then = tt

-- as many devices as before, and those beyond the cards' in their places
pub others-stand : {N : Type 0} (n : ℕ) (before new : List N) → n ≤ length before → length new ≡ n + length (drop n before)
    → drop n new ≡ drop n before → OthersStand n before new
others-stand n before new enough count others = record {
  count = (let l = length-drop n before in omega (arith, l, count, enough));
  others = others;
}

-- cells that hold these records were taken down
pub are-left-by : {N S T : Type 0} {meaning : Ghosts S T} (state : N → DeviceState) (device : CardCell S T meaning → N) (bases : List CellBase)
    (cells : List (CardCell S T meaning)) (records : ℕ → Records) → HoldAll block_form.put_cost cells bases records
    → AreLeft (λ cell base R. IsHeld block_form.put_cost cell base R) (λ cell. state (device cell)) cells
    → (devices rest : List N) (histories : List Past) → devices ≡ map device cells ++ rest → histories ≡ map (λ cell. history_of cell) cells ++ []
    → AreLeftBy state bases devices histories records
are-left-by {N} {S} {T} {meaning} state device bases cells records held left devices rest histories devices_are histories_are = record {
  many = ap (λ (l : List Past). length l) (histories_are ∙ append-nil (map (λ (c : CardCell S T meaning). history_of c) cells))
      ∙ length-map cells (λ (c : CardCell S T meaning). history_of c) ∙ held.many;
  each = λ k base now H base_at now_at H_at.
      let low = slice_get_within bases k base base_at in
      let cell = found cells k (let n = held.many in omega (arith, low, n)) in
      let is = held.each k cell.0 base cell.1 base_at in
      let now_is = made-of device cells rest devices k cell.0 now devices_are cell.1 now_at in
      let H_is = made-of (λ (c : CardCell S T meaning). history_of c) cells [] histories k cell.0 H histories_are cell.1 H_at in (
        sym H_is ∙ is.past,
        subst (λ (d : N). IsLeft base (records k) (state d)) now_is (left k cell.0 base (records k) cell.1 is),
      );
}

-- the cells were those of a scene's cards
pub cards-ran : {N S T : Type 0} {meaning : Ghosts S T} (state : N → DeviceState) (device : CardCell S T meaning → N) (scene : SceneValue)
    (before new : List N) (losses : List ℕ) (raised : List (CardCell S T meaning)) (histories : List Past) (records : ℕ → Records)
    → AreRaised state device (scene_turns scene.scripts) scene.cards before losses raised
    → AreLeftBy state (cell_bases (scene_turns scene.scripts) scene.cards losses) new histories records
    → OthersStand (length scene.cards) before new → CardsRan state scene before new histories records
cards-ran {N} state device scene before new losses raised histories records were by others = record {
  many = by.many ∙ length-bases turns scene.cards losses were.counts;
  cards = card-ran;
  others = others;
}
  where
    turns : ℕ
    turns = scene_turns scene.scripts

    card-ran : (k : ℕ) (card : CardValue) (old now : N) (H : Past) → slice_get scene.cards k ≡ Some card → slice_get before k ≡ Some old
        → slice_get new k ≡ Some now → slice_get histories k ≡ Some H → CardRan card turns (state old) (state now) H (records k)
    card-ran k card old now H card_at old_at now_at H_at =
        let low = slice_get_within scene.cards k card card_at in
        let lost = found losses k (let n = were.counts in omega (arith, low, n)) in
        let first = found raised k (let n = were.many in omega (arith, low, n)) in
        let is = (were.each k card old lost.0 first.0 card_at old_at lost.1 first.1).0 in
        let base = cell_base card.start card.plan turns lost.0 in
        let l = by.each k base now H (bases-there turns scene.cards losses k card lost.0 card_at lost.1) now_at H_at in
        record {
          history = l.0;
          left = subst (λ (n : ℕ). IsLeft (cell_base card.start card.plan turns n) (records k) (state now)) is.count l.1;
        }
