-- Raised cells hold no record, each over the base of its card.
use Rattle.std.specs.Prelude.{slice_get}
use Rattle.std.proofs.Common.{◌≡◌, ℕ, zero, suc, ◌≤◌, List, [], ◌∷◌, length, Some, refl, sym, ap, subst, ◌∙◌, arith}
use Rattle.std.proofs.lemmas.Option.{slice_get_within}
use Rattle.piv_model.specs.declared.store.Store.{Ghosts}
use Rattle.nvm_device.specs.Device.{DeviceState}
use Rattle.block_store.specs.Blocks.{block_form}
use Rattle.scene_cards.specs.CardValues.{CardValue}
use Rattle.card_cell.specs.declared.base.CellBase.{CellBase}
use Rattle.card_cell.specs.declared.cell.CardCell.{CardCell}
use Rattle.card_cell.specs.Holds.{IsHeld}
use Rattle.cell_port.specs.Owned.{HoldAll}
use Rattle.cell_port.specs.OwnedLaws.{found}
use Rattle.scene_cells.specs.Raised.{AreRaised, cell_base, cell_bases}
use Rattle.scene_runs.specs.CardRuns.{HaveTurns}

pub length-bases : (turns : ℕ) (cards : List CardValue) (losses : List ℕ) → length losses ≡ length cards → length (cell_bases turns cards losses) ≡ length cards
length-bases turns [] losses e = refl
length-bases turns (card ∷ cards) [] e = absurd (omega arith)
length-bases turns (card ∷ cards) (lost ∷ losses) e = ap suc (length-bases turns cards losses (omega (arith, e)))

-- the card and the losses of a base
record IsBaseAt (turns : ℕ) (cards : List CardValue) (losses : List ℕ) (k : ℕ) (base : CellBase) : Type 0 where
  card : CardValue
  lost : ℕ
  card_is : slice_get cards k ≡ Some card
  lost_is : slice_get losses k ≡ Some lost
  base_is : cell_base card.start card.plan turns lost ≡ base

base-at : (turns : ℕ) (cards : List CardValue) (losses : List ℕ) (k : ℕ) (base : CellBase) → slice_get (cell_bases turns cards losses) k ≡ Some base
    → IsBaseAt turns cards losses k base
base-at turns [] losses k base at = absurd (cc)
base-at turns (card ∷ cards) [] k base at = absurd (cc)
base-at turns (card ∷ cards) (lost ∷ losses) zero base at = record { card = card; lost = lost; card_is = refl; lost_is = refl; base_is = cc }
base-at turns (card ∷ cards) (lost ∷ losses) (suc k) base at =
    let b = base-at turns cards losses k base at in
    record { card = b.card; lost = b.lost; card_is = b.card_is; lost_is = b.lost_is; base_is = b.base_is }

pub bases-there : (turns : ℕ) (cards : List CardValue) (losses : List ℕ) (k : ℕ) (card : CardValue) (lost : ℕ) → slice_get cards k ≡ Some card
    → slice_get losses k ≡ Some lost → slice_get (cell_bases turns cards losses) k ≡ Some (cell_base card.start card.plan turns lost)
bases-there turns [] losses k card lost c l = absurd (cc)
bases-there turns (x ∷ cards) [] k card lost c l = absurd (cc)
bases-there turns (x ∷ cards) (n ∷ losses) zero card lost c l =
    let card_is : x ≡ card = cc in
    let lost_is : n ≡ lost = cc in
    cc
bases-there turns (x ∷ cards) (n ∷ losses) (suc k) card lost c l = bases-there turns cards losses k card lost c l

pub have-turns : (turns : ℕ) (cards : List CardValue) (losses : List ℕ) → HaveTurns turns (cell_bases turns cards losses)
have-turns turns cards losses k base at = ap (λ (b : CellBase). b.turns) (sym (base-at turns cards losses k base at).base_is)

pub held-all : {N S T : Type 0} {meaning : Ghosts S T} (state : N → DeviceState) (device : CardCell S T meaning → N) (turns : ℕ) (cards : List CardValue) (old : List N)
    (losses : List ℕ) (cells : List (CardCell S T meaning)) → length cards ≤ length old → AreRaised state device turns cards old losses cells
    → HoldAll block_form.put_cost cells (cell_bases turns cards losses) (λ k. [])
held-all state device turns cards old losses cells enough raised = record {
  many = raised.many ∙ sym (length-bases turns cards losses raised.counts);
  each = λ k cell base at told.
      let b = base-at turns cards losses k base told in
      let low = slice_get_within cards k b.card b.card_is in
      let before = found old k (omega (arith, low, enough)) in
      subst (λ (x : CellBase). IsHeld block_form.put_cost cell x []) b.base_is (raised.each k b.card before.0 b.lost cell b.card_is before.1 b.lost_is at).0.held;
}
