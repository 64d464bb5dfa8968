-- What a cell is to the base that it began with, whatever its store tells (this project's own).
use Rattle.std.specs.Prelude.{◌≡◌, ℕ, true, List, length, is_some, IfSome}
use Rattle.piv_model.specs.declared.start.Start.{Start}
use Rattle.piv_model.specs.declared.store.Store.{Ghosts}
use Rattle.piv_model.specs.Base.{Base}
use Rattle.piv_model.specs.Starts.{memory_of_start}
use Rattle.piv_model.specs.Stores.{StoreState}
use Rattle.piv_rules.specs.Acts.{Records, entries}
use Rattle.piv_rules.specs.Plans.{IsPlanOf}
use Rattle.card_cell.specs.declared.base.CellBase.{CellBase}
use Rattle.card_cell.specs.declared.cell.CardCell.{CardCell}
use Rattle.card_cell.specs.Cells.{CellStandsFor, history_of, turns_of, store_in}
use Rattle.card_cell.specs.Losses.{IsTallied}

-- the card that a start spells
abbrev pub base_of : Start → Base
base_of start = record { memory = memory_of_start start; random = start.random }

-- a cell of these random bytes and turns, over this store, begins with the base
pub record BeginsWith (base : CellBase) (seed : List ℕ) (most : ℕ) (s : StoreState) : Type 0 where
  pub memory : IfSome s.mem (λ m. m ≡ memory_of_start base.start)
  pub random : base.start.random ≡ seed
  pub turns : base.turns ≡ most
  pub due : IfSome s.power.due (λ due. due ≡ base.plan)
  pub span : s.power.span ≡ length base.plan
  pub losses : s.power.losses ≡ base.losses

-- The cell holds these records over the base: where its store tells its memory it stands for them, and the plan is one of
-- the cell; whatever the store tells, the history is theirs, and the counts of losses have their cause.
pub record IsHeld {S T : Type 0} {meaning : Ghosts S T} (put_cost : ℕ → ℕ) (cell : CardCell S T meaning) (base : CellBase) (R : Records) : Type 0 where
  pub turns : turns_of cell ≡ base.turns
  pub past : history_of cell ≡ entries R
  pub stands : is_some (store_in cell).mem ≡ true → CellStandsFor cell (base_of base.start) R
  pub plan : is_some (store_in cell).mem ≡ true
      → IfSome (store_in cell).power.due (λ due. IsPlanOf put_cost (base_of base.start) base.plan (entries R) due)
  pub tally : IsTallied (length base.plan) base.losses (entries R) (store_in cell)
