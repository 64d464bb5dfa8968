-- What an owner of cells stands for (this project's own).
use Rattle.std.specs.Prelude.{◌≡◌, ℕ, Bool, List, length, map, is_some, Some, slice_get, option_map, unwrap_or}
use Rattle.piv_model.specs.declared.store.Store.{Ghosts}
use Rattle.piv_rules.specs.Acts.{Records}
use Rattle.client_api.specs.Ports.{Log, ArePlaces, AreInside, records_of}
use Rattle.card_cell.specs.declared.base.CellBase.{CellBase}
use Rattle.card_cell.specs.declared.cell.CardCell.{CardCell}
use Rattle.card_cell.specs.Cells.{history_of, store_in, turns_of}
use Rattle.card_cell.specs.Holds.{IsHeld}

-- a card's turns, and how many of them were made; 0 where there is no such card
abbrev pub turns_at : {S T : Type 0} {meaning : Ghosts S T} → List (CardCell S T meaning) → ℕ → ℕ
turns_at cells k = unwrap_or (option_map (λ cell. turns_of cell) (slice_get cells k)) 0

abbrev pub seen_at : {S T : Type 0} {meaning : Ghosts S T} → List (CardCell S T meaning) → ℕ → ℕ
seen_at cells k = unwrap_or (option_map (λ cell. length (history_of cell)) (slice_get cells k)) 0

-- there is a base for each cell, over which the cell holds these records
pub record HoldAll {S T : Type 0} {meaning : Ghosts S T} (put_cost : ℕ → ℕ) (cells : List (CardCell S T meaning))
    (bases : List CellBase) (records : ℕ → Records) : Type 0 where
  pub many : length cells ≡ length bases
  pub each : (k : ℕ) (cell : CardCell S T meaning) (base : CellBase)
      → slice_get cells k ≡ Some cell → slice_get bases k ≡ Some base → IsHeld put_cost cell base (records k)

-- a cell's store tells when losses are due
abbrev pub tells_due : {S T : Type 0} {meaning : Ghosts S T} → CardCell S T meaning → Bool
tells_due cell = is_some (store_in cell).power.due

abbrev pub TellAs : {S T : Type 0} {meaning : Ghosts S T} → List Bool → List (CardCell S T meaning) → Type 0
TellAs tells cells = map (λ cell. tells_due cell) cells ≡ tells

-- The owner stands for the own records of all cards: each is one of its cards' and stands at the number of that card's
-- records before, each cell holds the records of its card, and each store tells when losses are due where it did so.
pub record OwnerStandsFor {S T : Type 0} {meaning : Ghosts S T} (put_cost : ℕ → ℕ) (cells : List (CardCell S T meaning)) (bases : List CellBase)
    (tells : List Bool) (log : Log) : Type 0 where
  pub places : ArePlaces log
  pub inside : AreInside (length cells) log
  pub held : HoldAll put_cost cells bases (λ k. records_of k log)
  pub told : TellAs tells cells
