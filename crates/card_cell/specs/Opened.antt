-- The connections that a cell keeps (this project's own).
use Rattle.std.specs.Prelude.{◌≡◌, ℕ, List}
use Rattle.piv_model.specs.Entries.{Past}
use Rattle.piv_rules.specs.Legal.{opened_count}
use Rattle.card_cell.specs.declared.connections.Open.{Open}
use Rattle.card_cell.specs.declared.connections.Connections.{Connections}
use Rattle.card_cell.specs.Kept.{kept_in, kept_of}

-- those that are open, the newest first, and how many were opened
abbrev pub open_in : Connections → List Open
open_in k = k.kept.items

abbrev pub opened_in : Connections → ℕ
opened_in k = k.opened

-- they are those of a history
pub record AreThoseOf (H : Past) (k : Connections) : Type 0 where
  pub opened : k.opened ≡ opened_count H
  pub kept : (c : ℕ) → kept_in k.kept.items c ≡ kept_of H c
