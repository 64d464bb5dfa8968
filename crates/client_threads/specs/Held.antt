-- What a held cell stands for (this project's own). A turnstile has its records in their order, a cell the newest first.
use Rattle.std.specs.Prelude.{◌≡◌, ◌↔◌, ℕ, true, List, length, reverse, Option, None, option_map}
use Rattle.std.proofs.Common.{sym, ap, ◌∙◌}
use Rattle.std.proofs.lemmas.List.{length-reverse, length-map}
use Rattle.piv_model.specs.declared.store.Store.{Ghosts}
use Rattle.piv_rules.specs.Acts.{CardAct, CardRecord}
use Rattle.card_acts.specs.Acts.{Heard, is_answer_to}
use Rattle.card_cell.specs.declared.base.CellBase.{CellBase}
use Rattle.card_cell.specs.declared.cell.CardCell.{CardCell}
use Rattle.card_cell.specs.Cells.{turned_as, history_of, turns_of}
use Rattle.card_cell.specs.Holds.{IsHeld}
use Rattle.client_threads.specs.declared.held_cell.HeldCell.{HeldCell}

abbrev pub cell_of : {S T : Type 0} {meaning : Ghosts S T} → HeldCell S T meaning → CardCell S T meaning
cell_of held = held.cell

abbrev pub HoldsAll : {S T : Type 0} {meaning : Ghosts S T} → (ℕ → ℕ) → HeldCell S T meaning → CellBase → List CardRecord → Type 0
HoldsAll put_cost held base records = IsHeld put_cost (cell_of held) base (reverse records)

-- the record of an act that was answered; Full has none
abbrev pub record_made : {S T : Type 0} {meaning : Ghosts S T} → CardAct → Heard → HeldCell S T meaning → Option CardRecord
record_made act heard held = option_map (λ told. turned_as act (cell_of held) told) heard

-- An act was answered by one of its answers. Full is the answer exactly of a cell that has had all its turns
pub record Ran {S T : Type 0} {meaning : Ghosts S T} (act : CardAct) (heard : Heard) (found : HeldCell S T meaning) : Type 0 where
  pub answers : is_answer_to act heard ≡ true
  pub full : (heard ≡ None) ↔ (length (history_of (cell_of found)) ≡ turns_of (cell_of found))

pub holds_as_many : {S T : Type 0} {meaning : Ghosts S T} (put_cost : ℕ → ℕ) (held : HeldCell S T meaning) (base : CellBase) (records : List CardRecord)
    → HoldsAll put_cost held base records → length records ≡ length (history_of (cell_of held))
holds_as_many put_cost held base records holds =
    sym (ap length holds.past ∙ (length-map (reverse records) (λ r. r.entry) ∙ length-reverse records))
