-- The cells of a port.
use Rattle.std.specs.Prelude.{List}
use Rattle.piv_model.specs.declared.store.Store.{Ghosts}
use Rattle.card_cell.specs.declared.cell.CardCell.{CardCell}
use Rattle.cell_port.specs.declared.cells.CellPort.{CellPort}

abbrev pub cells_of : {S L T : Type 0} {meaning : Ghosts S T} → CellPort S L T meaning → List (CardCell S T meaning)
cells_of port = port.cells.items
