-- One record more, in the order of a turnstile and in that of a cell.
use Rattle.std.specs.Prelude.{reverse}
use Rattle.std.proofs.Common.{◌≡◌, List, [], ◌∷◌, Some, None, refl, sym}
use Rattle.std.proofs.lemmas.List.{reverse-append}
use Rattle.turnstile.specs.Records.{followed}
use Rattle.piv_model.specs.declared.store.Store.{Ghosts}
use Rattle.piv_rules.specs.Acts.{CardAct, CardRecord}
use Rattle.card_acts.specs.Acts.{Heard}
use Rattle.card_cell.specs.Cells as cells
use Rattle.client_threads.specs.declared.held_cell.HeldCell.{HeldCell}
use Rattle.client_threads.specs.Held.{cell_of, record_made}

pub followed_back : {S T : Type 0} {meaning : Ghosts S T} (act : CardAct) (heard : Heard) (held : HeldCell S T meaning) (records : List CardRecord)
    → cells.followed act (cell_of held) heard (reverse records) ≡ reverse (followed records (record_made act heard held))
followed_back act None held records = refl
followed_back act (Some told) held records = sym (reverse-append records (cells.turned_as act (cell_of held) told ∷ []))
