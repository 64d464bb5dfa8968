-- The epochs that a cell keeps (this project's own).
use Rattle.std.specs.Prelude.{ℕ}
use Rattle.piv_model.specs.declared.kinds.Interface.{Interface}
use Rattle.piv_model.specs.declared.kinds.Interface.TheVariants.{Contact, Contactless}
use Rattle.card_cell.specs.declared.epochs.Epochs.{Epochs}

abbrev pub epoch_in : Epochs → Interface → ℕ
epoch_in k Contact = k.contact
epoch_in k Contactless = k.contactless
