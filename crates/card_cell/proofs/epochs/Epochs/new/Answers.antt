use Rattle.std.proofs.Common.{refl}
use Rattle.piv_model.specs.declared.kinds.Interface.TheVariants.{Contact, Contactless}
use Rattle.card_cell.proofs.epochs.Epochs.new.Goals as goal

pub returns : goal.returns
returns c Contact = refl
returns c Contactless = refl
