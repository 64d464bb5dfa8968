use Rattle.std.proofs.Common.{refl}
use Rattle.piv_model.specs.declared.kinds.RefId.TheVariants.{Pin, Puk, GlobalPin}
use Rattle.card_cell.proofs.tally.Tally.new.Goals as goal

pub returns : goal.returns
returns c Pin = refl
returns c Puk = refl
returns c GlobalPin = refl
