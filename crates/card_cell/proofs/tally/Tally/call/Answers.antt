use Rattle.piv_model.specs.declared.kinds.RefId.TheVariants.{Pin, Puk, GlobalPin}
use Rattle.card_cell.proofs.tally.Tally.call.Goals as goal

pub returns : goal.returns
returns c Pin = c.after_call-self.ensures
returns c Puk = c.after_call-self-2.ensures
returns c GlobalPin = c.after_call-self-3.ensures
