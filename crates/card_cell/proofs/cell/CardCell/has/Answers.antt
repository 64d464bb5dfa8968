use Rattle.std.proofs.Common.{sym, ap, ◌∙◌}
use Rattle.piv_model.specs.declared.kinds.RefId.{RefId}
use Rattle.piv_model.specs.Memory.{has}
use Rattle.card_cell.proofs.cell.CardCell.has.Goals as goal

pub returns-in-Pin : goal.returns-in-Pin
returns-in-Pin g c B R s = sym (ap (λ (r : RefId). has B.memory r) c.in-Pin.is)

pub returns-in-Puk : goal.returns-in-Puk
returns-in-Puk g c B R s = sym (ap (λ (r : RefId). has B.memory r) c.in-Puk.is)

pub returns-in-GlobalPin : goal.returns-in-GlobalPin
returns-in-GlobalPin g c B R s = s.global ∙ sym (ap (λ (r : RefId). has B.memory r) c.in-GlobalPin.is)
