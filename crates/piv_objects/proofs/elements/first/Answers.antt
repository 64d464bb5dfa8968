-- Where the cursor finds a fault no element begins, and where it finds one no other begins.
use Rattle.ber_tlv.specs.Elements.{element}
use Rattle.piv_objects.proofs.elements.first.Goals as goal

pub returns-in-Err-clause-err : goal.returns-in-Err-clause-err
returns-in-Err-clause-err c = λ value rest. (rw c.new-cursor.ensures at c.in-Err.ensures.err) (element c.args.tag value) rest
