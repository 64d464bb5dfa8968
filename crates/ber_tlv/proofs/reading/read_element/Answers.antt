-- What the parts say of the element.
use Rattle.ber_tlv.proofs.Parts.{err_none, ok_faults, err_faults}
use Rattle.ber_tlv.proofs.Places.{begins}
use Rattle.ber_tlv.proofs.reading.read_element.Goals as goal

pub returns-in-Ok-clause-found : goal.returns-in-Ok-clause-found
returns-in-Ok-clause-found c = begins c.args.bytes.now c.in-Ok.tag c.in-Ok.value.now c.in-Ok.rest.now c.in-Ok.ensures

pub returns-in-Ok-clause-fault : goal.returns-in-Ok-clause-fault
returns-in-Ok-clause-fault c = ok_faults c.args.bytes.now _ _ c.in-Ok.ensures

pub returns-in-Err-clause-none : goal.returns-in-Err-clause-none
returns-in-Err-clause-none c = err_none c.args.bytes.now c.in-Err.kind c.in-Err.ensures

pub returns-in-Err-clause-fault : goal.returns-in-Err-clause-fault
returns-in-Err-clause-fault c = err_faults c.args.bytes.now c.in-Err.kind c.in-Err.ensures c.requires
