-- A name is text.
use Rattle.piv_objects.proofs.Names.{name_utf8}
use Rattle.piv_objects.proofs.connections.name_of.Goals as goal

pub returns-in-Err-clause-err : goal.returns-in-Err-clause-err
returns-in-Err-clause-err c = λ h. c.in-Err.ensures.cases.0 (name_utf8 c.args.bytes.now h)
