-- Neither order.
use Rattle.piv_objects.proofs.Begins.{on_err}
use Rattle.piv_objects.proofs.Pins.{no_parts}
use Rattle.piv_objects.proofs.login_fields.read_parts.Goals as goal

pub returns-in_err-reference-in-Err-clause-err : goal.returns-in_err-reference-in-Err-clause-err
returns-in_err-reference-in-Err-clause-err c = on_err c.from_residual.result (no_parts c.args.bytes.now c.in-Err.ensures.err c.in_err-reference-in-Err.ensures.err)
