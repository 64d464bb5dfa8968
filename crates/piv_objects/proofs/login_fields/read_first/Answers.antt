-- The element is given by the bytes.
use Rattle.piv_objects.proofs.Begins.{on_err}
use Rattle.piv_objects.proofs.Pins.{no_first, bad_first}
use Rattle.piv_objects.proofs.login_fields.read_first.Goals as goal

pub returns-in_err-inside-clause-err : goal.returns-in_err-inside-clause-err
returns-in_err-inside-clause-err c = on_err c.from_residual.result (no_first c.args.bytes.now c.in_err-inside.ensures.err)

pub returns-in_err-read_authenticator-clause-err : goal.returns-in_err-read_authenticator-clause-err
returns-in_err-read_authenticator-clause-err c = on_err c.from_residual-in_err-read_authenticator.result (bad_first _ _ _ c.in_ok-inside.ensures.ok c.in_err-read_authenticator.ensures.err)
