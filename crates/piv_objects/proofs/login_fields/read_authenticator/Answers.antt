-- The PIN and the reference are given by the bytes.
use Rattle.piv_objects.proofs.Begins.{on_err}
use Rattle.piv_objects.proofs.Pins.{no_authenticator, bad_pin, bad_reference}
use Rattle.std.proofs.Common.{arith}
use Rattle.piv_objects.proofs.login_fields.read_authenticator.Goals as goal

pub returns-in_err-pin-clause-err : goal.returns-in_err-pin-clause-err
returns-in_err-pin-clause-err c = on_err c.from_residual.result (no_authenticator c.args.bytes.now c.in_err-pin.ensures.err)

pub returns-then-not-is_pin-clause-err : goal.returns-then-not-is_pin-clause-err
returns-then-not-is_pin-clause-err c = bad_pin c.args.bytes.now c.in_ok-pin.pin.now c.in_ok-pin.reference.now c.is_pin.result c.in_ok-pin.ensures.ok c.if-not-is_pin.true c.is_pin.ensures

pub returns-in-empty-clause-err : goal.returns-in-empty-clause-err
returns-in-empty-clause-err c = bad_reference c.args.bytes.now c.in_ok-pin.pin.now c.in_ok-pin.reference.now c.in_ok-pin.ensures.ok (λ e. omega arith)

pub returns-in-len2-up-clause-err : goal.returns-in-len2-up-clause-err
returns-in-len2-up-clause-err c = bad_reference c.args.bytes.now c.in_ok-pin.pin.now c.in_ok-pin.reference.now c.in_ok-pin.ensures.ok (λ e. omega arith)
