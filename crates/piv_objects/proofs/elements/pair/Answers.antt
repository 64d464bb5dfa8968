-- The first element is given by the bytes, and the second by what follows it.
use Rattle.piv_objects.proofs.Begins.{on_err, none_pair, no_second}
use Rattle.piv_objects.proofs.elements.pair.Goals as goal

pub returns-in_err-value-clause-err : goal.returns-in_err-value-clause-err
returns-in_err-value-clause-err c = on_err c.from_residual.result (none_pair c.args.bytes.now c.args.one c.args.other c.in_err-value.ensures.err)

pub returns-in_err-following-clause-err : goal.returns-in_err-following-clause-err
returns-in_err-following-clause-err c = on_err c.from_residual-in_err-following.result (no_second c.args.bytes.now c.args.one c.args.other c.in_ok-value.value.now c.in_ok-value.rest.now c.in_ok-value.ensures.ok c.in_err-following.ensures.err)
