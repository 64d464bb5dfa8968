-- The bytes begin with one element, and another begins with the same.
use Rattle.piv_objects.proofs.Begins.{on_err, none_only, more_than_one, some_left}
use Rattle.piv_objects.proofs.elements.only.Goals as goal

pub returns-in_err-value-clause-err : goal.returns-in_err-value-clause-err
returns-in_err-value-clause-err c = on_err c.from_residual.result (none_only c.args.bytes.now c.args.tag c.in_err-value.ensures.err)

pub returns-else-is_empty-clause-err : goal.returns-else-is_empty-clause-err
returns-else-is_empty-clause-err c = more_than_one c.args.bytes.now c.args.tag c.in_ok-value.value.now c.in_ok-value.rest.now c.in_ok-value.ensures.ok (some_left c.in_ok-value.rest.now c.is_empty.result c.if-is_empty.false c.is_empty.ensures)
