-- The values of the two elements are given by the bytes.
use Rattle.piv_objects.proofs.Begins.{on_err}
use Rattle.piv_objects.proofs.Fields.{no_object, bad_object}
use Rattle.piv_objects.proofs.put.object_fields.Goals as goal

pub returns-in_err-tag-clause-err : goal.returns-in_err-tag-clause-err
returns-in_err-tag-clause-err c = on_err c.from_residual.result (no_object c.args.body.now c.in_err-tag.ensures.err)

pub returns-else-is_other_tag-clause-err : goal.returns-else-is_other_tag-clause-err
returns-else-is_other_tag-clause-err c = bad_object c.args.body.now c.in_ok-tag.tag.now c.in_ok-tag.value.now c.is_other_tag.result c.in_ok-tag.ensures.ok c.if-is_other_tag.false c.is_other_tag.ensures
