-- The value of the one element is given by the bytes.
use Rattle.piv_objects.proofs.Begins.{on_err}
use Rattle.piv_objects.proofs.Fields.{no_tag_list}
use Rattle.piv_objects.proofs.objects.tag_list.Goals as goal

pub returns-in_err-tag-clause-err : goal.returns-in_err-tag-clause-err
returns-in_err-tag-clause-err c = on_err c.from_residual.result (no_tag_list c.args.body.now c.in_err-tag.ensures.err)
