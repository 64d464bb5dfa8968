-- The one element, and the fields in it.
use Rattle.std.proofs.lemmas.Result.{on_err_weaker}
use Rattle.piv_objects.proofs.Begins.{on_err}
use Rattle.piv_objects.proofs.Template.{no_template, bad_template, if_fields_stand}
use Rattle.piv_objects.proofs.templates.auth_template.Goals as goal

pub returns-in_err-only-clause-err : goal.returns-in_err-only-clause-err
returns-in_err-only-clause-err c = on_err c.from_residual.result (no_template c.args.body.now c.in_err-only.ensures.err)

pub returns-clause-err : goal.returns-clause-err
returns-clause-err c = on_err_weaker c.read_fields.result (bad_template c.args.body.now c.in_ok-only.field-0.now c.in_ok-only.ensures.ok) c.read_fields.ensures.err

pub returns-clause-lent : goal.returns-clause-lent
returns-clause-lent c = if_fields_stand c.args.body.now c.in_ok-only.field-0.now c.read_fields.result c.in_ok-only.ensures.ok c.read_fields.ensures.ok
