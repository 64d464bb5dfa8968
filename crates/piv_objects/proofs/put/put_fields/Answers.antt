-- Neither form, or the parts of the one that it is.
use Rattle.std.proofs.lemmas.Result.{on_err_weaker}
use Rattle.piv_objects.proofs.Fields.{no_put, if_parts}
use Rattle.piv_objects.proofs.put.put_fields.Goals as goal

pub returns-in-Err-clause-err : goal.returns-in-Err-clause-err
returns-in-Err-clause-err c = on_err_weaker c.object_fields.result (no_put c.args.body.now c.in-Err.ensures.err) c.object_fields.ensures.err

pub returns-in-Err-clause-lent : goal.returns-in-Err-clause-lent
returns-in-Err-clause-lent c = if_parts c.args.body.now c.object_fields.result c.object_fields.ensures.ok
