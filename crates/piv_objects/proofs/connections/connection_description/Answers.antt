-- Neither element, or no name in it.
use Rattle.std.proofs.lemmas.Result.{on_err_weaker}
use Rattle.piv_objects.proofs.Begins.{on_err}
use Rattle.piv_objects.proofs.Names.{no_outer, no_reader, bad_name, if_name_stands}
use Rattle.piv_objects.proofs.connections.connection_description.Goals as goal

pub returns-in_err-inside-clause-err : goal.returns-in_err-inside-clause-err
returns-in_err-inside-clause-err c = on_err c.from_residual.result (no_outer c.args.bytes.now c.in_err-inside.ensures.err)

pub returns-in_err-name-clause-err : goal.returns-in_err-name-clause-err
returns-in_err-name-clause-err c = on_err c.from_residual-in_err-name.result (no_reader c.args.bytes.now c.in_ok-inside.inside.now c.in_ok-inside.ensures.ok c.in_err-name.ensures.err)

pub returns-clause-err : goal.returns-clause-err
returns-clause-err c = on_err_weaker c.name_of.result (bad_name c.args.bytes.now c.in_ok-inside.inside.now c.in_ok-name.name.now c.in_ok-inside.ensures.ok c.in_ok-name.ensures.ok) c.name_of.ensures.err

pub returns-clause-lent : goal.returns-clause-lent
returns-clause-lent c = if_name_stands c.args.bytes.now c.in_ok-inside.inside.now c.in_ok-name.name.now c.name_of.result c.in_ok-inside.ensures.ok c.in_ok-name.ensures.ok c.name_of.ensures.ok
