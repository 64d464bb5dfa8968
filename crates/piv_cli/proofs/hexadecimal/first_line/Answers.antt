use Rattle.std.proofs.Common.{sym, ◌∙◌}
use Rattle.std.proofs.lemmas.List.{take_rest}
use Rattle.piv_cli.proofs.TextLemmas.{one_line, first_line_ends}
use Rattle.piv_cli.proofs.hexadecimal.first_line.Goals as goal

pub returns-in-Some-clause-first : goal.returns-in-Some-clause-first
returns-in-Some-clause-first c = rw take_rest (first_line_ends c.args.rest.now c.in-Some.end (sym c.line_end.ensures.value ∙ c.in-Some.is)).1

pub returns-in-None-clause-one : goal.returns-in-None-clause-one
returns-in-None-clause-one c = one_line c.args.rest.now (sym c.line_end.ensures.value ∙ c.in-None.is)
