use Rattle.std.proofs.Common.{arith}
use Rattle.std.proofs.lemmas.Bool.Decides.{nat_tests}
use Rattle.piv_rules.specs.Asks.{ask}
use Rattle.card_commands.proofs.execution.asked_by.Goals as goal

pub returns-in_default-clause-asks : goal.returns-in_default-clause-asks
unfolding ask
returns-in_default-clause-asks c = grind (arith, nat_tests)
