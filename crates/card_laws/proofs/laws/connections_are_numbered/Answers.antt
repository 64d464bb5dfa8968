use Rattle.card_laws.proofs.Numbers.{unused-above}
use Rattle.card_laws.proofs.laws.connections_are_numbered.Goals as goal

pub returns-clause-unused : goal.returns-clause-unused
returns-clause-unused c = unused-above
