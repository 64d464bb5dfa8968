use Rattle.history_examples.proofs.ExampleRows.{LossesArePlanned-row}
use Rattle.history_examples.proofs.plain.losses_on_the_plain_card.Goals as goal

pub returns-clause-planned : goal.returns-clause-planned
returns-clause-planned c = LossesArePlanned-row
