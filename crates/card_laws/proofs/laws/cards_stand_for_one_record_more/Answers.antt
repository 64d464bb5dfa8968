use Rattle.card_laws.proofs.StandsLaws.{stands-opened, stands-closed, stands-noted, stands-reset, stands-cut, turned-exchange, stands-exchanged, stands-lost, stands-up}
use Rattle.card_laws.proofs.laws.cards_stand_for_one_record_more.Goals as goal

pub returns-clause-opened : goal.returns-clause-opened
returns-clause-opened c = stands-opened

pub returns-clause-closed : goal.returns-clause-closed
returns-clause-closed c = stands-closed

pub returns-clause-noted : goal.returns-clause-noted
returns-clause-noted c = stands-noted

pub returns-clause-reset : goal.returns-clause-reset
returns-clause-reset c = stands-reset

pub returns-clause-cut : goal.returns-clause-cut
returns-clause-cut c = stands-cut

pub returns-clause-turned : goal.returns-clause-turned
returns-clause-turned c = turned-exchange

pub returns-clause-exchanged : goal.returns-clause-exchanged
returns-clause-exchanged c = stands-exchanged

pub returns-clause-lost : goal.returns-clause-lost
returns-clause-lost c = stands-lost

pub returns-clause-up : goal.returns-clause-up
returns-clause-up c = stands-up
