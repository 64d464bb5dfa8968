use Rattle.ber_tlv.proofs.Laws.{reads_elements, has_one_reading, spells_elements}
use Rattle.ber_tlv.proofs.one_reading.elements_have_one_reading.Goals as goal

pub returns-clause-reads : goal.returns-clause-reads
returns-clause-reads c = reads_elements

pub returns-clause-one : goal.returns-clause-one
returns-clause-one c = has_one_reading

pub returns-clause-spelled : goal.returns-clause-spelled
returns-clause-spelled c = spells_elements
