use Rattle.aes_block.proofs.Inverse.{one_source, only_source}
use Rattle.aes_block.proofs.laws.enciphering_undoes_deciphering.Goals as goal

pub returns-clause-one : goal.returns-clause-one
returns-clause-one c = one_source

pub returns-clause-only : goal.returns-clause-only
returns-clause-only c = only_source
