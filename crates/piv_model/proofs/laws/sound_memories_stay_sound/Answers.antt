use Rattle.piv_model.proofs.Soundness.{sound_spent, sound_filled, sound_renewed, sound_unblocked, sound_put, sound_valid}
use Rattle.piv_model.proofs.laws.sound_memories_stay_sound.Goals as goal

pub returns-clause-spent : goal.returns-clause-spent
returns-clause-spent c = sound_spent

pub returns-clause-filled : goal.returns-clause-filled
returns-clause-filled c = sound_filled

pub returns-clause-renewed : goal.returns-clause-renewed
returns-clause-renewed c = sound_renewed

pub returns-clause-unblocked : goal.returns-clause-unblocked
returns-clause-unblocked c = sound_unblocked

pub returns-clause-put : goal.returns-clause-put
returns-clause-put c = sound_put

pub returns-clause-valid : goal.returns-clause-valid
returns-clause-valid c = sound_valid
