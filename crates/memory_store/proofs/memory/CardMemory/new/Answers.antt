use Rattle.piv_model.specs.declared.kinds.KeyId.TheVariants.{AdminKey, CardAuth}
use Rattle.memory_store.proofs.memory.CardMemory.new.Goals as goal

pub new-requires-3 : goal.new-requires-3
new-requires-3 c = c.requires.sound.keys AdminKey

pub new-requires-4 : goal.new-requires-4
new-requires-4 c = c.requires.sound.keys CardAuth
