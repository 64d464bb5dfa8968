-- The steps of the tries and of the memory, as the laws name them.
use Rattle.piv_rules.proofs.Steps.{tries-step}
use Rattle.piv_rules.proofs.Memories.{mem-step}

pub ruleset step_laws = (tries-step, mem-step)
