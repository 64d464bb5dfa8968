use Rattle.std.proofs.Common.{length}
use Rattle.piv_rules.proofs.lookback.+is_in_force.Given as goal

abbrev pub decreases-is_in_force : goal.decreases-is_in_force
decreases-is_in_force g l = length l.entries.now
