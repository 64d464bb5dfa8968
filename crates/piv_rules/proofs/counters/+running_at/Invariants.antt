use Rattle.std.proofs.Common.{length}
use Rattle.piv_rules.proofs.counters.+running_at.Given as goal

abbrev pub decreases-running_at : goal.decreases-running_at
decreases-running_at l = length l.entries.now
