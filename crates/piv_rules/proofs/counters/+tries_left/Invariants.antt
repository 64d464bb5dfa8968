use Rattle.std.proofs.Common.{length}
use Rattle.piv_rules.proofs.counters.+tries_left.Given as goal

abbrev pub decreases-tries_left : goal.decreases-tries_left
decreases-tries_left g l = length l.entries.now
