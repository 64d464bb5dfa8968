use Rattle.std.proofs.Common.{length}
use Rattle.piv_rules.proofs.lookback.+pending_on.Given as goal

abbrev pub decreases-pending_on : goal.decreases-pending_on
decreases-pending_on g l = length l.entries.now
