use Rattle.std.proofs.Common.{◌+◌, ◌*◌}
use Rattle.turnstile.proofs.tests.+by_many+fn-by_many-join+arg2.Given as goal

abbrev pub decreases-by_many : goal.decreases-by_many
decreases-by_many g l = 2 * l.threads

abbrev pub decreases-join+arg2 : goal.decreases-join+arg2
decreases-join+arg2 g l = 2 * l.left + 1
