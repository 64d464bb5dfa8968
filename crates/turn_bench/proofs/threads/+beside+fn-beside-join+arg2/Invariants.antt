use Rattle.std.proofs.Common.{◌+◌, ◌*◌}
use Rattle.turn_bench.proofs.threads.+beside+fn-beside-join+arg2.Given as goal

abbrev pub decreases-beside : goal.decreases-beside
decreases-beside g l = 2 * l.threads

abbrev pub decreases-join+arg2 : goal.decreases-join+arg2
decreases-join+arg2 g l = 2 * l.left + 1
