use Rattle.std.proofs.Common.{◌≤◌, ℕ}
use Rattle.cell_tests.proofs.calls.connect.Goals as goal

pub returns : goal.returns
returns c cards one = c.connect.ensures.on cards (c.in_ok-readers.ensures cards one)
