use Rattle.std.proofs.Common.{◌-◌}
use Rattle.block_store.specs.Writes.{LinkedTo}
use Rattle.block_store.proofs.directory.link.Given as goal

abbrev pub invariant-loop-j : goal.invariant-loop-j
invariant-loop-j l = LinkedTo (l.j - 1) l.chosen l.initial.directory l.directory
