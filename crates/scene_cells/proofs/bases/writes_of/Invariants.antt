use Rattle.std.proofs.Common.{◌≡◌, take}
use Rattle.power_loss.specs.Plans.{write_numbers}
use Rattle.scene_cells.proofs.bases.writes_of.Given as goal

abbrev pub invariant-loop-loss : goal.invariant-loop-loss
invariant-loop-loss l = l.plan ≡ write_numbers (take l.loss-index l.losses)
