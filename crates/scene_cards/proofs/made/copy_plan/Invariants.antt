use Rattle.std.proofs.Common.{◌≡◌, take}
use Rattle.scene_cards.proofs.made.copy_plan.Given as goal

abbrev pub invariant-loop-loss : goal.invariant-loop-loss
invariant-loop-loss l = l.plan.items ≡ take l.loss-index l.losses
