use Rattle.std.proofs.Common.{◌≡◌, ◌+◌, take, map}
use Rattle.scene_cards.specs.Views.{object_view}
use Rattle.scene_cards.specs.CardLimits.{object_blocks}
use Rattle.scene_cards.proofs.limit.is_over.Given as goal

abbrev pub invariant-loop-object : goal.invariant-loop-object
invariant-loop-object l = l.left + object_blocks (map object_view (take l.object-index l.objects)) ≡ l.budget
