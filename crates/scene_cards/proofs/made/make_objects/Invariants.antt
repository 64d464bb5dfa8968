use Rattle.std.proofs.Common.{◌≡◌, take, map}
use Rattle.scene_cards.specs.Views.{object_view}
use Rattle.scene_cards.specs.CardValues.{object_pair}
use Rattle.scene_cards.proofs.made.make_objects.Given as goal

abbrev pub invariant-loop-object : goal.invariant-loop-object
invariant-loop-object l = l.made ≡ map object_pair (map object_view (take l.object-index l.objects))
