use Rattle.std.proofs.Common.{◌∙◌, sym, ap, List, ℕ, ◌++◌, ◌∷◌, []}
use Rattle.scene_cards.specs.Views.{object_view}
use Rattle.scene_cards.specs.CardValues.{object_pair}
use Rattle.scene_cards.proofs.MadeSteps.{more-objects}
use Rattle.scene_cards.proofs.made.make_objects.Goals as goal

pub loop-object-preserved : goal.loop-object-preserved
loop-object-preserved c = c.in_ok-push_object.ensures
    ∙ ap (λ (l : List (ℕ × List ℕ)). l ++ object_pair (object_view c.object-item.result) ∷ []) c.loop-object.invariant
    ∙ sym (more-objects c.args.objects.now c.loop-object.object-index c.object-item.result c.loop-object-test.true c.object-item.is)
