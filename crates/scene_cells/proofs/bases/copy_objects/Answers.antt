use Rattle.std.proofs.Common.{ℕ, ◌<◌, ◌∙◌, List, [], ◌∷◌, ◌++◌, length, sym, ap, subst}
use Rattle.scene_cells.proofs.Places.{taken-more}
use Rattle.scene_cells.proofs.bases.copy_objects.Goals as goal

pub loop-k-preserved : goal.loop-k-preserved
loop-k-preserved c =
    let within : c.loop-k.k < length c.args.objects.now = subst (λ n. c.loop-k.k < n) c.len-k-end.ensures c.loop-k-test.true in
    c.in_ok-push.ensures.ok
    ∙ ap (λ (l : List (ℕ × List ℕ)). l ++ (c.value-object.result.0, c.value-object.result.1.now) ∷ []) c.loop-k.invariant
    ∙ sym (taken-more c.args.objects.now c.loop-k.k (c.value-object.result.0, c.value-object.result.1.now) within c.value-object.ensures)
