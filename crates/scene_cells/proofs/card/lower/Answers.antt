use Rattle.std.proofs.Common.{sym, ap, subst, ◌∙◌}
use Rattle.nvm_device.specs.Fused.{inner_of}
use Rattle.nvm_device.specs.UnderPlan.{under_plan}
use Rattle.card_image.specs.Device.{device_of}
use Rattle.scene_cells.specs.Lowered.{IsLeft}
use Rattle.scene_cells.proofs.Lowering.{lowered-cell}
use Rattle.scene_cells.proofs.card.lower.Goals as goal

pub returns-clause-left : goal.returns-clause-left
returns-clause-left g c base R held =
    let fused = c.into_inner.result in
    subst (λ x. IsLeft base R (g.N.Nvm.state x))
    (c.into_inner-2.ensures.inner ∙ ap (λ f. inner_of f) (c.into_inner.ensures.device ∙ ap (λ s. device_of s) c.into_parts-store.ensures.store))
    (lowered-cell c.args.cell c.into_parts-store.result.0 base R _ (g.N.Nvm.state c.into_inner-2.result) fused.plan fused.spoiled
    (ap (λ x. under_plan fused.plan (record { state = g.N.Nvm.state x; spoiled = fused.spoiled })) (sym c.into_inner-2.ensures.inner))
    c.into_inner.ensures.stands c.into_parts-store.ensures.store c.into_parts-store.ensures.left c.into_inner-2.ensures.told held)
