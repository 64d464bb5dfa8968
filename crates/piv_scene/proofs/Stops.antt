-- Where a reader stops.
use Rattle.std.proofs.Common.{◌≡◌, Result, Err, sym, ap, ◌∙◌}
use Rattle.piv_model.specs.declared.places.Where.{Where}
use Rattle.scene_table.specs.declared.fault.SceneFault.{SceneFault}
use Rattle.scene_table.specs.declared.fault.SceneFault.TheVariants.{Bad, TooLarge, NoMemory}
use Rattle.scene_table.specs.Answers.{GivesPlace, IsPlaceUnlessMemory}

pub stopped : {X Y : Type 0} (view : X → Y) (e : SceneFault) (w : Where) (total : Result Y Where) → IsPlaceUnlessMemory e w → total ≡ Err w → GivesPlace view (Err e) total
stopped view (Bad v) w total is here = here ∙ ap Err (sym is)
stopped view (TooLarge l) w total is here = absurd is
stopped view NoMemory w total is here = tt
