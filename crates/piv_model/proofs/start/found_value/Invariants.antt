use Rattle.std.proofs.Common.{◌≡◌, map, drop}
use Rattle.piv_model.specs.Starts.{value_at}
use Rattle.piv_model.proofs.start.found_value.Given as goal

-- no object before this one has the place
abbrev pub invariant-loop-object : goal.invariant-loop-object
invariant-loop-object l =
    value_at (map (λ o. (o.id, o.value.items)) (drop l.object-index l.objects)) l.place
    ≡ value_at (map (λ o. (o.id, o.value.items)) l.objects) l.place
