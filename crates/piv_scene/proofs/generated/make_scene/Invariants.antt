use Rattle.std.proofs.Common.{◌≡◌, map}
use Rattle.std.specs.List.{range_with_len}
use Rattle.piv_scene.specs.GeneratedScene.{generated_script}
use Rattle.piv_scene.proofs.generated.make_scene.Given as goal

abbrev pub invariant-loop-k : goal.invariant-loop-k
invariant-loop-k l = l.scripts.items ≡ map (generated_script l.n l.number) (range_with_len 0 l.k)
