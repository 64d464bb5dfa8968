use Rattle.std.proofs.Common.{◌≡◌, ◌≤◌, ◌*◌, take, length}
use Rattle.piv_scene.specs.SceneLimits.{all_lines}
use Rattle.scene_cells.specs.Turns.{scene_turns}
use Rattle.scene_cells.proofs.turns.scene_turns.Given as goal

abbrev pub invariant-loop-k : goal.invariant-loop-k
invariant-loop-k l = record {
  turns : l.turns ≡ scene_turns (take l.k l.scene.scripts);
  few : l.turns ≤ 65 * length (all_lines (take l.k l.scene.scripts));
}
