use Rattle.std.specs.Prelude.{map}
use Rattle.cell_port.specs.Owned.{tells_due}
use Rattle.scene_cells.specs.Raised.{cell_bases}
use Rattle.scene_cells.specs.Turns.{scene_turns}
use Rattle.piv_bench.proofs.scene_run.bench.Given as goal

abbrev pub ghosts-run_raised : goal.ghosts-run_raised
ghosts-run_raised g a = record {
  bases = cell_bases (scene_turns a.scene.now.scripts) a.scene.now.cards a.raised.losses.items;
  tells = map (λ cell. tells_due cell) a.raised.cells.items;
}
