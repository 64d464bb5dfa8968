use Rattle.std.specs.Prelude.{sum_by}
use Rattle.std.proofs.Common.{◌≡◌, ◌≤◌, ◌*◌, take}
use Rattle.client_api.specs.Players.{line_turns}
use Rattle.scene_cells.proofs.turns.script_turns.Given as goal

abbrev pub invariant-loop-k : goal.invariant-loop-k
invariant-loop-k l = record {
  turns : l.turns ≡ sum_by line_turns (take l.k l.script.lines);
  few : l.turns ≤ 65 * l.k;
}
