use Rattle.std.specs.Prelude.{vec_len, vec_capacity}
use Rattle.std.proofs.Common.{◌≡◌, ◌≤◌, [], drop, length}
use Rattle.scene_cells.specs.Cells.{device_in}
use Rattle.scene_cells.proofs.Placing.{AreSoFar}
use Rattle.scene_cells.proofs.raising.raise.Given as goal

abbrev pub invariant-loop-card : goal.invariant-loop-card
invariant-loop-card g l = record {
  cells : length l.cells.items ≡ l.card;
  counts : length l.losses.items ≡ l.card;
  raised : AreSoFar g.N.Nvm.state (λ cell. device_in cell) l.turns l.scene.cards l.initial.devices.items l.losses.items l.cells.items;
  rest : l.devices.items ≡ drop l.card l.initial.devices.items;
  place : vec_len l.initial.devices ≤ vec_capacity l.devices;
  empty : l.histories.items ≡ [];
  cell_room : l.cards ≤ vec_capacity l.cells;
  count_room : l.cards ≤ vec_capacity l.losses;
  room : l.cards ≤ vec_capacity l.histories;
}
