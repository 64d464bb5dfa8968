use Rattle.std.specs.Prelude.{All, vec_len, vec_capacity}
use Rattle.std.proofs.Common.{◌≡◌, ◌≤◌, ◌+◌, List, ◌++◌, map, length}
use Rattle.block_store.specs.Blocks.{block_form}
use Rattle.card_cell.specs.Cells.{history_of}
use Rattle.card_cell.specs.Holds.{IsHeld}
use Rattle.scene_cells.specs.Cells.{device_in}
use Rattle.scene_cells.specs.Lowered.{AreLeft}
use Rattle.scene_cells.proofs.handing.hand_back.Given as goal

-- the cells behind those that are left were taken down
abbrev pub invariant-loop-cell : goal.invariant-loop-cell
invariant-loop-cell g l = record {
  down : List _;
  split : l.cells.items ++ down ≡ l.initial.cells.items;
  devices : l.devices.items ≡ map (λ cell. device_in cell) down ++ l.initial.devices.items;
  histories : map (λ h. h.past) l.histories.items ≡ map (λ cell. history_of cell) down ++ map (λ h. h.past) l.initial.histories.items;
  sizes : All (λ cell. 1114112 ≤ (g.N.Nvm.state (device_in cell)).size) down;
  left : AreLeft (λ cell base R. IsHeld block_form.put_cost cell base R) (λ cell. g.N.Nvm.state (device_in cell)) down;
  place : length l.cells.items + vec_len l.devices ≤ vec_capacity l.devices;
  room : length l.cells.items + vec_len l.histories ≤ vec_capacity l.histories;
}

abbrev pub decreases-loop-cell : goal.decreases-loop-cell
decreases-loop-cell g l = length l.cells.items
