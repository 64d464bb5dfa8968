use Rattle.std.proofs.Common.{◌≡◌, ◌+◌, ◌*◌, List, true}
use Rattle.nvm_device.specs.Device.{DeviceState}
use Rattle.nvm_slots.specs.Laying.{Piece, Laying}
use Rattle.card_image.specs.Laying.{objects_area}
use Rattle.block_store.specs.Runs.{run, run_pieces}
use Rattle.block_store.proofs.laying.lay_values.Given as goal

abbrev pub invariant-loop-place : goal.invariant-loop-place
invariant-loop-place g l = record {
  first : l.first ≡ run l.objects l.place;
  laid : (pieces : List Piece) (s : DeviceState) → Laying objects_area pieces 8768 s (g.N.Nvm.state l.fn.nvm) → Laying objects_area (run_pieces l.objects pieces l.place) (8768 + 64 * l.first) s (g.N.Nvm.state l.nvm);
  on : (g.N.Nvm.state l.nvm).power.on ≡ true;
  size : (g.N.Nvm.state l.nvm).size ≡ (g.N.Nvm.state l.fn.nvm).size;
}
