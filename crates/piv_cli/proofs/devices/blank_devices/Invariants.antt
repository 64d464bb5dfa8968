use Rattle.std.specs.List.{All}
use Rattle.std.proofs.Common.{◌≡◌, length}
use Rattle.nvm_device.specs.contracts.memory.MemNvmNvm.TheImpl.{ghosts}
use Rattle.block_store.specs.Devices.{IsReady}
use Rattle.piv_cli.proofs.devices.blank_devices.Given as goal

abbrev pub invariant-devices : goal.invariant-devices
invariant-devices l = record {
  count : length l.devices.items ≡ l.counter;
  each : All (λ device. IsReady (ghosts.state device)) l.devices.items;
}
