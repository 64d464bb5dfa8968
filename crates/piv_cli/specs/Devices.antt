-- The devices of the program.
use Rattle.std.specs.Prelude.{◌≤◌, List, [], ◌∷◌, length}
use Rattle.std.specs.List.{All}
use Rattle.nvm_device.specs.Device.{DeviceState, blank}
use Rattle.block_store.specs.Devices.{IsReady}

-- eight devices at least, each on and with room for a card
pub record AreReady {N : Type 0} (state : N → DeviceState) (devices : List N) : Type 0 where
  pub eight : 8 ≤ length devices
  pub each : All (λ device. IsReady (state device)) devices

-- device 0
abbrev pub first_of : {N : Type 0} → (N → DeviceState) → List N → DeviceState
first_of state [] = blank 0
first_of state (device ∷ devices) = state device
