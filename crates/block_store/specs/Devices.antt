-- Devices for cards: what is wanted of them, and what stands on one.
use Rattle.std.specs.Prelude.{◌≡◌, ℕ, ◌≤◌, true, false, List, length, drop, IfSome}
use Rattle.power_loss.specs.Told.{Rose}
use Rattle.nvm_device.specs.Device.{DeviceState}
use Rattle.piv_model.specs.Memory.{Memory}
use Rattle.card_image.specs.Images.{IsImage, memory_of}
use Rattle.card_image.specs.Looking.{IsBlank}
use Rattle.block_store.specs.Blocks.{block_form}

-- a device that is on and has room for a card
pub record IsReady (device : DeviceState) : Type 0 where
  pub on : device.power.on ≡ true
  pub size : 1114112 ≤ device.size

-- all devices but the first n are as before, each in its place
pub record OthersStand {N : Type 0} (n : ℕ) (old new : List N) : Type 0 where
  pub count : length new ≡ length old
  pub others : drop n new ≡ drop n old

-- the bytes of a device spell this memory in blocks
abbrev pub Spells : Memory → DeviceState → Type 0
Spells m device = IfSome device.bytes (λ row. IsImage block_form row × (memory_of block_form row ≡ m))

-- A device that lost power while it was personalised with this memory: it is off, and where it was blank it stands for
-- no other memory.
pub record IsFaulted (m : Memory) (old new : DeviceState) : Type 0 where
  pub rose : Rose old.power.losses new.power.losses
  pub off : new.power.on ≡ false
  pub size : new.size ≡ old.size
  pub no_other : IfSome old.bytes (λ before. IfSome new.bytes (λ row.
      IsBlank before → IsImage block_form row → memory_of block_form row ≡ m))
