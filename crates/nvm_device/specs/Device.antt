-- What a device means to those that stand on it, and what its calls do. The rules are this project's
-- own: a write that is lost leaves any bytes in its range and all others as they were, and no
-- checksum tells them apart.
use Rattle.std.specs.Prelude.{◌≡◌, ℕ, true, List, [], length, Some}
use Rattle.std.specs.declared.option.Option.{Option}
use Rattle.std.specs.Option.{option_map}
use Rattle.nvm_device.specs.Bytes.{overwrite, zeros}
use Rattle.power_loss.specs.Power.{Power, power_after, LostIn}

pub record DeviceState : Type 0 where
  pub size : ℕ
  -- the row, where the device tells it
  pub bytes : Option (List ℕ)
  pub power : Power

-- zero bytes, on, and no loss before or after
abbrev pub blank : ℕ → DeviceState
blank size = record {
  size = size;
  bytes = Some (zeros size);
  power = record { on = true; losses = 0; span = 0; due = Some [] };
}

-- these bytes stand from a place on, and n writes were made
abbrev pub written : ℕ → ℕ → List ℕ → DeviceState → DeviceState
written n place bytes s = record s {
  bytes = option_map (λ row. overwrite row place bytes) s.bytes;
  power = power_after n s.power;
}

-- any n bytes stand from a place on, and all others are as before
pub record TornRow (place n : ℕ) (old new : DeviceState) : Type 0 where
  pub torn : List ℕ
  pub same_size : length torn ≡ n
  pub size : new.size ≡ old.size
  pub bytes : new.bytes ≡ option_map (λ row. overwrite row place torn) old.bytes

-- a write of n bytes that was lost
abbrev pub Torn : ℕ → ℕ → DeviceState → DeviceState → Type 0
Torn place n old new = LostIn 1 (TornRow place n old new) old.power new.power
