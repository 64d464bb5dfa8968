-- What each command writes, and what is so when the program ends.
use Rattle.std.specs.Prelude.{◌≡◌, ℕ, List, [], true, false, not, take, Option, Some, IfSome}
use Rattle.piv_ports.specs.Ports.{with_bytes}
use Rattle.power_loss.specs.Told.{Rose}
use Rattle.piv_model.specs.PlainCard.{plain_base}
use Rattle.nvm_device.specs.Device.{DeviceState}
use Rattle.piv_rules.specs.Acts.{Records}
use Rattle.block_store.specs.Devices.{Spells}
use Rattle.card_app.specs.Left.{Left}
use Rattle.piv_cli.specs.Lines.{AreLines, has_dash}

-- the most bytes of an input
abbrev pub most_input : ℕ
most_input = 8388608

-- what was written is what the input's lines write on the plain card, and the device holds what they left of its memory
pub record IsServed (input out : List ℕ) (device : DeviceState) : Type 0 where
  pub records : Records
  pub lines : AreLines plain_base input out records
  pub left : Left plain_base records (λ m. Spells m device)

-- The input was served on a device. Whatever the device tells, a dash stands only where its losses rose, and where they
-- are more than on entry one stands; the device is off afterwards exactly where one does. Where it told its bytes on
-- entry, what was written is right, and where it told that it won't lose power, it lost none.
pub record Serves (input out : List ℕ) (device device_now : DeviceState) : Type 0 where
  pub dash : has_dash out ≡ true → Rose device.power.losses device_now.power.losses
  pub no_dash : has_dash out ≡ false → device_now.power.losses ≡ device.power.losses
  pub power : device_now.power.on ≡ not (has_dash out)
  pub is_served : IfSome device.bytes (λ row. IsServed input out device_now)
  pub steady : IfSome device.bytes (λ row. device.power.due ≡ Some [] → has_dash out ≡ false)

-- `apdu` was answered with this output: the input was read to its end, and served on device 0
pub record Answered (left left_now : Option (List ℕ)) (device device_now : DeviceState) (out : List ℕ) : Type 0 where
  pub input : List ℕ
  pub read : IfSome left (λ bytes. bytes ≡ input)
  pub at_end : IfSome left (λ bytes. left_now ≡ Some [])
  pub serves : Serves input out device device_now

-- the sink has taken all of the output, or a prefix of it
abbrev pub Took : Option (List ℕ) → Option (List ℕ) → List ℕ → Type 0
Took taken taken_now out = taken_now ≡ with_bytes taken out

abbrev pub TookPart : Option (List ℕ) → Option (List ℕ) → List ℕ → Type 0
TookPart taken taken_now out = (n : ℕ) × (taken_now ≡ with_bytes taken (take n out))
