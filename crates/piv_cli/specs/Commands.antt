-- What each command has done when the program ends (this project's own).
use Rattle.std.specs.Prelude.{◌≡◌, ℕ, List, Option, Some, None}
use Rattle.piv_model.specs.PlainCard.{plain_memory}
use Rattle.nvm_device.specs.Device.{DeviceState}
use Rattle.block_store.specs.Devices.{IsFaulted}
use Rattle.piv_scene.specs.GeneratedScene.{generated_scene}
use Rattle.piv_scene.specs.SceneValues.{SceneValue}
use Rattle.scene_cells.specs.Raised.{HasFault}
use Rattle.piv_cli.specs.declared.program.TheConstants.{HELP, VERSION}
use Rattle.piv_cli.specs.declared.words.Request.{Request}
use Rattle.piv_cli.specs.declared.words.Request.TheVariants.{Apdu, Bench, Run, Make, Help, Version}
use Rattle.piv_cli.specs.Devices.{first_of}
use Rattle.piv_cli.specs.Outputs.{Answered}
use Rattle.piv_cli.specs.Scenes.{IsSummary, RanBySchedule, RanInThreads, SaysScene, SceneAnswered}

-- this is the output of a command, which has read its input to the end and left the devices so
abbrev pub IsOutput : {N : Type 0} → Option Request → Option (List ℕ) → Option (List ℕ) → (N → DeviceState)
    → List N → List N → List ℕ → Type 0
IsOutput (Some Apdu) left left_now state old new out =
    Answered left left_now (first_of state old) (first_of state new) out
IsOutput (Some Bench) left left_now state old new out = SceneAnswered (RanBySchedule state old new) left left_now out
IsOutput (Some Run) left left_now state old new out = SceneAnswered (RanInThreads state old new) left left_now out
IsOutput (Some (Make n number)) left left_now state old new out = IsSummary state n number old new out
IsOutput (Some Help) left left_now state old new out = out ≡ HELP.now
IsOutput (Some Version) left left_now state old new out = out ≡ VERSION.now
IsOutput None left left_now state old new out = ⊥

-- a device lost power while it was personalised: device 0 with the plain card, or that of a scene's card
abbrev pub LostDevice : {N : Type 0} → Option Request → Option (List ℕ) → (N → DeviceState) → List N → List N → Type 0
LostDevice (Some Apdu) left state old new = IsFaulted plain_memory (first_of state old) (first_of state new)
LostDevice (Some Bench) left state old new =
    (scene : SceneValue) × SaysScene left scene × HasFault state scene.cards old new
LostDevice (Some Run) left state old new =
    (scene : SceneValue) × SaysScene left scene × HasFault state scene.cards old new
LostDevice (Some (Make n number)) left state old new = HasFault state (generated_scene n number).cards old new
LostDevice _ left state old new = ⊥
