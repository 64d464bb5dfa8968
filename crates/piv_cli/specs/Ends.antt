-- When the program ends so (this project's own).
use Rattle.std.specs.Prelude.{◌≡◌, ◌≤◌, ⊤, ℕ, ◌+◌, List, length, Result, Ok, Err, IsOk}
use Rattle.scene_table.specs.declared.fault.SceneFault.{SceneFault}
use Rattle.scene_table.specs.declared.fault.SceneFault.TheVariants as fault
use Rattle.piv_scene.specs.Outcomes.{outcome}
use Rattle.piv_scene.specs.SceneValues.{SceneValue}
use Rattle.piv_cli.specs.declared.words.Request.{Request}
use Rattle.piv_cli.specs.declared.words.Request.TheVariants.{Apdu, Bench, Run}
use Rattle.piv_cli.specs.declared.status.Status.{Status}
use Rattle.piv_cli.specs.declared.status.Status.TheVariants.{Done, Usage, BadScene, TooLarge, ReadFault, WriteFault, DeviceFault, NoMemory}
use Rattle.piv_cli.specs.Outputs.{most_input}

-- a command that runs a scene ends so only where the input's bytes have this outcome; a failed read and want of memory may come before
abbrev pub EndsBy : Status → Result SceneValue SceneFault → Type 0
EndsBy Done reading = IsOk reading
EndsBy WriteFault reading = IsOk reading
EndsBy DeviceFault reading = IsOk reading
EndsBy (BadScene at) reading = reading ≡ Err (fault.Bad at)
EndsBy (TooLarge what) reading = reading ≡ Err (fault.TooLarge what)
EndsBy Usage reading = ⊥
EndsBy ReadFault reading = ⊤
EndsBy NoMemory reading = ⊤

-- an input that a command can serve: not too large, and a scene where one is run
abbrev pub CanServe : Request → List ℕ → Type 0
CanServe Apdu input = length input ≤ most_input
CanServe Bench input = IsOk (outcome input)
CanServe Run input = IsOk (outcome input)
CanServe _ input = ⊤

-- the input was refused: it has too many bytes, is no scene or passes a limit
abbrev pub IsRefused : Status → Type 0
IsRefused (BadScene at) = ⊤
IsRefused (TooLarge what) = ⊤
IsRefused _ = ⊥

-- it ended before any device was used
abbrev pub IsStopped : Status → Type 0
IsStopped (BadScene at) = ⊤
IsStopped (TooLarge what) = ⊤
IsStopped ReadFault = ⊤
IsStopped NoMemory = ⊤
IsStopped _ = ⊥

-- a run that was begun ended so
abbrev pub IsRunEnd : Status → Type 0
IsRunEnd Done = ⊤
IsRunEnd WriteFault = ⊤
IsRunEnd DeviceFault = ⊤
IsRunEnd NoMemory = ⊤
IsRunEnd _ = ⊥

-- all was done, or want of memory or a fault of a device stopped it
abbrev pub IsEnded : Status → Type 0
IsEnded Done = ⊤
IsEnded NoMemory = ⊤
IsEnded DeviceFault = ⊤
IsEnded _ = ⊥

-- how many bytes of the input may have been taken: one more where there were too many
abbrev pub reach : Status → ℕ
reach Done = most_input
reach Usage = most_input
reach (BadScene at) = most_input
reach (TooLarge what) = most_input + 1
reach ReadFault = most_input
reach WriteFault = most_input
reach DeviceFault = most_input
reach NoMemory = most_input

-- the same of a reader, which gives a value or how the program ends
abbrev pub reach_to : {A : Type 0} → Result A Status → ℕ
reach_to (Ok x) = most_input
reach_to (Err status) = reach status
