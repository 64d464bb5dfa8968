-- What a state of the code stands for (this project's own).
use Rattle.std.specs.Prelude.{ℕ, ◌*◌, ◌<◌, ◌≤◌, false, List, [], length, vec_capacity, slice_get, Option, Some, None, ◌≡◌}
use Rattle.piv_rules.specs.Acts as acts
use Rattle.piv_rules.specs.Acts.{CardAct}
use Rattle.piv_objects.specs.Authenticators.{Credential}
use Rattle.client_api.specs.declared.state.Switch.{Switch as Switched}
use Rattle.client_api.specs.declared.state.Switch.TheVariants as switched
use Rattle.client_api.specs.declared.state.State.{State}
use Rattle.client_api.specs.declared.state.State.TheVariants as state
use Rattle.client_api.specs.Calls.{Call, Connect, Disconnect, Select, LogIn, LogOut, Get, Put, Crypt, Admin, Transmit, Switch}
use Rattle.client_api.specs.Machine.{Going, At, Ended, Over}

-- admin has the data of its first reply, or none yet
abbrev pub admin_at : Call → Option (List ℕ) → Going
admin_at call None = At call 0 [] false
admin_at call (Some body) = At call 1 body false

abbrev pub switch_of : Switched → CardAct
switch_of (switched.Reset interface) = acts.ResetSide interface
switch_of switched.Cut = acts.CutPower
switch_of switched.Power = acts.PowerOn

abbrev pub going_of : State → Going
going_of (state.Connect card interface shared) = At (Connect card interface shared) 0 [] false
going_of (state.Disconnect h) = At (Disconnect h) 0 [] false
going_of (state.Select h aid) = At (Select h aid.items) 0 [] false
going_of (state.LogIn h pins k) = At (LogIn h pins.items) k [] false
going_of (state.LogOut h k idle) = At (LogOut h) k [] idle
going_of (state.Get h object k body) = At (Get h object) k body.items false
going_of (state.Put h element k) = At (Put h element.items) k [] false
going_of (state.Crypt h algorithm key input) = At (Crypt h algorithm key input.items) 0 [] false
going_of (state.Admin h algorithm key first) = admin_at (Admin h algorithm key) first
going_of (state.Transmit h bytes) = At (Transmit h bytes.items) 0 [] false
going_of (state.Switch card switch) = At (Switch card (switch_of switch)) 0 [] false
going_of (state.Ended a h) = Ended a h
going_of state.Over = Over

-- 16,640 bytes are room for the data of 65 replies, and 65 pieces are at most 16,575
abbrev pub IsSound : State → Type 0
IsSound (state.LogIn h pins k) =
    (k < length pins.items) × ((j : ℕ) (c : Credential) → slice_get pins.items j ≡ Some c → length c.pin ≤ 255)
IsSound (state.LogOut h k idle) = k ≤ 2
IsSound (state.Get h object k body) = (k ≤ 64) × (length body.items ≤ 256 * k) × (16640 ≤ vec_capacity body)
IsSound (state.Put h element k) = (255 * k < length element.items) × (length element.items ≤ 16574)
IsSound (state.Transmit h bytes) = length bytes.items ≤ 512
IsSound _ = Unit {0}
