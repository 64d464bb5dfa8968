-- The records of a card's calls other than an exchange.
use Rattle.piv_model.specs.declared.kinds.Interface.{Interface}
use Rattle.piv_model.specs.declared.kinds.Took.{Took}
use Rattle.std.specs.Prelude.{ℕ, None}
use Rattle.piv_model.specs.Entries.{Closed, Reset, Cut, Up}
use Rattle.piv_rules.specs.Acts.{CardRecord, Disconnect, Disconnected, ResetSide, WasReset, CutPower, WasCut, PowerOn, IsUp}

abbrev pub closed_as : ℕ → CardRecord
closed_as c = record { act = Disconnect c; entry = Closed c; answer = Disconnected }

abbrev pub reset_as : Interface → CardRecord
reset_as i = record { act = ResetSide i; entry = Reset i; answer = WasReset }

-- no command was in flight
abbrev pub cut_as : CardRecord
cut_as = record { act = CutPower; entry = Cut None; answer = WasCut }

abbrev pub up_as : Took → CardRecord
up_as took = record { act = PowerOn; entry = Up took; answer = IsUp took }
