-- A record of a card (this project's own).
use Rattle.std.specs.Prelude.{None}
use Rattle.piv_model.specs.Entries.{Cut}
use Rattle.piv_rules.specs.Acts.{CardRecord, CutPower, WasCut}

-- the power was cut between two commands
abbrev pub a_cut : CardRecord
a_cut = record { act = CutPower; entry = Cut None; answer = WasCut }
