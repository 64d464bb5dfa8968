-- Worked examples of acts: which refusal comes first, and which epochs are told (this project's own).
use Rattle.std.specs.Prelude.{◌≡◌, true, false, [], ◌∷◌, Some, None}
use Rattle.piv_model.specs.declared.history.ActKind.TheVariants as kind
use Rattle.piv_model.specs.declared.history.Refusal.TheVariants as why
use Rattle.piv_model.specs.declared.kinds.Interface.TheVariants.{Contact, Contactless}
use Rattle.piv_model.specs.declared.kinds.Took.TheVariants.{Nothing}
use Rattle.piv_model.specs.Entries.{◌▸◌, Opened, Closed, Reset, Cut, Up, Note}
use Rattle.piv_model.specs.PlainCard.{plain_pin}
use Rattle.piv_rules.specs.Acts.{Connect, Disconnect, Exchange, ResetSide, CutPower, PowerOn, Connected, Mute, Stale, NoConnection, WasReset, WasCut, IsUp, CardRecord, Records}
use Rattle.piv_rules.specs.Legal.{IsAllowed}
use Rattle.piv_rules.specs.Turns.{refused, IsTurned, LosesPower}
use Rattle.history_examples.specs.Examples.{plain, start, open_record, selected_first, verify}
use Rattle.history_examples.specs.LimitExamples.{sixteen}

-- an exchange that its caller sends after a reset that it doesn't know of is stale; one of the other interface breaks nothing; a card
-- that is off is mute before that, and a connection that isn't open is none before both
abbrev pub ExchangeRefusals : Type 0
ExchangeRefusals =
    (refused (start ▸ Reset Contact) (Exchange 1 0 []) ≡ Some why.Stale)
    × (refused (start ▸ Reset Contact) (Exchange 1 1 []) ≡ None)
    × (refused (start ▸ Reset Contactless) (Exchange 1 0 []) ≡ None)
    × (refused (start ▸ Cut None) (Exchange 1 0 []) ≡ Some why.Mute)
    × (refused (start ▸ Cut None ▸ Up Nothing) (Exchange 1 0 []) ≡ Some why.Stale)
    × (refused (start ▸ Closed 1 ▸ Cut None) (Exchange 1 0 []) ≡ Some why.NoConnection)

-- a connection that is locked out is told so before that there is none left, and a card that is off before both
abbrev pub ConnectRefusals : Type 0
ConnectRefusals =
    (refused sixteen (Connect Contact false) ≡ Some why.Locked)
    × (refused (sixteen ▸ Cut None) (Connect Contact false) ≡ Some why.Off)
    × (refused (start ▸ Cut None) (Disconnect 1) ≡ None)
    × (refused start (Disconnect 2) ≡ Some why.NoConnection)
    × (refused start PowerOn ≡ Some why.On)
    × (refused (start ▸ Cut None) CutPower ≡ Some why.Off)
    × (refused (start ▸ Cut None) (ResetSide Contact) ≡ Some why.Off)

-- a connection on contact, a reset of contact, a loss of power, and the power on again
abbrev pub reset_record : CardRecord
reset_record = record { act = ResetSide Contact; entry = Reset Contact; answer = WasReset }

abbrev pub cut_record : CardRecord
cut_record = record { act = CutPower; entry = Cut None; answer = WasCut }

abbrev pub up_record : CardRecord
up_record = record { act = PowerOn; entry = Up Nothing; answer = IsUp Nothing }

abbrev pub was_reset : Records
was_reset = reset_record ∷ open_record ∷ []

abbrev pub was_cut : Records
was_cut = cut_record ∷ was_reset

-- what is told: the epoch of its interface to a new connection, and to one that is stale or mute
abbrev pub EpochsAreTold : Type 0
EpochsAreTold =
    IsTurned plain was_reset (record { act = Connect Contact true; entry = Opened 2 Contact true; answer = Connected 2 1 })
    × IsTurned plain was_reset (record { act = Connect Contactless true; entry = Opened 2 Contactless true; answer = Connected 2 0 })
    × IsTurned plain was_reset (record { act = Exchange 1 0 []; entry = Note (kind.Exchange 1) why.Stale; answer = Stale 1 })
    × IsTurned plain was_cut (record { act = Exchange 1 1 []; entry = Note (kind.Exchange 1) why.Mute; answer = Mute 2 })
    × IsTurned plain was_cut up_record
    × IsTurned plain (up_record ∷ was_cut) (record { act = Exchange 1 1 []; entry = Note (kind.Exchange 1) why.Stale; answer = Stale 2 })
    × IsTurned plain was_reset (record { act = Exchange 2 0 []; entry = Note (kind.Exchange 2) why.NoConnection; answer = NoConnection })

-- a command that lost power is told the epoch after the loss
abbrev pub LossesAreMute : Type 0
LossesAreMute = LosesPower plain selected_first 1 (verify plain_pin) (Cut (Some (1, verify plain_pin))) (Mute 1)

-- an act is noted only for its cause
abbrev pub NotesHaveCauses : Type 0
NotesHaveCauses =
    IsAllowed plain (start ▸ Reset Contact) (Note (kind.Exchange 1) why.Stale)
    × ¬ (IsAllowed plain start (Note (kind.Exchange 1) why.Stale))
    × ¬ (IsAllowed plain start (Note (kind.Exchange 1) why.Mute))
    × ¬ (IsAllowed plain start (Note (kind.Exchange 1) why.NoConnection))
    × IsAllowed plain start (Note (kind.Disconnect 2) why.NoConnection)
    × ¬ (IsAllowed plain start (Note (kind.Disconnect 1) why.NoConnection))
    × ¬ (IsAllowed plain start (Note (kind.Connect Contact) why.Off))
    × ¬ (IsAllowed plain start (Note (kind.Reset Contact) why.Off))
    × ¬ (IsAllowed plain start (Note kind.Cut why.Off))
    × IsAllowed plain start (Note kind.Power why.On)
    × ¬ (IsAllowed plain (start ▸ Cut None) (Note kind.Power why.On))

-- on a card that is off a Connect is noted as off alone, and an exchange of an open connection as mute alone
abbrev pub OffIsNotedFirst : Type 0
OffIsNotedFirst =
    IsAllowed plain (sixteen ▸ Cut None) (Note (kind.Connect Contact) why.Off)
    × ¬ (IsAllowed plain (sixteen ▸ Cut None) (Note (kind.Connect Contact) why.NoChannel))
    × ¬ (IsAllowed plain (sixteen ▸ Cut None) (Note (kind.Connect Contact) why.Locked))
    × ¬ (IsAllowed plain (start) (Note (kind.Connect Contactless) why.Locked))
    × IsAllowed plain (start ▸ Cut None) (Note (kind.Exchange 1) why.Mute)
    × ¬ (IsAllowed plain (start ▸ Cut None) (Note (kind.Exchange 1) why.Stale))
    × ¬ (IsAllowed plain (start ▸ Cut None) (Note (kind.Exchange 2) why.Mute))
    × ¬ (IsAllowed plain (start ▸ Reset Contact) (Note (kind.Exchange 2) why.Stale))
    × ¬ (IsAllowed plain (start ▸ Reset Contactless) (Note (kind.Exchange 1) why.Stale))
    × ¬ (IsAllowed plain (start ▸ Cut None) (Note kind.Power why.Off))
    × ¬ (IsAllowed plain start (Note (kind.Disconnect 1) why.Off))
