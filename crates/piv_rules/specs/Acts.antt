-- What is asked of a card from outside, what it is answered, and the record of both with its entry (this project's own).
use Rattle.std.specs.Prelude.{ℕ, Bool, List, map}
use Rattle.piv_model.specs.declared.kinds.Interface.{Interface}
use Rattle.piv_model.specs.declared.kinds.Took.{Took}
use Rattle.piv_model.specs.Entries.{CardEntry, Past}

-- an Exchange has the number of its connection, the epoch that the caller knows, and the bytes of an APDU
pub data CardAct : Type 0 where
  Connect : Interface → Bool → CardAct
  Disconnect : ℕ → CardAct
  Exchange : ℕ → ℕ → List ℕ → CardAct
  ResetSide : Interface → CardAct
  CutPower : CardAct
  PowerOn : CardAct

-- Connected has the new connection's number and the epoch of its interface, Mute and Stale the epoch; Replied has the
-- data and the word
pub data CardAnswer : Type 0 where
  Connected : ℕ → ℕ → CardAnswer
  Disconnected : CardAnswer
  Replied : List ℕ → ℕ → CardAnswer
  Mute : ℕ → CardAnswer
  Stale : ℕ → CardAnswer
  NoConnection : CardAnswer
  Locked : CardAnswer
  NoChannel : CardAnswer
  Off : CardAnswer
  On : CardAnswer
  WasReset : CardAnswer
  WasCut : CardAnswer
  IsUp : Took → CardAnswer

-- an entry with the act that made it and the answer that the act got
pub record CardRecord : Type 0 where
  pub act : CardAct
  pub entry : CardEntry
  pub answer : CardAnswer

-- what was done on a card, the newest first
abbrev pub Records : Type 0
Records = List CardRecord

abbrev pub entries : Records → Past
entries R = map (λ r. r.entry) R
