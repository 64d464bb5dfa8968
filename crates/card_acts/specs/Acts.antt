-- Acts on a card and their answers as plain data (this project's own).
use Rattle.std.specs.Prelude.{◌≤◌, Bool, true, false, length, Option, Some, None}
use Rattle.piv_rules.specs.Acts.{CardAct, CardAnswer}
use Rattle.piv_rules.specs.Acts as acts
use Rattle.card_acts.specs.declared.act.Act.{Act}
use Rattle.card_acts.specs.declared.act.Act.TheVariants as lent
use Rattle.card_acts.specs.declared.answer.Answer.{Answer}
use Rattle.card_acts.specs.declared.answer.Answer.TheVariants as answer

abbrev pub act_of : Act → CardAct
act_of (lent.Connect interface shared) = acts.Connect interface shared
act_of (lent.Disconnect c) = acts.Disconnect c
act_of (lent.Exchange c epoch bytes) = acts.Exchange c epoch bytes.now
act_of (lent.Reset interface) = acts.ResetSide interface
act_of lent.Cut = acts.CutPower
act_of lent.Power = acts.PowerOn

-- an exchange has at most 512 bytes
abbrev pub IsShort : Act → Type 0
IsShort (lent.Exchange c epoch bytes) = length bytes.now ≤ 512
IsShort _ = Unit {0}

-- what an act was answered; None is Full, of which there is no record
abbrev pub Heard : Type 0
Heard = Option CardAnswer

abbrev pub answer_of : Answer → Heard
answer_of answer.Full = None
answer_of (answer.Connected c epoch) = Some (acts.Connected c epoch)
answer_of answer.Disconnected = Some acts.Disconnected
answer_of (answer.Reply body sw) = Some (acts.Replied body sw)
answer_of (answer.Mute epoch) = Some (acts.Mute epoch)
answer_of (answer.Stale epoch) = Some (acts.Stale epoch)
answer_of answer.NoConnection = Some acts.NoConnection
answer_of answer.Locked = Some acts.Locked
answer_of answer.NoChannel = Some acts.NoChannel
answer_of answer.Off = Some acts.Off
answer_of answer.On = Some acts.On
answer_of answer.WasReset = Some acts.WasReset
answer_of answer.WasCut = Some acts.WasCut
answer_of (answer.Up took) = Some (acts.IsUp took)

-- the answers that an act may get
abbrev pub is_answer_to : CardAct → Heard → Bool
is_answer_to act None = true
is_answer_to (acts.Connect interface shared) (Some acts.Off) = true
is_answer_to (acts.Connect interface shared) (Some acts.Locked) = true
is_answer_to (acts.Connect interface shared) (Some acts.NoChannel) = true
is_answer_to (acts.Connect interface shared) (Some (acts.Connected c epoch)) = true
is_answer_to (acts.Disconnect c) (Some acts.NoConnection) = true
is_answer_to (acts.Disconnect c) (Some acts.Disconnected) = true
is_answer_to (acts.Exchange c known bytes) (Some acts.NoConnection) = true
is_answer_to (acts.Exchange c known bytes) (Some (acts.Mute epoch)) = true
is_answer_to (acts.Exchange c known bytes) (Some (acts.Stale epoch)) = true
is_answer_to (acts.Exchange c known bytes) (Some (acts.Replied body word)) = true
is_answer_to (acts.ResetSide interface) (Some acts.Off) = true
is_answer_to (acts.ResetSide interface) (Some acts.WasReset) = true
is_answer_to acts.CutPower (Some acts.Off) = true
is_answer_to acts.CutPower (Some acts.WasCut) = true
is_answer_to acts.PowerOn (Some acts.On) = true
is_answer_to acts.PowerOn (Some (acts.IsUp took)) = true
is_answer_to act heard = false
