-- One act on a card, and runs of acts (this project's own).
use Rattle.std.specs.Prelude.{◌≡◌, ◌⊎◌, ℕ, ◌+◌, ◌-◌, not, nat_lt, [], ◌∷◌, length, take, Option, Some, None, if◌then◌else◌}
use Rattle.piv_model.specs.declared.kinds.Took.{Took}
use Rattle.piv_model.specs.declared.history.ActKind.{ActKind}
use Rattle.piv_model.specs.declared.history.ActKind.TheVariants as kind
use Rattle.piv_model.specs.declared.history.Refusal.{Refusal}
use Rattle.piv_model.specs.declared.history.Refusal.TheVariants as why
use Rattle.piv_model.specs.Commands.{CardCommand}
use Rattle.piv_model.specs.StatusWords.{piece_word}
use Rattle.piv_model.specs.Entries.{CardEntry, Past, Opened, Closed, Call, Part, Rest, Bad, Reset, Cut, Up, Note}
use Rattle.piv_model.specs.Base.{Base}
use Rattle.piv_rules.specs.StatusWords.{is_granted}
use Rattle.piv_rules.specs.Connections.{on, is_open, side, epoch}
use Rattle.piv_rules.specs.Answers.{answer, Reply}
use Rattle.piv_rules.specs.Losses.{MayTake}
use Rattle.piv_rules.specs.Legal.{IsAllowed, is_locked, is_full, opened_count, block_borne}
use Rattle.piv_rules.specs.Acts.{CardAct, Connect, Disconnect, Exchange, ResetSide, CutPower, PowerOn, CardAnswer, Connected, Disconnected, Replied, Mute, Stale, NoConnection, Locked, NoChannel, Off, On, WasReset, WasCut, IsUp, CardRecord, Records, entries}
use Rattle.piv_rules.specs.Frames.{Frame, BadFrame, PartFrame, RestFrame, WholeFrame, frame}

-- why an act changes nothing: the first that holds
abbrev pub refused : Past → CardAct → Option Refusal
refused H (Connect i shared) =
    if not (on H) then Some why.Off
    else if is_locked H i shared then Some why.Locked
    else if is_full H then Some why.NoChannel
    else None
refused H (Disconnect c) = if not (is_open H c) then Some why.NoConnection else None
refused H (Exchange c known bytes) =
    if not (is_open H c) then Some why.NoConnection
    else if not (on H) then Some why.Mute
    else if nat_lt known (epoch H (side H c)) then Some why.Stale
    else None
refused H (ResetSide i) = if not (on H) then Some why.Off else None
refused H CutPower = if not (on H) then Some why.Off else None
refused H PowerOn = if on H then Some why.On else None

abbrev pub kind_of : CardAct → ActKind
kind_of (Connect i shared) = kind.Connect i
kind_of (Disconnect c) = kind.Disconnect c
kind_of (Exchange c known bytes) = kind.Exchange c
kind_of (ResetSide i) = kind.Reset i
kind_of CutPower = kind.Cut
kind_of PowerOn = kind.Power

-- the epoch that an act is told
abbrev pub epoch_told : Past → CardAct → ℕ
epoch_told H (Exchange c known bytes) = epoch H (side H c)
epoch_told H _ = 0

abbrev pub answer_of : ℕ → Refusal → CardAnswer
answer_of told why.Locked = Locked
answer_of told why.NoChannel = NoChannel
answer_of told why.Off = Off
answer_of told why.On = On
answer_of told why.Mute = Mute told
answer_of told why.Stale = Stale told
answer_of told why.NoConnection = NoConnection

-- a reply, cut to the bytes that are wanted; with any word but 90 00 it has no data
abbrev pub cut_reply : Reply → ℕ → CardAnswer
cut_reply r most =
    if is_granted r.word then Replied (take most r.body) (piece_word (length r.body - most))
    else Replied [] r.word

-- the Call of a whole command, and the loss of power in it
abbrev pub called : Base → Past → ℕ → CardCommand → CardEntry
called B H c k = Call c k (answer B H c k).word (block_borne B H k (answer B H c k).word)

abbrev pub LosesPower : Base → Past → ℕ → CardCommand → CardEntry → CardAnswer → Type 0
LosesPower B H c k e a = (e ≡ Cut (Some (c, k))) × IsAllowed B H e × (a ≡ Mute (epoch H (side H c) + 1))

-- what an exchange that reaches the card makes
abbrev pub IsExchanged : Base → Past → ℕ → Frame → CardEntry → CardAnswer → Type 0
IsExchanged B H c (BadFrame w) e a = (e ≡ Bad c w) × (a ≡ Replied [] w)
IsExchanged B H c PartFrame e a = (e ≡ Part c) × (a ≡ Replied [] 0x9000)
IsExchanged B H c (RestFrame piece w) e a = (e ≡ Rest c) × (a ≡ Replied piece w)
IsExchanged B H c (WholeFrame k most) e a =
    ((e ≡ called B H c k) × (a ≡ cut_reply (answer B H c k) most)) ⊎ LosesPower B H c k e a

-- what an act that isn't refused makes
abbrev pub IsDone : Base → Records → CardAct → CardEntry → CardAnswer → Type 0
IsDone B R (Connect i shared) e a =
    (e ≡ Opened (opened_count (entries R) + 1) i shared)
    × (a ≡ Connected (opened_count (entries R) + 1) (epoch (entries R) i))
IsDone B R (Disconnect c) e a = (e ≡ Closed c) × (a ≡ Disconnected)
IsDone B R (Exchange c known bytes) e a = IsExchanged B (entries R) c (frame B R c bytes) e a
IsDone B R (ResetSide i) e a = (e ≡ Reset i) × (a ≡ WasReset)
IsDone B R CutPower e a = (e ≡ Cut None) × (a ≡ WasCut)
IsDone B R PowerOn e a = (t : Took) × MayTake B (entries R) t × (e ≡ Up t) × (a ≡ IsUp t)

abbrev pub IsTurnedBy : Option Refusal → Base → Records → CardAct → CardEntry → CardAnswer → Type 0
IsTurnedBy (Some w) B R act e a = (e ≡ Note (kind_of act) w) × (a ≡ answer_of (epoch_told (entries R) act) w)
IsTurnedBy None B R act e a = IsDone B R act e a

-- the record is the entry and the answer of its act after R
abbrev pub IsTurned : Base → Records → CardRecord → Type 0
IsTurned B R r = IsTurnedBy (refused (entries R) r.act) B R r.act r.entry r.answer

-- each record is turned after those before it
abbrev pub Runs : Base → Records → Type 0
Runs B [] = Unit {0}
Runs B (r ∷ R) = Runs B R × IsTurned B R r
