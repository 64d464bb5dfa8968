-- The texts of a history's entries (this project's own).
use Rattle.std.specs.Prelude.{◌≡◌, ◌<◌, ◌^◌, ⊤, ℕ, List, [], ◌∷◌, ◌++◌, length, codes, reverse, Option, Some, None, IfSome}
use Rattle.std.specs.List.{join_with_byte, flat_map, AllByRecursion}
use Rattle.std.specs.Fmt.{decimal}
use Rattle.hex.specs.Hex.{IsBytes, encode_upper}
use Rattle.piv_model.specs.declared.kinds.Interface.{Interface}
use Rattle.piv_model.specs.declared.kinds.Interface.TheVariants.{Contact, Contactless}
use Rattle.piv_model.specs.declared.kinds.Took.{Took}
use Rattle.piv_model.specs.declared.kinds.Took.TheVariants.{Nothing, Spent, Done}
use Rattle.piv_model.specs.declared.history.ActKind.{ActKind}
use Rattle.piv_model.specs.declared.history.ActKind.TheVariants as act
use Rattle.piv_model.specs.declared.history.Refusal.{Refusal}
use Rattle.piv_model.specs.declared.history.Refusal.TheVariants.{Locked, NoChannel, Off, On, Mute, Stale, NoConnection}
use Rattle.piv_model.specs.Commands.{CardCommand}
use Rattle.piv_model.specs.Entries.{CardEntry, Past, Opened, Closed, Call, Part, Rest, Bad, Reset, Cut, Up, Note}
use Rattle.line_words.specs.Words.{mode}
use Rattle.line_words.specs.Digits.{byte_text, status_text, bytes_text}

-- ---- the words of an entry

abbrev pub interface_name : Interface → List ℕ
interface_name Contact = codes "contact"
interface_name Contactless = codes "contactless"

abbrev pub took_name : Took → List ℕ
took_name Nothing = codes "nothing"
took_name Spent = codes "spent"
took_name Done = codes "done"

abbrev pub refusal_name : Refusal → List ℕ
refusal_name Locked = codes "locked"
refusal_name NoChannel = codes "nochannel"
refusal_name Off = codes "off"
refusal_name On = codes "on"
refusal_name Mute = codes "mute"
refusal_name Stale = codes "stale"
refusal_name NoConnection = codes "noconnection"

-- a dash where there is none
abbrev pub block_text : Option (List ℕ) → List ℕ
block_text None = codes "-"
block_text (Some block) = encode_upper block

abbrev pub act_words : ActKind → List (List ℕ)
act_words (act.Connect interface) = codes "connect" ∷ interface_name interface ∷ []
act_words (act.Disconnect c) = codes "disconnect" ∷ decimal c ∷ []
act_words (act.Exchange c) = codes "exchange" ∷ decimal c ∷ []
act_words (act.Reset interface) = codes "reset" ∷ interface_name interface ∷ []
act_words act.Cut = codes "cut" ∷ []
act_words act.Power = codes "power" ∷ []

abbrev pub command_words : ℕ → CardCommand → List (List ℕ)
command_words c k = decimal c ∷ byte_text k.ins ∷ byte_text k.p1 ∷ byte_text k.p2 ∷ bytes_text k.body ∷ []

abbrev pub entry_words : CardEntry → List (List ℕ)
entry_words (Opened c interface shared) = codes "opened" ∷ decimal c ∷ interface_name interface ∷ mode shared ∷ []
entry_words (Closed c) = codes "closed" ∷ decimal c ∷ []
entry_words (Call c k sw block) = codes "call" ∷ command_words c k ++ (status_text sw ∷ block_text block ∷ [])
entry_words (Part c) = codes "part" ∷ decimal c ∷ []
entry_words (Rest c) = codes "rest" ∷ decimal c ∷ []
entry_words (Bad c sw) = codes "bad" ∷ decimal c ∷ status_text sw ∷ []
entry_words (Reset interface) = codes "reset" ∷ interface_name interface ∷ []
entry_words (Cut None) = codes "cut" ∷ []
entry_words (Cut (Some r)) = codes "cut" ∷ command_words r.0 r.1
entry_words (Up took) = codes "up" ∷ took_name took ∷ []
entry_words (Note a answer) = codes "note" ∷ act_words a ++ (refusal_name answer ∷ [])

-- ---- the texts

abbrev pub entry_text : CardEntry → List ℕ
entry_text e = join_with_byte 32 (entry_words e)

abbrev pub entry_line : CardEntry → List ℕ
entry_line e = entry_text e ++ 10 ∷ []

-- the lines of a history, the oldest entry first
abbrev pub history_text : Past → List ℕ
history_text H = flat_map entry_line (reverse H)

-- ---- the entries that there are: numbers of their types

pub record IsCommand (k : CardCommand) : Type 0 where
  pub ins : k.ins < 256
  pub p1 : k.p1 < 256
  pub p2 : k.p2 < 256
  pub body : IsBytes k.body

pub record IsBlock (block : List ℕ) : Type 0 where
  pub size : length block ≡ 16
  pub bytes : IsBytes block

abbrev pub IsAct : ActKind → Type 0
IsAct (act.Disconnect c) = c < 2 ^ 32
IsAct (act.Exchange c) = c < 2 ^ 32
IsAct _ = ⊤

abbrev pub IsEntry : CardEntry → Type 0
IsEntry (Opened c interface shared) = c < 2 ^ 32
IsEntry (Closed c) = c < 2 ^ 32
IsEntry (Call c k sw block) = (c < 2 ^ 32) × IsCommand k × (sw < 2 ^ 16) × IfSome block IsBlock
IsEntry (Part c) = c < 2 ^ 32
IsEntry (Rest c) = c < 2 ^ 32
IsEntry (Bad c sw) = (c < 2 ^ 32) × (sw < 2 ^ 16)
IsEntry (Cut (Some r)) = (r.0 < 2 ^ 32) × IsCommand r.1
IsEntry (Note a answer) = IsAct a
IsEntry _ = ⊤

-- an entry of the history's types whose text this is
abbrev pub IsEntryText : List ℕ → CardEntry → Type 0
IsEntryText text e = IsEntry e × (text ≡ entry_text e)

-- entries of their types, whose lines this text is
abbrev pub IsHistoryText : List ℕ → Past → Type 0
IsHistoryText text H = AllByRecursion IsEntry H × (text ≡ history_text H)
