-- The entry that words are, one word after the other (this project's own).
use Rattle.std.specs.Prelude.{◌^◌, ◌==◌, ℕ, nat_lt, if◌then◌else◌, List, [], ◌∷◌, length, codes, Option, Some, None}
use Rattle.std.specs.Str.{bytes_eq}
use Rattle.piv_model.specs.declared.kinds.Interface.{Interface}
use Rattle.piv_model.specs.declared.kinds.Interface.TheVariants.{Contact, Contactless}
use Rattle.piv_model.specs.declared.kinds.Took.{Took}
use Rattle.piv_model.specs.declared.kinds.Took.TheVariants.{Nothing, Spent, Done}
use Rattle.piv_model.specs.declared.history.ActKind.{ActKind}
use Rattle.piv_model.specs.declared.history.ActKind.TheVariants as act
use Rattle.piv_model.specs.declared.history.Refusal.{Refusal}
use Rattle.piv_model.specs.declared.history.Refusal.TheVariants.{Locked, NoChannel, Off, On, Mute, Stale, NoConnection}
use Rattle.piv_model.specs.Entries.{CardEntry, Opened, Closed, Call, Part, Rest, Bad, Reset, Cut, Up, Note}
use Rattle.line_words.specs.Words.{◌>>=◌, number_word, mode_word}
use Rattle.line_words.specs.Digits.{upper_word, upper_byte, status_word, body_word}

-- ---- words

-- a number of 32 bits
abbrev pub short_number : ℕ → Option ℕ
short_number n = if nat_lt n (2 ^ 32) then Some n else None

abbrev pub connection_word : List ℕ → Option ℕ
connection_word w = number_word w >>= short_number

abbrev pub sixteen : List ℕ → Option (Option (List ℕ))
sixteen bytes = if length bytes == 16 then Some (Some bytes) else None

abbrev pub some_block : List ℕ → Option (Option (List ℕ))
some_block w = upper_word w >>= sixteen

abbrev pub block_word : List ℕ → Option (Option (List ℕ))
block_word w = if bytes_eq w (codes "-") then Some None else some_block w

abbrev pub interface_word : List ℕ → Option Interface
interface_word w = if bytes_eq w (codes "contact") then Some Contact else if bytes_eq w (codes "contactless") then Some Contactless else None

abbrev pub took_word : List ℕ → Option Took
took_word w =
    if bytes_eq w (codes "nothing") then Some Nothing
    else if bytes_eq w (codes "spent") then Some Spent
    else if bytes_eq w (codes "done") then Some Done
    else None

abbrev pub refusal_word : List ℕ → Option Refusal
refusal_word w =
    if bytes_eq w (codes "locked") then Some Locked
    else if bytes_eq w (codes "nochannel") then Some NoChannel
    else if bytes_eq w (codes "off") then Some Off
    else if bytes_eq w (codes "on") then Some On
    else if bytes_eq w (codes "mute") then Some Mute
    else if bytes_eq w (codes "stale") then Some Stale
    else if bytes_eq w (codes "noconnection") then Some NoConnection
    else None

-- ---- entries

abbrev pub opened_of : List (List ℕ) → Option CardEntry
opened_of (c ∷ i ∷ m ∷ []) = do
  c ← connection_word c
  i ← interface_word i
  shared ← mode_word m
  Some (Opened c i shared)
opened_of _ = None

abbrev pub lone_connection : List (List ℕ) → Option ℕ
lone_connection (c ∷ []) = connection_word c
lone_connection _ = None

abbrev pub call_of : List (List ℕ) → Option CardEntry
call_of (c ∷ ins ∷ p1 ∷ p2 ∷ body ∷ sw ∷ block ∷ []) = do
  c ← connection_word c
  ins ← upper_byte ins
  p1 ← upper_byte p1
  p2 ← upper_byte p2
  body ← body_word body
  sw ← status_word sw
  block ← block_word block
  Some (Call c (record { ins = ins; p1 = p1; p2 = p2; body = body }) sw block)
call_of _ = None

abbrev pub bad_of : List (List ℕ) → Option CardEntry
bad_of (c ∷ sw ∷ []) = do
  c ← connection_word c
  sw ← status_word sw
  Some (Bad c sw)
bad_of _ = None

abbrev pub reset_of : List (List ℕ) → Option CardEntry
reset_of (i ∷ []) = interface_word i >>= (λ i. Some (Reset i))
reset_of _ = None

abbrev pub cut_of : List (List ℕ) → Option CardEntry
cut_of [] = Some (Cut None)
cut_of (c ∷ ins ∷ p1 ∷ p2 ∷ body ∷ []) = do
  c ← connection_word c
  ins ← upper_byte ins
  p1 ← upper_byte p1
  p2 ← upper_byte p2
  body ← body_word body
  Some (Cut (Some (c, record { ins = ins; p1 = p1; p2 = p2; body = body })))
cut_of _ = None

abbrev pub up_of : List (List ℕ) → Option CardEntry
up_of (took ∷ []) = took_word took >>= (λ took. Some (Up took))
up_of _ = None

abbrev pub lone_act : List ℕ → Option ActKind
lone_act w = if bytes_eq w (codes "cut") then Some act.Cut else if bytes_eq w (codes "power") then Some act.Power else None

abbrev pub act_with : List ℕ → List ℕ → Option ActKind
act_with w subject =
    if bytes_eq w (codes "connect") then interface_word subject >>= (λ i. Some (act.Connect i))
    else if bytes_eq w (codes "disconnect") then connection_word subject >>= (λ c. Some (act.Disconnect c))
    else if bytes_eq w (codes "exchange") then connection_word subject >>= (λ c. Some (act.Exchange c))
    else if bytes_eq w (codes "reset") then interface_word subject >>= (λ i. Some (act.Reset i))
    else None

abbrev pub note_of : List (List ℕ) → Option CardEntry
note_of (w ∷ answer ∷ []) = do
  a ← lone_act w
  answer ← refusal_word answer
  Some (Note a answer)
note_of (w ∷ subject ∷ answer ∷ []) = do
  a ← act_with w subject
  answer ← refusal_word answer
  Some (Note a answer)
note_of _ = None

abbrev pub entry_of_kind : List ℕ → List (List ℕ) → Option CardEntry
entry_of_kind kind rest =
    if bytes_eq kind (codes "opened") then opened_of rest
    else if bytes_eq kind (codes "closed") then lone_connection rest >>= (λ c. Some (Closed c))
    else if bytes_eq kind (codes "call") then call_of rest
    else if bytes_eq kind (codes "part") then lone_connection rest >>= (λ c. Some (Part c))
    else if bytes_eq kind (codes "rest") then lone_connection rest >>= (λ c. Some (Rest c))
    else if bytes_eq kind (codes "bad") then bad_of rest
    else if bytes_eq kind (codes "reset") then reset_of rest
    else if bytes_eq kind (codes "cut") then cut_of rest
    else if bytes_eq kind (codes "up") then up_of rest
    else if bytes_eq kind (codes "note") then note_of rest
    else None

abbrev pub entry_of_words : List (List ℕ) → Option CardEntry
entry_of_words [] = None
entry_of_words (kind ∷ rest) = entry_of_kind kind rest
