-- What each call of the client API answers, and the handle that it hands back (SP 800-73-4 part 3, client application
-- programming interface). The first row that fits decides.
use Rattle.std.specs.Prelude.{ℕ, ◌==◌, Bool, false, ◌||◌, List, [], ◌∷◌, Option, Some, None, if◌then◌else◌}
use Rattle.piv_model.specs.declared.kinds.Interface.{Interface}
use Rattle.piv_model.specs.declared.kinds.Interface.TheVariants.{Contact, Contactless}
use Rattle.piv_model.specs.declared.kinds.Rule.{Rule}
use Rattle.piv_model.specs.declared.kinds.Rule.TheVariants as rule
use Rattle.piv_model.specs.declared.history.Refusal.TheVariants as why
use Rattle.piv_model.specs.declared.answers.ApiAnswer.{ApiAnswer}
use Rattle.piv_model.specs.declared.answers.ApiAnswer.TheVariants as api
use Rattle.piv_model.specs.Objects.{read_rule_of}
use Rattle.piv_rules.specs.Acts as acts
use Rattle.card_acts.specs.Acts.{Heard}
use Rattle.client_api.specs.Calls.{Handle, Call, Decided, Connect, Disconnect, Select, LogIn, LogOut, Get, Put, Crypt, Admin, Transmit, Switch, Replies, joined, has_word}

-- whether an earlier turn was answered 6D 00; log_out alone goes on after that
abbrev pub with_idle : Call → Bool → Heard → Bool
with_idle (LogOut h) before r = before || has_word 0x6D00 r
with_idle call before r = false

abbrev pub was_idle : Call → Replies → Bool
was_idle call [] = false
was_idle call (r ∷ rs) = with_idle call (was_idle call rs) r

-- ---- by the status word of the last turn

-- the last word is 90 00, or another word
abbrev pub plain : List ℕ → ℕ → ApiAnswer
plain body word = if word == 0x9000 then api.Ok body else api.CardStatus word

-- the rule that the use of a key asks: contact, or the right answer
abbrev pub key_rule : Interface → Rule
key_rule Contactless = rule.ContactUse
key_rule Contact = rule.Response

abbrev pub by_key : Handle → List ℕ → ℕ → ApiAnswer
by_key h body word =
    if word == 0x6982 then api.SecurityConditions (key_rule h.interface)
    else if word == 0x6A86 then api.InvalidKeyrefOrAlgorithm
    else if word == 0x6A80 then api.InputBytesMalformed
    else plain body word

-- `all` are the data of all replies, joined, and `body` those of the last
abbrev pub by_word : Call → List ℕ → List ℕ → ℕ → ApiAnswer
by_word (Select h aid) all body word = if word == 0x6A82 then api.CardApplicationNotFound else plain body word
by_word (LogIn h list) all body word = if word == 0x9000 then api.Ok [] else api.AuthenticationFailure word
by_word (Get h place) all body word =
    if word == 0x6982 then api.SecurityConditions (read_rule_of place h.interface)
    else if word == 0x6A82 then api.DataObjectNotFound
    else plain all word
by_word (Put h element) all body word =
    if word == 0x6982 then api.SecurityConditions rule.Admin
    else if word == 0x6A84 then api.InsufficientCardResource
    else plain [] word
by_word (Crypt h algorithm key input) all body word = by_key h body word
by_word (Admin h algorithm key) all body word = by_key h [] word
by_word call all body word = plain [] word

-- transmit hands on any reply, and 6D 00 in any turn means that PIV isn't selected
abbrev pub by_reply : Call → List ℕ → Bool → List ℕ → ℕ → ApiAnswer
by_reply (Transmit h bytes) all idle body word = api.Reply body word
by_reply (Connect card interface shared) all idle body word = plain [] word
by_reply (Disconnect h) all idle body word = plain [] word
by_reply call all idle body word = if idle || word == 0x6D00 then api.NotSelected else by_word call all body word

-- ---- by the last turn

-- Off, NoChannel and Locked answer a connect alone, NoConnection, Mute and Stale a call with a handle
abbrev pub by_told : Heard → (List ℕ → ℕ → ApiAnswer) → ApiAnswer
by_told None reply = api.TranscriptFull
by_told (Some acts.Off) reply = api.ConnectionFailure
by_told (Some acts.NoChannel) reply = api.ConnectionFailure
by_told (Some acts.Locked) reply = api.ConnectionLocked
by_told (Some acts.NoConnection) reply = api.InvalidCardHandle
by_told (Some (acts.Mute epoch)) reply = api.CardReaderError
by_told (Some (acts.Stale epoch)) reply = api.CardReaderError
by_told (Some (acts.Replied body word)) reply = reply body word
by_told (Some done) reply = api.Ok []

-- a reset, a cut or a power
abbrev pub by_switch : Heard → ApiAnswer
by_switch None = api.TranscriptFull
by_switch (Some acts.Off) = api.Refused why.Off
by_switch (Some acts.On) = api.Refused why.On
by_switch (Some acts.NoChannel) = api.Refused why.NoChannel
by_switch (Some acts.Locked) = api.Refused why.Locked
by_switch (Some acts.NoConnection) = api.Refused why.NoConnection
by_switch (Some (acts.Mute epoch)) = api.Refused why.Mute
by_switch (Some (acts.Stale epoch)) = api.Refused why.Stale
by_switch (Some (acts.IsUp took)) = api.Done (Some took)
by_switch (Some done) = api.Done None

abbrev pub by_last : Call → List ℕ → Bool → Heard → ApiAnswer
by_last (Switch card act) all idle r = by_switch r
by_last call all idle r = by_told r (by_reply call all idle)

-- what a call answers after all its replies
abbrev pub api_answer : Call → Replies → ApiAnswer
api_answer (Decided a h) rs = a
api_answer call [] = api.Ok []
api_answer call (r ∷ rs) = by_last call (joined call (r ∷ rs)) (was_idle call rs) r

-- ---- the handle that a call hands back

-- the newer epoch after Mute and Stale
abbrev pub renewed : Handle → Heard → Handle
renewed h (Some (acts.Mute epoch)) = record h { epoch = epoch }
renewed h (Some (acts.Stale epoch)) = record h { epoch = epoch }
renewed h _ = h

abbrev pub connected : ℕ → Interface → Heard → Option Handle
connected card interface (Some (acts.Connected c epoch)) =
    Some (record { card = card; connection = c; epoch = epoch; interface = interface })
connected card interface _ = None

abbrev pub handle_by : Call → Heard → Option Handle
handle_by (Decided a h) r = h
handle_by (Connect card interface shared) r = connected card interface r
handle_by (Disconnect h) r = Some (renewed h r)
handle_by (Select h aid) r = Some (renewed h r)
handle_by (LogIn h list) r = Some (renewed h r)
handle_by (LogOut h) r = Some (renewed h r)
handle_by (Get h place) r = Some (renewed h r)
handle_by (Put h element) r = Some (renewed h r)
handle_by (Crypt h algorithm key input) r = Some (renewed h r)
handle_by (Admin h algorithm key) r = Some (renewed h r)
handle_by (Transmit h bytes) r = Some (renewed h r)
handle_by (Switch card act) r = None

-- a Full changes no handle
abbrev pub handle_after : Call → Replies → Option Handle
handle_after call [] = handle_by call None
handle_after call (r ∷ rs) = handle_by call r
