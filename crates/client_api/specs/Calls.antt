-- The calls of the client API, and what each of them sends (SP 800-73-4 part 3, client application programming
-- interface; the commands are those of part 2).
use Rattle.std.specs.Prelude.{ℕ, zero, suc, ◌-◌, ◌*◌, ◌==◌, nat_lt, nat_le, Bool, false, not, ◌&&◌, List, [], ◌∷◌, ◌++◌, length, take, drop, Option, Some, None, is_some, option_and_then, slice_get, replicate, if◌then◌else◌}
use Rattle.ber_tlv.specs.Elements.{spell}
use Rattle.piv_model.specs.declared.kinds.Interface.{Interface}
use Rattle.piv_model.specs.declared.answers.ApiAnswer.{ApiAnswer}
use Rattle.piv_model.specs.ApduForms.{command_bytes}
use Rattle.piv_model.specs.ApplicationNames.{full_aid, idle_aid}
use Rattle.piv_model.specs.Objects.{row_at}
use Rattle.piv_model.specs.Cipher.{encipher}
use Rattle.piv_rules.specs.Acts.{CardAct, CardAnswer}
use Rattle.piv_rules.specs.Acts as acts
use Rattle.piv_objects.specs.Authenticators.{Credential}
use Rattle.card_acts.specs.Acts.{Heard}

-- an open connection, as its caller knows it
pub record Handle : Type 0 where
  pub card : ℕ
  pub connection : ℕ
  pub epoch : ℕ
  pub interface : Interface

-- a call as it was made
pub data Call : Type 0 where
  -- it is answered without a turn
  Decided : ApiAnswer → Option Handle → Call
  -- the card, and whether others may share the interface
  Connect : ℕ → Interface → Bool → Call
  Disconnect : Handle → Call
  -- the application's name
  Select : Handle → List ℕ → Call
  LogIn : Handle → List Credential → Call
  LogOut : Handle → Call
  -- the object's place
  Get : Handle → ℕ → Call
  -- the element that is sent
  Put : Handle → List ℕ → Call
  -- algorithm, key and input
  Crypt : Handle → ℕ → ℕ → List ℕ → Call
  -- algorithm, and the bytes of the key
  Admin : Handle → ℕ → List ℕ → Call
  -- the bytes as they are
  Transmit : Handle → List ℕ → Call
  -- no call of the API: a reset, a cut or a power of a card
  Switch : ℕ → CardAct → Call

-- what a call was answered so far, the newest first
abbrev pub Replies : Type 0
Replies = List Heard

-- an act, and the card that it is made on
pub record Asked : Type 0 where
  pub card : ℕ
  pub act : CardAct

-- ---- the commands

abbrev pub exchange : Handle → List ℕ → Option Asked
exchange h bytes = Some (record { card = h.card; act = acts.Exchange h.connection h.epoch bytes })

-- a command of class 00 with Le 00
abbrev pub command : ℕ → ℕ → ℕ → List ℕ → List ℕ
command ins p1 p2 body = command_bytes 0x00 (record { ins = ins; p1 = p1; p2 = p2; body = body }) (Some 0x00)

-- VERIFY
abbrev pub verify : Credential → List ℕ
verify c = command_bytes 0x00 (record { ins = 0x20; p1 = 0x00; p2 = c.reference; body = c.pin }) None

-- VERIFY of P1 FF, which ends the login by the PIN
abbrev pub end_login : List ℕ
end_login = 0x00 ∷ 0x20 ∷ 0xFF ∷ 0x80 ∷ []

-- PUT DATA with the next piece of an element: 255 bytes, and all pieces but the last with class 10
abbrev pub piece : List ℕ → List ℕ
piece left =
    command_bytes (if nat_lt 255 (length left) then 0x10 else 0x00)
    (record { ins = 0xDB; p1 = 0x3F; p2 = 0xFF; body = take 255 left }) None

-- the challenge in a reply's data: the last 16 bytes, or zeros where there are fewer
abbrev pub challenge_in : List ℕ → List ℕ
challenge_in body = if nat_lt (length body) 16 then replicate 16 0x00 else drop (length body - 16) body

-- a template of GENERAL AUTHENTICATE that asks for a challenge, and one that answers it
abbrev pub challenge_asked : List ℕ
challenge_asked = 0x7C ∷ 0x02 ∷ 0x81 ∷ 0x00 ∷ []

abbrev pub challenge_answered : List ℕ → List ℕ → List ℕ
challenge_answered key body = 0x7C ∷ 0x12 ∷ 0x82 ∷ 0x10 ∷ encipher key (challenge_in body)

-- ---- what each call sends

-- its turn k, from 0; `body` are the data of the replies so far
abbrev pub turn_of : Call → ℕ → List ℕ → Option Asked
turn_of (Decided a h) k body = None
turn_of (Connect card interface shared) k body = Some (record { card = card; act = acts.Connect interface shared })
turn_of (Disconnect h) k body = Some (record { card = h.card; act = acts.Disconnect h.connection })
turn_of (Select h aid) k body = exchange h (command 0xA4 0x04 0x00 aid)
-- each authenticator in its turn
turn_of (LogIn h list) k body = option_and_then (λ c. exchange h (verify c)) (slice_get list k)
-- out of PIV and back
turn_of (LogOut h) zero body = exchange h end_login
turn_of (LogOut h) (suc zero) body = exchange h (command 0xA4 0x04 0x00 idle_aid)
turn_of (LogOut h) (suc (suc k)) body = exchange h (command 0xA4 0x04 0x00 full_aid)
-- the object, and then what is left of it
turn_of (Get h place) zero body = exchange h (command 0xCB 0x3F 0xFF (spell 0x5C (row_at place).tag))
turn_of (Get h place) (suc k) body = exchange h (command 0xC0 0x00 0x00 [])
turn_of (Put h element) k body =
    if nat_lt (255 * k) (length element) then exchange h (piece (drop (255 * k) element)) else None
turn_of (Crypt h algorithm key input) k body = exchange h (command 0x87 algorithm key input)
-- a challenge, and its answer
turn_of (Admin h algorithm key) zero body = exchange h (command 0x87 algorithm 0x9B challenge_asked)
turn_of (Admin h algorithm key) (suc k) body = exchange h (command 0x87 algorithm 0x9B (challenge_answered key body))
turn_of (Transmit h bytes) k body = exchange h bytes
turn_of (Switch card act) k body = Some (record { card = card; act = act })

-- the status word of a reply
abbrev pub word_of : Heard → Option ℕ
word_of (Some (acts.Replied body word)) = Some word
word_of _ = None

abbrev pub is_word : ℕ → Option ℕ → Bool
is_word word None = false
is_word word (Some w) = w == word

abbrev pub has_word : ℕ → Heard → Bool
has_word word r = is_word word (word_of r)

abbrev pub is_reply : Heard → Bool
is_reply r = is_some (word_of r)

-- 61 XX: more of the data waits
abbrev pub tells_more : Option ℕ → Bool
tells_more None = false
tells_more (Some w) = nat_le 0x6100 w && nat_lt w 0x6200

-- whether a call goes on after this reply to its turn k
abbrev pub goes_on : Call → ℕ → Heard → Bool
-- up to the first that isn't 90 00
goes_on (LogIn h list) k r = has_word 0x9000 r
goes_on (Put h element) k r = has_word 0x9000 r
-- unless the first is 6D 00
goes_on (LogOut h) zero r = is_reply r && not (has_word 0x6D00 r)
goes_on (LogOut h) (suc zero) r = is_reply r
-- while 61 XX comes, at most 64 times
goes_on (Get h place) k r = tells_more (word_of r) && nat_lt k 64
goes_on (Admin h algorithm key) zero r = has_word 0x9000 r
goes_on call k r = false

abbrev pub data_of : Heard → List ℕ
data_of (Some (acts.Replied body word)) = body
data_of _ = []

-- get_data joins the data of its replies, and admin reads those of its first
abbrev pub with_data : Call → List ℕ → Heard → List ℕ
with_data (Get h place) body r = body ++ data_of r
with_data (Admin h algorithm key) body r = body ++ data_of r
with_data call body r = []

abbrev pub joined : Call → Replies → List ℕ
joined call [] = []
joined call (r ∷ rs) = with_data call (joined call rs) r

-- the act after a reply to turn k
abbrev pub act_after : Call → ℕ → List ℕ → Heard → Option Asked
act_after call k body r = if goes_on call k r then turn_of call (suc k) body else None

-- the next act of a call after its replies so far; None is its end
abbrev pub sends : Call → Replies → Option Asked
sends call [] = turn_of call 0 []
sends call (r ∷ rs) = act_after call (length rs) (joined call (r ∷ rs)) r
