-- The answer to a command, whose status word and data are read off an ordered table: the first line that fits decides
-- (SP 800-73-4 part 1, access rules; part 2, the commands of the card edge; the order of the lines is this project's own).
use Rattle.std.specs.Prelude.{ℕ, ◌-◌, Bool, true, false, not, ◌&&◌, ◌||◌, ◌==◌, List, [], ◌∷◌, length, slice_index, Option, Some, None, if◌then◌else◌}
use Rattle.std.specs.Str.{bytes_eq}
use Rattle.ber_tlv.specs.Elements.{spell}
use Rattle.piv_model.specs.declared.kinds.Application.TheVariants.{Piv, Idle}
use Rattle.piv_model.specs.declared.kinds.Interface.{Interface}
use Rattle.piv_model.specs.declared.kinds.Interface.TheVariants.{Contact, Contactless}
use Rattle.piv_model.specs.declared.kinds.Rule.{Rule}
use Rattle.piv_model.specs.declared.kinds.Rule.TheVariants as rule
use Rattle.piv_model.specs.declared.kinds.RefId.{RefId}
use Rattle.piv_model.specs.declared.kinds.RefId.TheVariants.{Pin, Puk, GlobalPin}
use Rattle.piv_model.specs.declared.kinds.KeyId.TheVariants.{AdminKey, CardAuth}
use Rattle.piv_model.specs.Commands.{CardCommand}
use Rattle.piv_model.specs.Entries.{Past}
use Rattle.piv_model.specs.Memory.{Memory, CardKey, reference, stored, fits}
use Rattle.piv_model.specs.Objects.{discovery_place, read_rule_of}
use Rattle.piv_model.specs.Rules.{use_rule_of}
use Rattle.piv_model.specs.Cipher.{encipher}
use Rattle.piv_model.specs.Base.{Base, Profile, profile}
use Rattle.piv_model.specs.StatusWords.{tries_word}
use Rattle.piv_rules.specs.declared.table.Conditions.{Conditions}
use Rattle.piv_rules.specs.Asks.{Ask, Refused, Select, Get, Put, Logout, Query, Compare, Internal, AskChallenge, External, AskWitness, Mutual, ask}
use Rattle.piv_rules.specs.Connections.{side}
use Rattle.piv_rules.specs.Logins.{Pending, NonePending, Challenge, Witness}
use Rattle.piv_rules.specs.Channels.{Channel, channel}
use Rattle.piv_rules.specs.Memories.{mem}
use Rattle.piv_rules.specs.RandomBlocks.{next_block}

-- what an answer depends on, beside the command: the connection's interface, its application, logins and pending block,
-- the card's next block and its memory
pub record Situation : Type 0 where
  pub interface : Interface
  pub channel : Channel
  pub next : List ℕ
  pub memory : Memory

abbrev pub situation : Memory → Interface → List ℕ → Channel → Situation
situation m i block x = record { interface = i; channel = x; next = block; memory = m }

-- that of a connection after a history
abbrev pub situation_of : Base → Past → ℕ → Situation
situation_of B H c = situation (mem B H) (side H c) (next_block B H) (channel B H c)

pub record Reply : Type 0 where
  pub word : ℕ
  pub body : List ℕ

-- a word without data
abbrev pub only : ℕ → Reply
only w = record { word = w; body = [] }

abbrev pub is_contact : Interface → Bool
is_contact Contact = true
is_contact Contactless = false

-- the Global PIN counts: the Discovery Object is present and the first byte of its policy is 60
abbrev pub global_counts : Memory → Bool
global_counts m = slice_index (stored m discovery_place) 16 == 0x60

-- an access rule holds
abbrev pub holds : Situation → Rule → Bool
holds s rule.Always = true
holds s rule.Pin = is_contact s.interface && (s.channel.pin || (s.channel.global && global_counts s.memory))
holds s rule.Never = false
holds s rule.Admin = is_contact s.interface && s.channel.admin
holds s rule.ContactUse = is_contact s.interface
holds s rule.Response = false

-- the rule that an ask needs
abbrev pub rule_of : Interface → Ask → Rule
rule_of i (Get id) = read_rule_of id i
rule_of i (Put id v) = rule.Admin
rule_of i (Logout r) = rule.ContactUse
rule_of i (Query r) = rule.ContactUse
rule_of i (Compare r p purpose) = rule.ContactUse
rule_of i AskChallenge = use_rule_of AdminKey
rule_of i (External x) = use_rule_of AdminKey
rule_of i AskWitness = use_rule_of AdminKey
rule_of i (Mutual w x) = use_rule_of AdminKey
rule_of i (Internal x) = use_rule_of CardAuth
rule_of i (Refused w) = rule.Always
rule_of i (Select a) = rule.Always

-- the status of a reference; the PUK has none
abbrev pub status : Channel → RefId → Bool
status x Pin = x.pin
status x GlobalPin = x.global
status x Puk = false

-- the tests of the lines
abbrev pub refusal : Ask → Option ℕ
refusal (Refused w) = Some w
refusal _ = None

abbrev pub is_challenge : Pending → Bool
is_challenge (Challenge block) = true
is_challenge (Witness block) = false
is_challenge NonePending = false

abbrev pub is_witness : Pending → Bool
is_witness (Witness block) = true
is_witness (Challenge block) = false
is_witness NonePending = false

abbrev pub lacks_pending : Pending → Ask → Bool
lacks_pending p (External x) = not (is_challenge p)
lacks_pending p (Mutual w x) = not (is_witness p)
lacks_pending p _ = false

-- E of a block under a key
abbrev pub enciphered : CardKey → List ℕ → List ℕ
enciphered key block = encipher key.key block

abbrev pub is_wrong_response : CardKey → List ℕ → Pending → Bool
is_wrong_response key x (Challenge block) = not (bytes_eq x (enciphered key block))
is_wrong_response key x _ = false

abbrev pub is_wrong_witness : List ℕ → Pending → Bool
is_wrong_witness w (Witness block) = not (bytes_eq w block)
is_wrong_witness w _ = false

abbrev pub is_wrong : CardKey → Pending → Ask → Bool
is_wrong key p (External x) = is_wrong_response key x p
is_wrong key p (Mutual w x) = is_wrong_witness w p
is_wrong key p _ = false

abbrev pub is_blocked : Memory → Ask → Bool
is_blocked m (Compare r p purpose) = (reference m r).tries == 0
is_blocked m _ = false

abbrev pub differs : Memory → Ask → Bool
differs m (Compare r p purpose) = not (bytes_eq p (reference m r).secret)
differs m _ = false

abbrev pub asks_unknown_login : Channel → Ask → Bool
asks_unknown_login x (Query r) = not (status x r)
asks_unknown_login x _ = false

abbrev pub is_absent : Memory → Ask → Bool
is_absent m (Get id) = length (stored m id) == 0
is_absent m _ = false

abbrev pub has_no_room : Memory → Ask → Bool
has_no_room m (Put id v) = not (fits m v)
has_no_room m _ = false

abbrev pub tries_left : Memory → Ask → ℕ
tries_left m (Compare r p purpose) = (reference m r).tries
tries_left m (Query r) = (reference m r).tries
tries_left m _ = 0

-- the application property template
abbrev pub piv_template : List ℕ
piv_template =
    0x61 ∷ 0x11 ∷ 0x4F ∷ 0x06 ∷ 0x00 ∷ 0x00 ∷ 0x10 ∷ 0x00 ∷ 0x01 ∷ 0x00
    ∷ 0x79 ∷ 0x07 ∷ 0x4F ∷ 0x05 ∷ 0xA0 ∷ 0x00 ∷ 0x00 ∷ 0x03 ∷ 0x08 ∷ []

-- a dynamic authentication template with this one field of 16 bytes
abbrev pub template_with : ℕ → List ℕ → List ℕ
template_with tag x = 0x7C ∷ 0x12 ∷ tag ∷ 0x10 ∷ x

-- an object's value as GET DATA gives it
abbrev pub object_data : ℕ → List ℕ → List ℕ
object_data id value = spell (if id == discovery_place then 0x7E else 0x53) value

-- the data of 90 00
abbrev pub data_of : Situation → Ask → List ℕ
data_of s (Get id) = object_data id (stored s.memory id)
data_of s AskChallenge = template_with 0x81 s.next
data_of s AskWitness = template_with 0x80 (enciphered s.memory.admin s.next)
data_of s (Mutual w x) = template_with 0x82 (enciphered s.memory.admin x)
data_of s (Internal x) = template_with 0x82 (enciphered s.memory.card_auth x)
data_of s (Select Piv) = piv_template
data_of s (Select Idle) = []
data_of s (Put id v) = []
data_of s (Logout r) = []
data_of s (Query r) = []
data_of s (Compare r p purpose) = []
data_of s (External x) = []
data_of s (Refused w) = []

-- the conditions that the memory alone decides
abbrev pub memory_conditions : Memory → Ask → Conditions
memory_conditions m a = record {
  piv = true;
  refusal = None;
  permitted = true;
  lacks_pending = false;
  wrong = false;
  blocked = is_blocked m a;
  differs = differs m a;
  unknown_login = false;
  absent = is_absent m a;
  no_room = has_no_room m a;
  tries = tries_left m a;
}

-- the conditions of the table's lines
abbrev pub conditions : Situation → Ask → Conditions
conditions s a = record (memory_conditions s.memory a) {
  piv = s.channel.piv;
  refusal = refusal a;
  permitted = holds s (rule_of s.interface a);
  lacks_pending = lacks_pending s.channel.pending a;
  wrong = is_wrong s.memory.admin s.channel.pending a;
  unknown_login = asks_unknown_login s.channel a;
}

-- the table: the first line that fits gives a word that refuses, and the last line grants
abbrev pub unless : {A : Type 0} → Option ℕ → (ℕ → A) → A → A
unless (Some w) refused next = refused w
unless None refused next = next

abbrev pub by_table : {A : Type 0} → (ℕ → A) → A → Conditions → A
by_table refused granted t =
    if not t.piv then refused 0x6D00
    else unless t.refusal refused
    (if not t.permitted then refused 0x6982
    else if t.lacks_pending then refused 0x6A80
    else if t.wrong then refused 0x6982
    else if t.blocked then refused 0x6983
    else if t.differs then refused (tries_word (t.tries - 1))
    else if t.unknown_login then refused (tries_word t.tries)
    else if t.absent then refused 0x6A82
    else if t.no_room then refused 0x6A84
    else granted)

-- the word, and the reply
abbrev pub word_by : Conditions → ℕ
word_by t = by_table (λ w. w) 0x9000 t

unfoldable pub answer_to : Situation → Ask → Reply
answer_to s a = by_table only (record { word = 0x9000; body = data_of s a }) (conditions s a)

-- SELECT is answered under either application
abbrev pub is_select : CardCommand → Bool
is_select k = k.ins == 0xA4

abbrev pub select_reply : Situation → Ask → Reply
select_reply s (Refused w) = only w
select_reply s a = record { word = 0x9000; body = data_of s a }

-- the answer to a command in a situation, and after a history
unfoldable pub answer_in : Profile → Situation → CardCommand → Reply
answer_in m s k = if is_select k then select_reply s (ask m k) else answer_to s (ask m k)

unfoldable pub answer : Base → Past → ℕ → CardCommand → Reply
answer B H c k = answer_in (profile B) (situation_of B H c) k
