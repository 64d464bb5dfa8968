-- When each status word comes, for each thing that a command can ask: by the applications, logins and memory that the
-- history gives, and apart from the order of the table of answers (SP 800-73-4 part 2, the status words of the commands;
-- part 1, access rules). What a command asks, the access rule of an object, the room and the templates of the data are the
-- definitions that the table uses too.
use Rattle.std.specs.Prelude.{◌==◌, ◌||◌, ◌∷◌, [], ◌≡◌, ◌≢◌, ◌↔◌, ◌⊎◌, ◌≤◌, ◌<◌, ℕ, ◌-◌, Bool, true, false, List, length, Option, Some, None, IsTrue}
use Rattle.std.specs.List.{list_any}
use Rattle.std.specs.Str.{bytes_eq}
use Rattle.piv_model.specs.declared.kinds.Application.TheVariants.{Piv, Idle}
use Rattle.piv_model.specs.declared.kinds.Interface.TheVariants.{Contact, Contactless}
use Rattle.piv_model.specs.declared.kinds.Rule.{Rule}
use Rattle.piv_model.specs.declared.kinds.Rule.TheVariants as rule
use Rattle.piv_model.specs.declared.kinds.RefId.{RefId}
use Rattle.piv_model.specs.declared.kinds.RefId.TheVariants.{Pin, Puk, GlobalPin}
use Rattle.piv_model.specs.Commands.{CardCommand}
use Rattle.piv_model.specs.Entries.{Past}
use Rattle.piv_model.specs.Memory.{has, fits}
use Rattle.piv_model.specs.Objects.{read_rule_of}
use Rattle.piv_model.specs.Base.{Base, profile, is_valid}
use Rattle.piv_model.specs.StatusWords.{tries_word}
use Rattle.piv_rules.specs.declared.lookback.Login.TheVariants as login
use Rattle.piv_rules.specs.StatusWords.{is_mismatched}
use Rattle.piv_rules.specs.Asks.{Ask, Refused, Select, Get, Put, Logout, Query, Compare, Internal, AskChallenge, External, AskWitness, Mutual, Purpose, ask}
use Rattle.piv_rules.specs.Connections.{side, selected}
use Rattle.piv_rules.specs.Logins.{in_force, Pending, NonePending, Challenge, Witness, pending}
use Rattle.piv_rules.specs.Memories.{mem, tries, secret, object}
use Rattle.piv_rules.specs.RandomBlocks.{next_block}
use Rattle.piv_rules.specs.Answers.{Reply, only, is_select, global_counts, enciphered, object_data, template_with, piv_template, answer}

-- a command other than SELECT that asks this
abbrev pub AsksFor : Base → CardCommand → Ask → Type 0
AsksFor B k a = (is_select k ≡ false) × (ask (profile B) k ≡ a)

-- PIV is selected on a connection on contact
abbrev pub IsReady : Base → Past → ℕ → Type 0
IsReady B H c = (selected B H c ≡ true) × (side H c ≡ Contact)

-- PIV is selected on a contactless connection, where the command asks for contact
abbrev pub IsElsewhere : Base → Past → ℕ → Type 0
IsElsewhere B H c = (selected B H c ≡ true) × (side H c ≡ Contactless)

-- the connection and the logins in force on it allow what has this access rule
abbrev pub Allows : Base → Past → ℕ → Rule → Type 0
Allows B H c rule.Always = Unit {0}
Allows B H c rule.ContactUse = side H c ≡ Contact
Allows B H c rule.Pin =
    (side H c ≡ Contact)
    × ((in_force B H c login.Pin ≡ true) ⊎ ((in_force B H c login.Global ≡ true) × (global_counts (mem B H) ≡ true)))
Allows B H c rule.Admin = (side H c ≡ Contact) × (in_force B H c login.Admin ≡ true)
Allows B H c rule.Never = ⊥
Allows B H c rule.Response = ⊥

-- an object's access rule for reading, on the connection's side
abbrev pub MayRead : Base → Past → ℕ → ℕ → Type 0
MayRead B H c id = Allows B H c (read_rule_of id (side H c))

-- a login by a reference is in force; the PUK gives none
abbrev pub is_logged_in : Base → Past → ℕ → RefId → Bool
is_logged_in B H c Pin = in_force B H c login.Pin
is_logged_in B H c GlobalPin = in_force B H c login.Global
is_logged_in B H c Puk = false

-- the reply to a command whose only bars are the application and the contact interface
pub record IsServedOnContact (B : Base) (H : Past) (c : ℕ) (r : Reply) : Type 0 where
  pub unselected : (r.word ≡ 0x6D00) ↔ (selected B H c ≡ false)
  pub denied : (r.word ≡ 0x6982) ↔ IsElsewhere B H c
  pub served : (r.word ≡ 0x9000) ↔ IsReady B H c

-- SELECT is answered whatever is selected
abbrev pub SelectWords : Type 0
SelectWords = (B : Base) (H : Past) (c : ℕ) (k : CardCommand) → is_select k ≡ true
    → ((w : ℕ) → ask (profile B) k ≡ Refused w → answer B H c k ≡ only w)
    × (ask (profile B) k ≡ Select Piv → answer B H c k ≡ record { word = 0x9000; body = piv_template })
    × (ask (profile B) k ≡ Select Idle → answer B H c k ≡ only 0x9000)

-- a command of no good form
abbrev pub RefusedWords : Type 0
RefusedWords = (B : Base) (H : Past) (c : ℕ) (k : CardCommand) (w : ℕ) → AsksFor B k (Refused w)
    → (selected B H c ≡ false → answer B H c k ≡ only 0x6D00) × (selected B H c ≡ true → answer B H c k ≡ only w)

-- GET DATA
pub record IsGetReply (B : Base) (H : Past) (c id : ℕ) (r : Reply) : Type 0 where
  pub unselected : (r.word ≡ 0x6D00) ↔ (selected B H c ≡ false)
  pub denied : (r.word ≡ 0x6982) ↔ ((selected B H c ≡ true) × ¬ (MayRead B H c id))
  pub absent : (r.word ≡ 0x6A82) ↔ ((selected B H c ≡ true) × MayRead B H c id × (length (object B H id) ≡ 0))
  pub served : (r.word ≡ 0x9000) ↔ ((selected B H c ≡ true) × MayRead B H c id × (length (object B H id) ≢ 0))
  pub value : r.word ≡ 0x9000 → r.body ≡ object_data id (object B H id)

abbrev pub GetWords : Type 0
GetWords = (B : Base) (H : Past) (c id : ℕ) (k : CardCommand) → AsksFor B k (Get id) → id ≤ 32
    → IsGetReply B H c id (answer B H c k)

-- PUT DATA
pub record IsPutReply (B : Base) (H : Past) (c : ℕ) (v : List ℕ) (r : Reply) : Type 0 where
  pub unselected : (r.word ≡ 0x6D00) ↔ (selected B H c ≡ false)
  pub denied : (r.word ≡ 0x6982) ↔ ((selected B H c ≡ true) × ¬ (Allows B H c rule.Admin))
  pub full : (r.word ≡ 0x6A84) ↔ ((selected B H c ≡ true) × Allows B H c rule.Admin × (fits (mem B H) v ≡ false))
  pub served : (r.word ≡ 0x9000) ↔ ((selected B H c ≡ true) × Allows B H c rule.Admin × (fits (mem B H) v ≡ true))

abbrev pub PutWords : Type 0
PutWords = (B : Base) (H : Past) (c id : ℕ) (v : List ℕ) (k : CardCommand) → AsksFor B k (Put id v)
    → IsPutReply B H c v (answer B H c k)

-- a comparison: VERIFY, CHANGE REFERENCE DATA and RESET RETRY COUNTER
pub record IsCompareReply (B : Base) (H : Past) (c : ℕ) (ref : RefId) (p : List ℕ) (r : Reply) : Type 0 where
  pub unselected : (r.word ≡ 0x6D00) ↔ (selected B H c ≡ false)
  pub denied : (r.word ≡ 0x6982) ↔ IsElsewhere B H c
  pub blocked : (r.word ≡ 0x6983) ↔ (IsReady B H c × (tries B H ref ≡ 0))
  pub differs : (is_mismatched r.word ≡ true)
      ↔ (IsReady B H c × (0 < tries B H ref) × (bytes_eq p (secret B H ref) ≡ false))
  pub left : is_mismatched r.word ≡ true → r.word ≡ tries_word (tries B H ref - 1)
  pub served : (r.word ≡ 0x9000)
      ↔ (IsReady B H c × (0 < tries B H ref) × (bytes_eq p (secret B H ref) ≡ true))

abbrev pub CompareWords : Type 0
CompareWords = (B : Base) (H : Past) (c : ℕ) (ref : RefId) (p : List ℕ) (purpose : Purpose) (k : CardCommand)
    → IsTrue (is_valid B) → IsTrue (has B.memory ref) → AsksFor B k (Compare ref p purpose)
    → IsCompareReply B H c ref p (answer B H c k)

-- VERIFY without data asks whether a login is in force
pub record IsQueryReply (B : Base) (H : Past) (c : ℕ) (ref : RefId) (r : Reply) : Type 0 where
  pub unselected : (r.word ≡ 0x6D00) ↔ (selected B H c ≡ false)
  pub denied : (r.word ≡ 0x6982) ↔ IsElsewhere B H c
  pub differs : (is_mismatched r.word ≡ true) ↔ (IsReady B H c × (is_logged_in B H c ref ≡ false))
  pub left : is_mismatched r.word ≡ true → r.word ≡ tries_word (tries B H ref)
  pub served : (r.word ≡ 0x9000) ↔ (IsReady B H c × (is_logged_in B H c ref ≡ true))

abbrev pub QueryWords : Type 0
QueryWords = (B : Base) (H : Past) (c : ℕ) (ref : RefId) (k : CardCommand)
    → IsTrue (is_valid B) → IsTrue (has B.memory ref) → AsksFor B k (Query ref)
    → IsQueryReply B H c ref (answer B H c k)

-- VERIFY with P1 FF
abbrev pub LogoutWords : Type 0
LogoutWords = (B : Base) (H : Past) (c : ℕ) (ref : RefId) (k : CardCommand) → AsksFor B k (Logout ref)
    → IsServedOnContact B H c (answer B H c k)

-- GENERAL AUTHENTICATE that asks for a challenge or a Witness
abbrev pub RequestWords : Type 0
RequestWords = (B : Base) (H : Past) (c : ℕ) (k : CardCommand)
    → (AsksFor B k AskChallenge → IsServedOnContact B H c (answer B H c k)
    × ((answer B H c k).word ≡ 0x9000 → (answer B H c k).body ≡ template_with 0x81 (next_block B H)))
    × (AsksFor B k AskWitness → IsServedOnContact B H c (answer B H c k)
    × ((answer B H c k).word ≡ 0x9000
    → (answer B H c k).body ≡ template_with 0x80 (enciphered B.memory.admin (next_block B H))))

-- GENERAL AUTHENTICATE that answers a challenge, or a Witness: with what is right for what is pending, if it is
pub record IsResponseReply (B : Base) (H : Past) (c : ℕ) (right : Option Bool) (r : Reply) : Type 0 where
  pub unselected : (r.word ≡ 0x6D00) ↔ (selected B H c ≡ false)
  pub denied : (r.word ≡ 0x6982) ↔ (IsElsewhere B H c ⊎ (IsReady B H c × (right ≡ Some false)))
  pub not_pending : (r.word ≡ 0x6A80) ↔ (IsReady B H c × (right ≡ None))
  pub served : (r.word ≡ 0x9000) ↔ (IsReady B H c × (right ≡ Some true))

abbrev pub right_response : Base → List ℕ → Pending → Option Bool
right_response B x (Challenge block) = Some (bytes_eq x (enciphered B.memory.admin block))
right_response B x (Witness block) = None
right_response B x NonePending = None

abbrev pub right_witness : List ℕ → Pending → Option Bool
right_witness w (Witness block) = Some (bytes_eq w block)
right_witness w (Challenge block) = None
right_witness w NonePending = None

abbrev pub ResponseWords : Type 0
ResponseWords = (B : Base) (H : Past) (c : ℕ) (k : CardCommand)
    → ((x : List ℕ) → AsksFor B k (External x)
    → IsResponseReply B H c (right_response B x (pending B H c)) (answer B H c k))
    × ((w x : List ℕ) → AsksFor B k (Mutual w x)
    → IsResponseReply B H c (right_witness w (pending B H c)) (answer B H c k)
    × ((answer B H c k).word ≡ 0x9000 → (answer B H c k).body ≡ template_with 0x82 (enciphered B.memory.admin x)))

-- GENERAL AUTHENTICATE with the card's own key
abbrev pub InternalWords : Type 0
InternalWords = (B : Base) (H : Past) (c : ℕ) (x : List ℕ) (k : CardCommand) → AsksFor B k (Internal x)
    → (selected B H c ≡ false → answer B H c k ≡ only 0x6D00)
    × (selected B H c ≡ true
    → answer B H c k ≡ record { word = 0x9000; body = template_with 0x82 (enciphered B.memory.card_auth x) })

-- the words by which a command of no good form is refused
abbrev pub is_refusal_word : ℕ → Bool
is_refusal_word w = list_any (λ x. x == w) (0x6A80 ∷ 0x6A82 ∷ 0x6A86 ∷ 0x6A88 ∷ 0x6D00 ∷ [])

abbrev pub RefusalsAreListed : Type 0
RefusalsAreListed = (B : Base) (k : CardCommand) (w : ℕ) → ask (profile B) k ≡ Refused w → IsTrue (is_refusal_word w)

-- no other word than these is answered to an executed command
abbrev pub is_answer_word : ℕ → Bool
is_answer_word w =
    is_refusal_word w || is_mismatched w
    || list_any (λ x. x == w) (0x6982 ∷ 0x6983 ∷ 0x6A84 ∷ 0x9000 ∷ [])

abbrev pub AnswersAreListed : Type 0
AnswersAreListed = (B : Base) (H : Past) (c : ℕ) (k : CardCommand)
    → IsTrue (is_valid B) → IsTrue (is_answer_word (answer B H c k).word)

-- a reply of any other word than 90 00 has no data
abbrev pub RefusalsHaveNoData : Type 0
RefusalsHaveNoData = (B : Base) (H : Past) (c : ℕ) (k : CardCommand)
    → ((answer B H c k).word ≡ 0x9000 → ⊥) → (answer B H c k).body ≡ []
