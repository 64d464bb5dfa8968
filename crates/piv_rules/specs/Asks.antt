-- What a command asks, before anything is known of the connection that sends it. In each table the first test that
-- fits decides (SP 800-73-4 part 2, whose sections are named; the order of the tests is this project's own).
use Rattle.std.specs.Prelude.{ℕ, Bool, not, ◌&&◌, ◌||◌, ◌==◌, List, length, take, drop, Option, Some, None, option_and_then, if◌then◌else◌}
use Rattle.ber_tlv.specs.Elements.{Element, elements_of}
use Rattle.piv_model.specs.declared.kinds.Application.{Application}
use Rattle.piv_model.specs.declared.kinds.RefId.{RefId}
use Rattle.piv_model.specs.declared.kinds.RefId.TheVariants.{Pin, Puk, GlobalPin}
use Rattle.piv_model.specs.declared.kinds.KeyId.{KeyId}
use Rattle.piv_model.specs.declared.kinds.KeyId.TheVariants.{AdminKey, CardAuth}
use Rattle.piv_model.specs.Commands.{CardCommand}
use Rattle.piv_model.specs.Objects.{discovery_place, place_of}
use Rattle.piv_model.specs.Base.{Profile}
use Rattle.piv_model.specs.ApplicationNames.{application_named}
use Rattle.piv_model.specs.Forms.{is_pin, is_pair, is_puk_and_pin}
use Rattle.piv_rules.specs.Forms.{tag_named, PutForm, DiscoveryForm, ObjectForm, put_named, Field, Absent, Empty, Sixteen, field, are_fields, fields_of}

-- what a comparison is for: VERIFY, CHANGE REFERENCE DATA with the new value, or RESET RETRY COUNTER with the new PIN
pub data Purpose : Type 0 where
  Verify : Purpose
  Change : List ℕ → Purpose
  Unblock : List ℕ → Purpose

pub data Ask : Type 0 where
  Refused : ℕ → Ask
  Select : Application → Ask
  Get : ℕ → Ask
  Put : ℕ → List ℕ → Ask
  Logout : RefId → Ask
  Query : RefId → Ask
  Compare : RefId → List ℕ → Purpose → Ask
  Internal : List ℕ → Ask
  AskChallenge : Ask
  External : List ℕ → Ask
  AskWitness : Ask
  Mutual : List ℕ → List ℕ → Ask

-- 6A 80 where the data aren't of the command's form
abbrev pub formed : {A : Type 0} → Option A → (A → Ask) → Ask
formed None f = Refused 0x6A80
formed (Some x) f = f x

-- 6A 82 where no object has the tag
abbrev pub found : Option ℕ → (ℕ → Ask) → Ask
found None f = Refused 0x6A82
found (Some id) f = f id

-- 6A 88 where the card has no such reference
abbrev pub known : Option RefId → (RefId → Ask) → Ask
known None f = Refused 0x6A88
known (Some r) f = f r

-- 6A 86 where the card has no such key, or the key another algorithm
abbrev pub keyed : Option KeyId → (KeyId → Ask) → Ask
keyed None f = Refused 0x6A86
keyed (Some key) f = f key

-- the header has these parameters
abbrev pub is_at : CardCommand → ℕ → ℕ → Bool
is_at k p1 p2 = (k.p1 == p1) && (k.p2 == p2)

-- SELECT (3.1.1); 6A 82 where no application has the name
abbrev pub named : Option Application → Ask
named None = Refused 0x6A82
named (Some a) = Select a

abbrev pub select_ask : CardCommand → Ask
select_ask k =
    if not (is_at k 0x04 0x00) then Refused 0x6A86
    else named (application_named k.body)

-- GET DATA (3.1.2)
abbrev pub get_ask : CardCommand → Ask
get_ask k =
    if not (is_at k 0x3F 0xFF) then Refused 0x6A86
    else formed (option_and_then tag_named (elements_of k.body)) (λ t. found (place_of t) Get)

-- PUT DATA (3.3.1)
abbrev pub put_asked : PutForm → Ask
put_asked (DiscoveryForm v) = Put discovery_place v
put_asked (ObjectForm t v) = found (place_of t) (λ id. Put id v)

abbrev pub put_ask : Profile → CardCommand → Ask
put_ask m k =
    if not (is_at k 0x3F 0xFF) then Refused 0x6A86
    else formed (option_and_then (put_named m) (elements_of k.body)) put_asked

-- VERIFY (3.2.1): P1 FF without data ends a login, P1 00 without data asks for it, P1 00 with a PIN compares
abbrev pub verified_reference : Profile → ℕ → Option RefId
verified_reference m p2 =
    if p2 == 0x80 then Some Pin
    else if (p2 == 0x00) && m.has_global then Some GlobalPin
    else None

abbrev pub verify_form : RefId → CardCommand → Ask
verify_form r k =
    if (k.p1 == 0xFF) && (length k.body == 0) then Logout r
    else if (k.p1 == 0x00) && (length k.body == 0) then Query r
    else if (k.p1 == 0x00) && is_pin k.body then Compare r k.body Verify
    else Refused 0x6A80

abbrev pub verify_ask : Profile → CardCommand → Ask
verify_ask m k =
    if not ((k.p1 == 0x00) || (k.p1 == 0xFF)) then Refused 0x6A86
    else known (verified_reference m k.p2) (λ r. verify_form r k)

-- CHANGE REFERENCE DATA (3.2.2): the old and the new value
abbrev pub changed_reference : Profile → ℕ → Option RefId
changed_reference m p2 = if p2 == 0x81 then Some Puk else verified_reference m p2

abbrev pub change_form : RefId → CardCommand → Ask
change_form r k =
    if is_pair r k.body then Compare r (take 8 k.body) (Change (drop 8 k.body))
    else Refused 0x6A80

abbrev pub change_ask : Profile → CardCommand → Ask
change_ask m k =
    if not (k.p1 == 0x00) then Refused 0x6A86
    else known (changed_reference m k.p2) (λ r. change_form r k)

-- RESET RETRY COUNTER (3.2.3): the PUK and the new PIN
abbrev pub unblock_ask : CardCommand → Ask
unblock_ask k =
    if not (k.p1 == 0x00) then Refused 0x6A86
    else if not (k.p2 == 0x80) then Refused 0x6A88
    else if is_puk_and_pin k.body then Compare Puk (take 8 k.body) (Unblock (drop 8 k.body))
    else Refused 0x6A80

-- GENERAL AUTHENTICATE (3.2.4): the key, and the fields Witness, Challenge and Response of its template
abbrev pub key_named : Profile → CardCommand → Option KeyId
key_named m k =
    if (k.p2 == 0x9B) && (k.p1 == m.admin_algorithm) then Some AdminKey
    else if (k.p2 == 0x9E) && (k.p1 == m.card_algorithm) then Some CardAuth
    else None

abbrev pub meant : KeyId → Field → Field → Field → Option Ask
meant CardAuth Absent (Sixteen x) Empty = Some (Internal x)
meant AdminKey Absent Empty Absent = Some AskChallenge
meant AdminKey Absent Absent (Sixteen x) = Some (External x)
meant AdminKey Empty Absent Absent = Some AskWitness
meant AdminKey (Sixteen w) (Sixteen x) Absent = Some (Mutual w x)
meant AdminKey (Sixteen w) (Sixteen x) Empty = Some (Mutual w x)
meant _ _ _ _ = None

abbrev pub auth_meant : KeyId → List Element → Option Ask
auth_meant key fields =
    if are_fields fields then meant key (field 0x80 fields) (field 0x81 fields) (field 0x82 fields) else None

abbrev pub authenticate_ask : Profile → CardCommand → Ask
authenticate_ask m k =
    keyed (key_named m k)
    (λ key. formed (option_and_then (auth_meant key) (option_and_then fields_of (elements_of k.body))) (λ a. a))

-- what a command asks
unfoldable pub ask : Profile → CardCommand → Ask
ask m k =
    if k.ins == 0xA4 then select_ask k
    else if k.ins == 0xCB then get_ask k
    else if k.ins == 0xDB then put_ask m k
    else if k.ins == 0x20 then verify_ask m k
    else if k.ins == 0x24 then change_ask m k
    else if k.ins == 0x2C then unblock_ask k
    else if k.ins == 0x87 then authenticate_ask m k
    else Refused 0x6D00
