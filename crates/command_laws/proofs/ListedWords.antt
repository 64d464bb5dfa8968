-- No other status word is answered.
use Rattle.std.specs.Prelude.{if◌then◌else◌, ◌==◌, not, option_and_then}
use Rattle.std.proofs.Common.{◌≡◌, ◌≤◌, ℕ, ◌-◌, Bool, true, false, List, Option, Some, None, refl, ap, sym, ◌∙◌, arith}
use Rattle.std.proofs.lemmas.Bool.Decides.{nat_tests}
use Rattle.ber_tlv.specs.Elements.{Element, elements_of}
use Rattle.piv_model.specs.declared.kinds.Application.{Application}
use Rattle.piv_model.specs.declared.kinds.RefId.{RefId}
use Rattle.piv_model.specs.declared.kinds.KeyId.{KeyId}
use Rattle.piv_model.specs.declared.kinds.KeyId.TheVariants.{AdminKey, CardAuth}
use Rattle.piv_model.specs.ApplicationNames.{application_named}
use Rattle.piv_model.specs.Commands.{CardCommand}
use Rattle.piv_model.specs.Memory.{reference}
use Rattle.piv_model.specs.Objects.{place_of}
use Rattle.piv_model.specs.Base.{Profile, profile}
use Rattle.piv_model.specs.StatusWords.{tries_word}
use Rattle.piv_rules.specs.declared.table.Conditions.{Conditions}
use Rattle.piv_rules.specs.Forms.{PutForm, DiscoveryForm, ObjectForm, tag_named, put_named, Field, Absent, Empty, Sixteen, field, fields_of, are_fields}
use Rattle.piv_rules.specs.Asks.{Ask, Refused, Get, Put, Query, Compare, formed, found, known, keyed, named, select_ask, get_ask, put_ask, put_asked, verify_ask, verify_form, verified_reference, change_ask, change_form, changed_reference, unblock_ask, authenticate_ask, key_named, auth_meant, meant, ask}
use Rattle.piv_rules.specs.Answers.{Situation, situation_of, is_select, refusal, tries_left, conditions, word_by, answer, answer_in, answer_to, select_reply}
use Rattle.piv_rules.proofs.TableLaws.{answer_to-word}
use Rattle.command_laws.specs.AnswerWords.{is_refusal_word, RefusalsAreListed, is_answer_word, AnswersAreListed}
use Rattle.command_laws.proofs.Limits.{few-tries}

abbrev is_listed : Ask → Bool
is_listed (Refused w) = is_refusal_word w
is_listed _ = true

formed-listed : {A : Type 0} (o : Option A) (f : A → Ask) → ((x : A) → is_listed (f x) ≡ true) → is_listed (formed o f) ≡ true
formed-listed None f h = refl
formed-listed (Some x) f h = h x

found-listed : (o : Option ℕ) (f : ℕ → Ask) → ((x : ℕ) → is_listed (f x) ≡ true) → is_listed (found o f) ≡ true
found-listed None f h = refl
found-listed (Some x) f h = h x

known-listed : (o : Option RefId) (f : RefId → Ask) → ((x : RefId) → is_listed (f x) ≡ true) → is_listed (known o f) ≡ true
known-listed None f h = refl
known-listed (Some x) f h = h x

keyed-listed : (o : Option KeyId) (f : KeyId → Ask) → ((x : KeyId) → is_listed (f x) ≡ true) → is_listed (keyed o f) ≡ true
keyed-listed None f h = refl
keyed-listed (Some x) f h = h x

named-listed : (o : Option Application) → is_listed (named o) ≡ true
named-listed None = refl
named-listed (Some a) = refl

select-listed : (k : CardCommand) → is_listed (select_ask k) ≡ true
select-listed k = let h = named-listed (application_named k.body) in grind (arith, nat_tests)

get-listed : (k : CardCommand) → is_listed (get_ask k) ≡ true
get-listed k =
    let h = formed-listed (option_and_then tag_named (elements_of k.body)) (λ t. found (place_of t) Get)
    (λ t. found-listed (place_of t) Get (λ id. refl)) in
    grind (arith, nat_tests)

put_asked-listed : (x : PutForm) → is_listed (put_asked x) ≡ true
put_asked-listed (DiscoveryForm v) = refl
put_asked-listed (ObjectForm t v) = found-listed (place_of t) (λ id. Put id v) (λ id. refl)

put-listed : (m : Profile) (k : CardCommand) → is_listed (put_ask m k) ≡ true
put-listed m k =
    let h = formed-listed (option_and_then (put_named m) (elements_of k.body)) put_asked put_asked-listed in
    grind (arith, nat_tests)

verify_form-listed : (r : RefId) (k : CardCommand) → is_listed (verify_form r k) ≡ true
verify_form-listed r k = grind (arith, nat_tests)

verify-listed : (m : Profile) (k : CardCommand) → is_listed (verify_ask m k) ≡ true
verify-listed m k =
    let h = known-listed (verified_reference m k.p2) (λ r. verify_form r k) (λ r. verify_form-listed r k) in
    grind (arith, nat_tests)

change_form-listed : (r : RefId) (k : CardCommand) → is_listed (change_form r k) ≡ true
change_form-listed r k = grind (arith, nat_tests)

change-listed : (m : Profile) (k : CardCommand) → is_listed (change_ask m k) ≡ true
change-listed m k =
    let h = known-listed (changed_reference m k.p2) (λ r. change_form r k) (λ r. change_form-listed r k) in
    grind (arith, nat_tests)

unblock-listed : (k : CardCommand) → is_listed (unblock_ask k) ≡ true
unblock-listed k = grind (arith, nat_tests)

abbrev is_listed_if_any : Option Ask → Bool
is_listed_if_any None = true
is_listed_if_any (Some a) = is_listed a

meant-listed : (key : KeyId) (w x y : Field) → is_listed_if_any (meant key w x y) ≡ true
meant-listed CardAuth Absent (Sixteen x) Empty = refl
meant-listed AdminKey Absent Empty Absent = refl
meant-listed AdminKey Absent Absent (Sixteen x) = refl
meant-listed AdminKey Empty Absent Absent = refl
meant-listed AdminKey (Sixteen w) (Sixteen x) Absent = refl
meant-listed AdminKey (Sixteen w) (Sixteen x) Empty = refl
meant-listed key w x y = refl

auth-listed : (key : KeyId) (o : Option (List Element)) → is_listed_if_any (option_and_then (auth_meant key) o) ≡ true
auth-listed key None = refl
auth-listed key (Some fields) = go (are_fields fields)
  where
    go : (b : Bool) → is_listed_if_any (if b then meant key (field 0x80 fields) (field 0x81 fields) (field 0x82 fields) else None) ≡ true
    go true = meant-listed key (field 0x80 fields) (field 0x81 fields) (field 0x82 fields)
    go false = refl

formed-any : (o : Option Ask) → is_listed_if_any o ≡ true → is_listed (formed o (λ a. a)) ≡ true
formed-any None h = refl
formed-any (Some a) h = h

authenticate-listed : (m : Profile) (k : CardCommand) → is_listed (authenticate_ask m k) ≡ true
authenticate-listed m k =
    keyed-listed (key_named m k)
    (λ key. formed (option_and_then (auth_meant key) (option_and_then fields_of (elements_of k.body))) (λ a. a))
    (λ key. formed-any (option_and_then (auth_meant key) (option_and_then fields_of (elements_of k.body)))
    (auth-listed key (option_and_then fields_of (elements_of k.body))))

-- the first of these instructions that fits
one-of : (b1 b2 b3 b4 b5 b6 b7 : Bool) (a1 a2 a3 a4 a5 a6 a7 : Ask) → is_listed a1 ≡ true → is_listed a2 ≡ true → is_listed a3 ≡ true
    → is_listed a4 ≡ true → is_listed a5 ≡ true → is_listed a6 ≡ true → is_listed a7 ≡ true
    → is_listed (if b1 then a1 else if b2 then a2 else if b3 then a3 else if b4 then a4
    else if b5 then a5 else if b6 then a6 else if b7 then a7 else Refused 0x6D00) ≡ true
one-of true b2 b3 b4 b5 b6 b7 a1 a2 a3 a4 a5 a6 a7 h1 h2 h3 h4 h5 h6 h7 = h1
one-of false true b3 b4 b5 b6 b7 a1 a2 a3 a4 a5 a6 a7 h1 h2 h3 h4 h5 h6 h7 = h2
one-of false false true b4 b5 b6 b7 a1 a2 a3 a4 a5 a6 a7 h1 h2 h3 h4 h5 h6 h7 = h3
one-of false false false true b5 b6 b7 a1 a2 a3 a4 a5 a6 a7 h1 h2 h3 h4 h5 h6 h7 = h4
one-of false false false false true b6 b7 a1 a2 a3 a4 a5 a6 a7 h1 h2 h3 h4 h5 h6 h7 = h5
one-of false false false false false true b7 a1 a2 a3 a4 a5 a6 a7 h1 h2 h3 h4 h5 h6 h7 = h6
one-of false false false false false false true a1 a2 a3 a4 a5 a6 a7 h1 h2 h3 h4 h5 h6 h7 = h7
one-of false false false false false false false a1 a2 a3 a4 a5 a6 a7 h1 h2 h3 h4 h5 h6 h7 = refl

ask-listed : (m : Profile) (k : CardCommand) → is_listed (ask m k) ≡ true
unfolding ask
ask-listed m k =
    one-of (k.ins == 0xA4) (k.ins == 0xCB) (k.ins == 0xDB) (k.ins == 0x20) (k.ins == 0x24)
    (k.ins == 0x2C) (k.ins == 0x87) (select_ask k) (get_ask k) (put_ask m k) (verify_ask m k) (change_ask m k) (unblock_ask k)
    (authenticate_ask m k) (select-listed k) (get-listed k) (put-listed m k) (verify-listed m k) (change-listed m k)
    (unblock-listed k) (authenticate-listed m k)

pub RefusalsAreListed-law : RefusalsAreListed
RefusalsAreListed-law B k w h = sym (ap is_listed h) ∙ ask-listed (profile B) k

-- ---- answers

abbrev is_refusal_if_any : Option ℕ → Bool
is_refusal_if_any None = true
is_refusal_if_any (Some w) = is_refusal_word w

refused-listed : (a : Ask) → is_listed a ≡ true → is_refusal_if_any (refusal a) ≡ true
refused-listed (Refused w) h = h
refused-listed a h = refl

few-left : (s : Situation) (a : Ask) → ((r : RefId) → (reference s.memory r).tries ≤ 15) → tries_left s.memory a ≤ 15
few-left s (Compare r p purpose) few = few r
few-left s (Query r) few = few r
few-left s a few = omega arith

mismatch-listed : (n : ℕ) → n ≤ 15 → is_answer_word (tries_word n) ≡ true
mismatch-listed n h = grind (arith, nat_tests)

refusal-listed : (w : ℕ) → is_refusal_word w ≡ true → is_answer_word w ≡ true
refusal-listed w h = rw h refl

-- the word of the first line that fits
later-listed : (held lacks wrong blocked unequal unknown absent full : Bool) (n : ℕ) → n ≤ 15
    → is_answer_word (if not held then 0x6982
    else if lacks then 0x6A80
    else if wrong then 0x6982
    else if blocked then 0x6983
    else if unequal then tries_word (n - 1)
    else if unknown then tries_word n
    else if absent then 0x6A82
    else if full then 0x6A84
    else 0x9000) ≡ true
later-listed false lacks wrong blocked unequal unknown absent full n few = refl
later-listed true true wrong blocked unequal unknown absent full n few = refl
later-listed true false true blocked unequal unknown absent full n few = refl
later-listed true false false true unequal unknown absent full n few = refl
later-listed true false false false true unknown absent full n few = mismatch-listed (n - 1) (omega (arith, few))
later-listed true false false false false true absent full n few = mismatch-listed n few
later-listed true false false false false false true full n few = refl
later-listed true false false false false false false true n few = refl
later-listed true false false false false false false false n few = refl

word_by-listed : (t : Conditions) → is_refusal_if_any t.refusal ≡ true → t.tries ≤ 15 → is_answer_word (word_by t) ≡ true
word_by-listed t listed few = go t.piv t.refusal listed (later-listed t.permitted t.lacks_pending t.wrong t.blocked t.differs t.unknown_login t.absent t.no_room t.tries few)
  where
    go : (piv : Bool) (refused : Option ℕ) → is_refusal_if_any refused ≡ true → is_answer_word (word_by (record t { piv = true; refusal = None })) ≡ true
        → is_answer_word (word_by (record t { piv = piv; refusal = refused })) ≡ true
    go false o h k = refl
    go true (Some w) h k = refusal-listed w h
    go true None h k = k

answer_to-listed : (s : Situation) (a : Ask) → is_listed a ≡ true → tries_left s.memory a ≤ 15 → is_answer_word (answer_to s a).word ≡ true
answer_to-listed s a listed few =
    ap is_answer_word (answer_to-word s a) ∙ word_by-listed (conditions s a) (refused-listed a listed) few

select-word : (s : Situation) (a : Ask) → is_listed a ≡ true → is_answer_word (select_reply s a).word ≡ true
select-word s (Refused w) h = refusal-listed w h
select-word s a h = refl

pub AnswersAreListed-law : AnswersAreListed
unfolding answer answer_in
AnswersAreListed-law B H c k valid = go (is_select k)
  where
    go : (b : Bool) → is_answer_word (if b then select_reply (situation_of B H c) (ask (profile B) k) else answer_to (situation_of B H c) (ask (profile B) k)).word ≡ true
    go true = select-word (situation_of B H c) (ask (profile B) k) (ask-listed (profile B) k)
    go false =
        answer_to-listed (situation_of B H c) (ask (profile B) k) (ask-listed (profile B) k)
        (few-left (situation_of B H c) (ask (profile B) k) (few-tries B H valid))
