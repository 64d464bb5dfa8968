-- The words of a command are those of its instruction.
use Rattle.std.proofs.Common.{◌≡◌, ℕ, ◌≤◌, Bool, true, false, List, length, take, drop, Option, Some, None, Result, Ok, Err, IfOk, refl, sym, subst, IsTrue, arith}
use Rattle.std.specs.Prelude.{◌&&◌, ◌||◌, ◌==◌, not, option_and_then, if◌then◌else◌}
use Rattle.std.proofs.lemmas.Bool.Decides.{nat_tests}
use Rattle.ber_tlv.specs.Elements.{Element, elements_of}
use Rattle.piv_model.specs.declared.kinds.RefId.{RefId}
use Rattle.piv_model.specs.declared.kinds.RefId.TheVariants.{Puk}
use Rattle.piv_model.specs.declared.kinds.KeyId.{KeyId}
use Rattle.piv_model.specs.declared.kinds.KeyId.TheVariants.{AdminKey, CardAuth}
use Rattle.piv_model.specs.StatusWords.{tries_word}
use Rattle.piv_model.specs.Commands.{CardCommand}
use Rattle.piv_model.specs.Objects.{place_of}
use Rattle.piv_model.specs.Forms.{is_pin, is_pair, is_puk_and_pin}
use Rattle.piv_model.specs.Base.{Profile}
use Rattle.piv_rules.specs.Forms.{PutForm, DiscoveryForm, ObjectForm, tag_named, put_named, Field, Absent, Empty, Sixteen, field, fields_of, are_fields}
use Rattle.piv_rules.specs.Asks.{Ask, Refused, Get, Put, Logout, Query, Compare, Verify, Change, Unblock, formed, found, known, keyed, is_at, select_ask, get_ask, put_ask, put_asked, verify_ask, verify_form, verified_reference, change_ask, change_form, changed_reference, unblock_ask, authenticate_ask, key_named, auth_meant, meant, ask}
use Rattle.piv_rules.specs.StatusWords.{is_mismatched}
use Rattle.card_commands.specs.declared.executed.Broken.{Broken}
use Rattle.card_commands.specs.declared.executed.Executed.{Executed}
use Rattle.card_commands.specs.Words.{or_unserved, is_get_word, is_put_word, is_compare_word, is_auth_word, is_word_of, is_word_for}

pub tries-listed : (left : ℕ) → left ≤ 15 → IsTrue (is_compare_word (tries_word left))
tries-listed left few = let h : is_mismatched (tries_word left) ≡ true = grind (arith, nat_tests) in rw h refl

pub itself-listed : (w : ℕ) → IsTrue (w == w)
itself-listed w = grind (arith, nat_tests)

pub ruleset listed = (tries-listed, itself-listed)

-- ---- each ask, by its instruction

abbrev IsWithin : (ℕ → Bool) → Ask → Type 0
IsWithin is_word a = (sw : ℕ) → is_word_for a sw ≡ true → or_unserved is_word sw ≡ true

served : (is_word : ℕ → Bool) (sw : ℕ) → is_word sw ≡ true → or_unserved is_word sw ≡ true
served is_word sw h = go (sw == 0x6D00)
  where
    go : (b : Bool) → (b || is_word sw) ≡ true
    go true = refl
    go false = h

refused : (is_word : ℕ → Bool) (w : ℕ) → or_unserved is_word w ≡ true → IsWithin is_word (Refused w)
refused is_word w h sw e =
    let is : w ≡ sw = grind (arith, nat_tests) in
    subst (λ (x : ℕ). or_unserved is_word x ≡ true) is h

either : (is_word : ℕ → Bool) (b : Bool) (x y : Ask) → IsWithin is_word x → IsWithin is_word y → IsWithin is_word (if b then x else y)
either is_word true x y h k = h
either is_word false x y h k = k

formed-within : {A : Type 0} (is_word : ℕ → Bool) (o : Option A) (f : A → Ask) → or_unserved is_word 0x6A80 ≡ true
    → ((x : A) → IsWithin is_word (f x)) → IsWithin is_word (formed o f)
formed-within is_word None f w h = refused is_word 0x6A80 w
formed-within is_word (Some x) f w h = h x

found-within : (is_word : ℕ → Bool) (o : Option ℕ) (f : ℕ → Ask) → or_unserved is_word 0x6A82 ≡ true
    → ((x : ℕ) → IsWithin is_word (f x)) → IsWithin is_word (found o f)
found-within is_word None f w h = refused is_word 0x6A82 w
found-within is_word (Some x) f w h = h x

known-within : (is_word : ℕ → Bool) (o : Option RefId) (f : RefId → Ask) → or_unserved is_word 0x6A88 ≡ true
    → ((x : RefId) → IsWithin is_word (f x)) → IsWithin is_word (known o f)
known-within is_word None f w h = refused is_word 0x6A88 w
known-within is_word (Some x) f w h = h x

keyed-within : (is_word : ℕ → Bool) (o : Option KeyId) (f : KeyId → Ask) → or_unserved is_word 0x6A86 ≡ true
    → ((x : KeyId) → IsWithin is_word (f x)) → IsWithin is_word (keyed o f)
keyed-within is_word None f w h = refused is_word 0x6A86 w
keyed-within is_word (Some x) f w h = h x

get-within : (k : CardCommand) → IsWithin is_get_word (get_ask k)
get-within k =
    either is_get_word (not (is_at k 0x3F 0xFF)) (Refused 0x6A86) _ (refused is_get_word 0x6A86 refl)
    (formed-within is_get_word (option_and_then tag_named (elements_of k.body)) (λ t. found (place_of t) Get) refl
    (λ t. found-within is_get_word (place_of t) Get refl (λ id sw h. served is_get_word sw h)))

put-asked-within : (x : PutForm) → IsWithin is_put_word (put_asked x)
put-asked-within (DiscoveryForm v) = λ sw h. served is_put_word sw h
put-asked-within (ObjectForm t v) = found-within is_put_word (place_of t) (λ id. Put id v) refl (λ id sw h. served is_put_word sw h)

put-within : (m : Profile) (k : CardCommand) → IsWithin is_put_word (put_ask m k)
put-within m k =
    either is_put_word (not (is_at k 0x3F 0xFF)) (Refused 0x6A86) _ (refused is_put_word 0x6A86 refl)
    (formed-within is_put_word (option_and_then (put_named m) (elements_of k.body)) put_asked refl put-asked-within)

abbrev IsCompared : Ask → Type 0
IsCompared = IsWithin is_compare_word

no-form : IsCompared (Refused 0x6A80)
no-form = refused is_compare_word 0x6A80 refl

verify-form-within : (r : RefId) (k : CardCommand) → IsCompared (verify_form r k)
verify-form-within r k =
    let compared = if (k.p1 == 0x00) && is_pin k.body then Compare r k.body Verify else Refused 0x6A80 in
    let asked = if (k.p1 == 0x00) && (length k.body == 0) then Query r else compared in
    either is_compare_word ((k.p1 == 0xFF) && (length k.body == 0)) (Logout r) asked (served is_compare_word)
    (either is_compare_word ((k.p1 == 0x00) && (length k.body == 0)) (Query r) compared (served is_compare_word)
    (either is_compare_word ((k.p1 == 0x00) && is_pin k.body) (Compare r k.body Verify) (Refused 0x6A80) (served is_compare_word) no-form))

verify-within : (m : Profile) (k : CardCommand) → IsCompared (verify_ask m k)
verify-within m k =
    either is_compare_word (not ((k.p1 == 0x00) || (k.p1 == 0xFF))) (Refused 0x6A86) (known (verified_reference m k.p2) (λ r. verify_form r k))
    (refused is_compare_word 0x6A86 refl)
    (known-within is_compare_word (verified_reference m k.p2) (λ r. verify_form r k) refl (λ r. verify-form-within r k))

change-form-within : (r : RefId) (k : CardCommand) → IsCompared (change_form r k)
change-form-within r k =
    either is_compare_word (is_pair r k.body) (Compare r (take 8 k.body) (Change (drop 8 k.body))) (Refused 0x6A80) (served is_compare_word) no-form

change-within : (m : Profile) (k : CardCommand) → IsCompared (change_ask m k)
change-within m k =
    either is_compare_word (not (k.p1 == 0x00)) (Refused 0x6A86) (known (changed_reference m k.p2) (λ r. change_form r k))
    (refused is_compare_word 0x6A86 refl)
    (known-within is_compare_word (changed_reference m k.p2) (λ r. change_form r k) refl (λ r. change-form-within r k))

unblock-within : (k : CardCommand) → IsCompared (unblock_ask k)
unblock-within k =
    let compared = Compare Puk (take 8 k.body) (Unblock (drop 8 k.body)) in
    let formed = if is_puk_and_pin k.body then compared else Refused 0x6A80 in
    let named = if not (k.p2 == 0x80) then Refused 0x6A88 else formed in
    either is_compare_word (not (k.p1 == 0x00)) (Refused 0x6A86) named (refused is_compare_word 0x6A86 refl)
    (either is_compare_word (not (k.p2 == 0x80)) (Refused 0x6A88) formed (refused is_compare_word 0x6A88 refl)
    (either is_compare_word (is_puk_and_pin k.body) compared (Refused 0x6A80) (served is_compare_word) no-form))

abbrev IsWithinIfAny : Option Ask → Type 0
IsWithinIfAny None = Unit {0}
IsWithinIfAny (Some a) = IsWithin is_auth_word a

meant-within : (key : KeyId) (w x y : Field) → IsWithinIfAny (meant key w x y)
meant-within CardAuth Absent (Sixteen x) Empty = λ sw h. served is_auth_word sw h
meant-within AdminKey Absent Empty Absent = λ sw h. served is_auth_word sw h
meant-within AdminKey Absent Absent (Sixteen x) = λ sw h. served is_auth_word sw h
meant-within AdminKey Empty Absent Absent = λ sw h. served is_auth_word sw h
meant-within AdminKey (Sixteen w) (Sixteen x) Absent = λ sw h. served is_auth_word sw h
meant-within AdminKey (Sixteen w) (Sixteen x) Empty = λ sw h. served is_auth_word sw h
meant-within key w x y = tt

auth-within : (key : KeyId) (o : Option (List Element)) → IsWithinIfAny (option_and_then (auth_meant key) o)
auth-within key None = tt
auth-within key (Some fields) = go (are_fields fields)
  where
    go : (b : Bool) → IsWithinIfAny (if b then meant key (field 0x80 fields) (field 0x81 fields) (field 0x82 fields) else None)
    go true = meant-within key (field 0x80 fields) (field 0x81 fields) (field 0x82 fields)
    go false = tt

formed-any : (o : Option Ask) → IsWithinIfAny o → IsWithin is_auth_word (formed o (λ a. a))
formed-any None h = refused is_auth_word 0x6A80 refl
formed-any (Some a) h = h

authenticate-within : (m : Profile) (k : CardCommand) → IsWithin is_auth_word (authenticate_ask m k)
authenticate-within m k =
    keyed-within is_auth_word (key_named m k)
    (λ key. formed (option_and_then (auth_meant key) (option_and_then fields_of (elements_of k.body))) (λ a. a)) refl
    (λ key. formed-any (option_and_then (auth_meant key) (option_and_then fields_of (elements_of k.body)))
    (auth-within key (option_and_then fields_of (elements_of k.body))))

-- a command other than SELECT
abbrev by_tests : (get put verify change unblock authenticate : Bool) → ℕ → Bool
by_tests get put verify change unblock authenticate sw =
    if get then is_get_word sw
    else if put then is_put_word sw
    else if (verify || change) || unblock then is_compare_word sw
    else if authenticate then is_auth_word sw
    else false

other-within : (m : Profile) (k : CardCommand) (sw : ℕ) → (k.ins == 0xA4) ≡ false → is_word_for (ask m k) sw ≡ true → is_word_of k.ins sw ≡ true
unfolding ask
other-within m k sw other =
    go (k.ins == 0xA4) (k.ins == 0xCB) (k.ins == 0xDB) (k.ins == 0x20) (k.ins == 0x24) (k.ins == 0x2C) (k.ins == 0x87) other
  where
    go : (select get put verify change unblock authenticate : Bool) → select ≡ false
        → is_word_for (if select then select_ask k else if get then get_ask k else if put then put_ask m k
        else if verify then verify_ask m k else if change then change_ask m k else if unblock then unblock_ask k
        else if authenticate then authenticate_ask m k else Refused 0x6D00) sw ≡ true
        → (if select then is_word_of 0xA4 sw else or_unserved (by_tests get put verify change unblock authenticate) sw) ≡ true
    go true get put verify change unblock authenticate e h = absurd (let f : true ≡ false = e in cc)
    go false true put verify change unblock authenticate e h = get-within k sw h
    go false false true verify change unblock authenticate e h = put-within m k sw h
    go false false false true change unblock authenticate e h = verify-within m k sw h
    go false false false false true unblock authenticate e h = change-within m k sw h
    go false false false false false true authenticate e h = unblock-within k sw h
    go false false false false false false true e h = authenticate-within m k sw h
    go false false false false false false false e h =
        refused (by_tests false false false false false false) 0x6D00 refl sw h

-- ---- what was executed

-- 6D 00, or a word of what is asked
pub word-for : (a b : Ask) (sw : ℕ) → a ≡ b → IsTrue (is_word_for b sw) → IsTrue (or_unserved (is_word_for a) sw)
word-for a b sw e h = subst (λ (z : Ask). or_unserved (is_word_for z) sw ≡ true) (sym e) (served (is_word_for b) sw h)

pub words-for : (a b : Ask) (result : Result Executed Broken) → a ≡ b → IfOk result (λ done. IsTrue (is_word_for b done.sw))
    → IfOk result (λ done. IsTrue (or_unserved (is_word_for a) done.sw))
words-for a b (Ok done) e h = word-for a b done.sw e h
words-for a b (Err broken) e h = tt

unserved-word : (ins sw : ℕ) → (ins == 0xA4) ≡ false → sw ≡ 0x6D00 → is_word_of ins sw ≡ true
unserved-word ins sw other e = rw (other, e) refl

pub words-of : (m : Profile) (k : CardCommand) (a : Ask) (result : Result Executed Broken) → (k.ins == 0xA4) ≡ false → a ≡ ask m k
    → IfOk result (λ done. IsTrue (or_unserved (is_word_for a) done.sw)) → IfOk result (λ done. IsTrue (is_word_of k.ins done.sw))
words-of m k a (Err broken) other e h = tt
words-of m k a (Ok done) other e h = go (done.sw == 0x6D00) refl h
  where
    go : (b : Bool) → (done.sw == 0x6D00) ≡ b → (b || is_word_for a done.sw) ≡ true → is_word_of k.ins done.sw ≡ true
    go true is h = unserved-word k.ins done.sw other (grind (arith, nat_tests))
    go false is h = other-within m k done.sw other (subst (λ (z : Ask). is_word_for z done.sw ≡ true) e h)

pub select-word : (ins sw : ℕ) → ins ≡ 0xA4 → IsTrue (is_word_of 0xA4 sw) → IsTrue (is_word_of ins sw)
select-word ins sw e h = subst (λ (x : ℕ). IsTrue (is_word_of x sw)) (sym e) h
