-- Only three instructions ask for a comparison.
use Rattle.std.specs.Prelude.{if◌then◌else◌, ◌==◌, not, option_and_then}
use Rattle.std.proofs.Common.{◌≡◌, ℕ, Bool, true, false, List, Option, Some, None, refl, sym}
use Rattle.ber_tlv.specs.Elements.{Element, elements_of}
use Rattle.piv_model.specs.declared.kinds.Application.{Application}
use Rattle.piv_model.specs.declared.kinds.KeyId.{KeyId}
use Rattle.piv_model.specs.declared.kinds.KeyId.TheVariants.{AdminKey, CardAuth}
use Rattle.piv_model.specs.ApplicationNames.{application_named}
use Rattle.piv_model.specs.Commands.{CardCommand}
use Rattle.piv_model.specs.Objects.{place_of}
use Rattle.piv_model.specs.Base.{Profile}
use Rattle.piv_rules.specs.Forms.{PutForm, DiscoveryForm, ObjectForm, tag_named, put_named, Field, Absent, Empty, Sixteen, field, fields_of, are_fields}
use Rattle.piv_rules.specs.Asks.{Ask, Refused, Get, Put, formed, found, keyed, named, is_at, select_ask, get_ask, put_ask, put_asked, verify_ask, change_ask, unblock_ask, authenticate_ask, key_named, auth_meant, meant, ask}
use Rattle.card_cell.specs.declared.compared.Comparison.{Comparison}
use Rattle.card_cell.specs.Counts.{comparison_of}

none-if : (b : Bool) (x y : Ask) → comparison_of x ≡ None → comparison_of y ≡ None → comparison_of (if b then x else y) ≡ None
none-if true x y h k = h
none-if false x y h k = k

skip : (b : Bool) (x y : Ask) (o : Option Comparison) → b ≡ false → comparison_of y ≡ o → comparison_of (if b then x else y) ≡ o
skip true x y o f h = absurd (cc)
skip false x y o f h = h

formed-none : {A : Type 0} (o : Option A) (f : A → Ask) → ((x : A) → comparison_of (f x) ≡ None) → comparison_of (formed o f) ≡ None
formed-none None f h = refl
formed-none (Some x) f h = h x

found-none : (o : Option ℕ) (f : ℕ → Ask) → ((x : ℕ) → comparison_of (f x) ≡ None) → comparison_of (found o f) ≡ None
found-none None f h = refl
found-none (Some x) f h = h x

keyed-none : (o : Option KeyId) (f : KeyId → Ask) → ((x : KeyId) → comparison_of (f x) ≡ None) → comparison_of (keyed o f) ≡ None
keyed-none None f h = refl
keyed-none (Some x) f h = h x

named-none : (o : Option Application) → comparison_of (named o) ≡ None
named-none None = refl
named-none (Some a) = refl

select-none : (k : CardCommand) → comparison_of (select_ask k) ≡ None
select-none k = none-if (not (is_at k 0x04 0x00)) (Refused 0x6A86) (named (application_named k.body)) refl (named-none (application_named k.body))

get-none : (k : CardCommand) → comparison_of (get_ask k) ≡ None
get-none k =
    none-if (not (is_at k 0x3F 0xFF)) (Refused 0x6A86) (formed (option_and_then tag_named (elements_of k.body)) (λ t. found (place_of t) Get)) refl
    (formed-none (option_and_then tag_named (elements_of k.body)) (λ t. found (place_of t) Get) (λ t. found-none (place_of t) Get (λ id. refl)))

put_asked-none : (x : PutForm) → comparison_of (put_asked x) ≡ None
put_asked-none (DiscoveryForm v) = refl
put_asked-none (ObjectForm t v) = found-none (place_of t) (λ id. Put id v) (λ id. refl)

put-none : (m : Profile) (k : CardCommand) → comparison_of (put_ask m k) ≡ None
put-none m k =
    none-if (not (is_at k 0x3F 0xFF)) (Refused 0x6A86) (formed (option_and_then (put_named m) (elements_of k.body)) put_asked) refl
    (formed-none (option_and_then (put_named m) (elements_of k.body)) put_asked put_asked-none)

abbrev any_none : Option Ask → Option Comparison
any_none None = None
any_none (Some a) = comparison_of a

meant-none : (key : KeyId) (w x y : Field) → any_none (meant key w x y) ≡ None
meant-none CardAuth Absent (Sixteen x) Empty = refl
meant-none AdminKey Absent Empty Absent = refl
meant-none AdminKey Absent Absent (Sixteen x) = refl
meant-none AdminKey Empty Absent Absent = refl
meant-none AdminKey (Sixteen w) (Sixteen x) Absent = refl
meant-none AdminKey (Sixteen w) (Sixteen x) Empty = refl
meant-none key w x y = refl

auth-none : (key : KeyId) (o : Option (List Element)) → any_none (option_and_then (auth_meant key) o) ≡ None
auth-none key None = refl
auth-none key (Some fields) = go (are_fields fields)
  where
    go : (b : Bool) → any_none (if b then meant key (field 0x80 fields) (field 0x81 fields) (field 0x82 fields) else None) ≡ None
    go true = meant-none key (field 0x80 fields) (field 0x81 fields) (field 0x82 fields)
    go false = refl

formed-any : (o : Option Ask) → any_none o ≡ None → comparison_of (formed o (λ a. a)) ≡ None
formed-any None h = refl
formed-any (Some a) h = h

authenticate-none : (m : Profile) (k : CardCommand) → comparison_of (authenticate_ask m k) ≡ None
authenticate-none m k =
    keyed-none (key_named m k)
    (λ key. formed (option_and_then (auth_meant key) (option_and_then fields_of (elements_of k.body))) (λ a. a))
    (λ key. formed-any (option_and_then (auth_meant key) (option_and_then fields_of (elements_of k.body)))
    (auth-none key (option_and_then fields_of (elements_of k.body))))

pub others-none : (m : Profile) (k : CardCommand) → (k.ins == 0x20) ≡ false → (k.ins == 0x24) ≡ false → (k.ins == 0x2C) ≡ false
    → None ≡ comparison_of (ask m k)
unfolding ask
others-none m k v c u = sym whole
  where
    whole : comparison_of (if k.ins == 0xA4 then select_ask k
        else if k.ins == 0xCB then get_ask k else if k.ins == 0xDB then put_ask m k else if k.ins == 0x20 then verify_ask m k
        else if k.ins == 0x24 then change_ask m k else if k.ins == 0x2C then unblock_ask k
        else if k.ins == 0x87 then authenticate_ask m k else Refused 0x6D00) ≡ None
    whole =
        none-if (k.ins == 0xA4) (select_ask k) _ (select-none k)
        (none-if (k.ins == 0xCB) (get_ask k) _ (get-none k)
        (none-if (k.ins == 0xDB) (put_ask m k) _ (put-none m k)
        (skip (k.ins == 0x20) (verify_ask m k) _ None v
        (skip (k.ins == 0x24) (change_ask m k) _ None c
        (skip (k.ins == 0x2C) (unblock_ask k) _ None u
        (none-if (k.ins == 0x87) (authenticate_ask m k) (Refused 0x6D00) (authenticate-none m k) refl))))))

-- ---- the three that do

pub at-verify : (m : Profile) (k : CardCommand) → k.ins ≡ 0x20 → comparison_of (verify_ask m k) ≡ comparison_of (ask m k)
unfolding ask
at-verify m k is = rw is refl

pub at-change : (m : Profile) (k : CardCommand) → k.ins ≡ 0x24 → comparison_of (change_ask m k) ≡ comparison_of (ask m k)
unfolding ask
at-change m k is = rw is refl

pub at-unblock : (m : Profile) (k : CardCommand) → k.ins ≡ 0x2C → comparison_of (unblock_ask k) ≡ comparison_of (ask m k)
unfolding ask
at-unblock m k is = rw is refl
