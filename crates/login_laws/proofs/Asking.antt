-- What a command can ask.
use Rattle.std.specs.Prelude.{if◌then◌else◌, IsTrue, not, ◌&&◌, ◌||◌, ◌==◌, find, is_some, option_and_then}
use Rattle.std.specs.List.{list_all}
use Rattle.std.specs.Option.{IfSome}
use Rattle.std.specs.Str.{bytes_eq}
use Rattle.std.proofs.Common.{◌≡◌, ◌≢◌, ◌≤◌, ℕ, Bool, true, false, List, [], ◌∷◌, Option, Some, None, refl, ap, sym, arith, length, length-take, take, drop, eq-eqb, eqb-true}
use Rattle.std.proofs.lemmas.List.Quantifiers.{position-Some}
use Rattle.std.proofs.lemmas.Slice.Eq.{bytes_eq-Decides}
use Rattle.ber_tlv.specs.Elements.{Element, elements_of}
use Rattle.piv_model.specs.declared.kinds.Application.{Application}
use Rattle.piv_model.specs.declared.kinds.RefId.{RefId}
use Rattle.piv_model.specs.declared.kinds.RefId.TheVariants.{Pin, Puk, GlobalPin}
use Rattle.piv_model.specs.declared.kinds.KeyId.{KeyId}
use Rattle.piv_model.specs.declared.kinds.KeyId.TheVariants.{AdminKey, CardAuth}
use Rattle.piv_model.specs.ApplicationNames.{application_named}
use Rattle.piv_model.specs.Commands.{CardCommand}
use Rattle.piv_model.specs.Forms.{is_pin, is_secret, is_pair, is_puk_and_pin, is_discovery}
use Rattle.piv_model.specs.Memory.{Memory, has}
use Rattle.piv_model.specs.Objects.{ObjectRow, discovery_place, place_of, object_table, no_row}
use Rattle.piv_model.specs.Sound.{may_stand}
use Rattle.piv_model.specs.Base.{Base, Profile, profile}
use Rattle.piv_rules.specs.Forms.{tag_named, PutForm, DiscoveryForm, ObjectForm, put_named, Field, Absent, Empty, Sixteen, field, field_of, is_field, are_fields, fields_of, is_tag_list}
use Rattle.piv_rules.specs.Asks.{Ask, Refused, Get, Put, Logout, Query, Compare, Purpose, Verify, Change, Unblock, formed, found, known, keyed, named, select_ask, get_ask, put_asked, put_ask, verified_reference, verify_form, verify_ask, changed_reference, change_form, change_ask, unblock_ask, key_named, is_at, meant, auth_meant, authenticate_ask, ask}
use Rattle.login_laws.specs.AskLaws.{IsProper, AsksAreProper}
use Rattle.login_laws.proofs.Bools.{and-first, and-last, not-true}

-- ---- tests and options

by-test : (m : Memory) (b : Bool) (x y : Ask) → (b ≡ true → IsProper m x) → (b ≡ false → IsProper m y) → IsProper m (if b then x else y)
by-test m true x y h k = h refl
by-test m false x y h k = k refl

by-some : {A : Type 0} (P : A → Type 0) (b : Bool) (x : A) → (b ≡ true → P x) → IfSome (if b then Some x else None) P
by-some P true x h = h refl
by-some P false x h = tt

by-none : {A : Type 0} (P : A → Type 0) (b : Bool) (o q : Option A) → IfSome o P → IfSome q P → IfSome (if b then o else q) P
by-none P true o q h k = h
by-none P false o q h k = k

and-then : {A C : Type 0} (P : C → Type 0) (f : A → Option C) (o : Option A) → ((x : A) → IfSome (f x) P) → IfSome (option_and_then f o) P
and-then P f None h = tt
and-then P f (Some x) h = h x

formed-proper : {A : Type 0} (m : Memory) (o : Option A) (f : A → Ask) → IfSome o (λ x. IsProper m (f x)) → IsProper m (formed o f)
formed-proper m None f h = tt
formed-proper m (Some x) f h = h

known-proper : (m : Memory) (o : Option RefId) (f : RefId → Ask) → IfSome o (λ x. IsProper m (f x)) → IsProper m (known o f)
known-proper m None f h = tt
known-proper m (Some x) f h = h

-- ---- places

some-is : {A : Type 0} (P : A → Type 0) (o : Option A) → ((x : A) → o ≡ Some x → P x) → IfSome o P
some-is P None h = tt
some-is P (Some x) h = h x refl

found-proper : (m : Memory) (o : Option ℕ) (f : ℕ → Ask) → ((id : ℕ) → o ≡ Some id → IsProper m (f id)) → IsProper m (found o f)
found-proper m None f h = tt
found-proper m (Some id) f h = h id refl

place-small : (t : List ℕ) (id : ℕ) → place_of t ≡ Some id → id ≤ 32
unfolding place_of object_table
place-small t id h = let p = (position-Some (λ (row : ObjectRow). bytes_eq row.tag t) object_table id no_row h).0 in omega arith

-- the place of the Discovery Object is that of the tag 7E alone
place-apart : (t : List ℕ) (id : ℕ) → place_of t ≡ Some id → bytes_eq t (0x7E ∷ []) ≡ false → (id == discovery_place) ≡ false
unfolding place_of object_table
place-apart t id h other = go (id == discovery_place) refl
  where
    go : (b : Bool) → (id == discovery_place) ≡ b → (id == discovery_place) ≡ false
    go false e = e
    go true e =
        let is : id ≡ 10 = eqb-true id 10 e in
        let p = (position-Some (λ (row : ObjectRow). bytes_eq row.tag t) object_table id no_row h).1 in
        let q : bytes_eq (0x7E ∷ []) t ≡ true = rw is at p in
        let same : t ≡ 0x7E ∷ [] = sym ((bytes_eq-Decides (0x7E ∷ []) t).0 q) in
        let r = (bytes_eq-Decides t (0x7E ∷ [])).1 same in
        absurd (cc)

-- ---- SELECT, GET DATA and PUT DATA

named-proper : (m : Memory) (o : Option Application) → IsProper m (named o)
named-proper m None = tt
named-proper m (Some a) = tt

select-proper : (m : Memory) (k : CardCommand) → IsProper m (select_ask k)
select-proper m k = by-test m (not (is_at k 0x04 0x00)) (Refused 0x6A86) _ (λ h. tt) (λ h. named-proper m (application_named k.body))

get-proper : (m : Memory) (k : CardCommand) → IsProper m (get_ask k)
get-proper m k =
    by-test m (not (is_at k 0x3F 0xFF)) (Refused 0x6A86) _ (λ h. tt)
    (λ h. formed-proper m (option_and_then tag_named (elements_of k.body)) (λ t. found (place_of t) Get)
    (some-is _ _ (λ t e. found-proper m (place_of t) Get (λ id p. place-small t id p))))

abbrev IsApart : Bool → PutForm → Type 0
IsApart has_global (DiscoveryForm v) = is_discovery has_global v ≡ true
IsApart has_global (ObjectForm t v) = bytes_eq t (0x7E ∷ []) ≡ false

put-apart : (p : Profile) (es : List Element) → IfSome (put_named p es) (IsApart p.has_global)
put-apart p [] = tt
put-apart p (v ∷ []) =
    by-some (IsApart p.has_global) ((v.tag == 0x7E) && is_discovery p.has_global v.value) (DiscoveryForm v.value) (λ h. and-last (v.tag == 0x7E) _ h)
put-apart p (t ∷ v ∷ []) =
    by-some (IsApart p.has_global) (is_tag_list t && (v.tag == 0x53) && not (bytes_eq t.value (0x7E ∷ []))) (ObjectForm t.value v.value)
    (λ h. not-true _ (and-last (is_tag_list t && (v.tag == 0x53)) _ h))
put-apart p (t ∷ v ∷ w ∷ es) = tt

stands-discovery : (g : Bool) (v : List ℕ) → is_discovery g v ≡ true → may_stand g discovery_place v ≡ true
stands-discovery g v h = rw h (go (length v == 0))
  where
    go : (b : Bool) → (not (discovery_place == discovery_place) || b || true) ≡ true
    go true = refl
    go false = refl

stands-elsewhere : (g : Bool) (id : ℕ) (v : List ℕ) → (id == discovery_place) ≡ false → may_stand g id v ≡ true
stands-elsewhere g id v h = rw h refl

put_asked-proper : (m : Memory) (f : PutForm) → IsApart (is_some m.global) f → IsProper m (put_asked f)
put_asked-proper m (DiscoveryForm v) h = (omega arith, stands-discovery (is_some m.global) v h)
put_asked-proper m (ObjectForm t v) h =
    found-proper m (place_of t) (λ id. Put id v) (λ id p. (place-small t id p, stands-elsewhere (is_some m.global) id v (place-apart t id p h)))

put-proper : (B : Base) (k : CardCommand) → IsProper B.memory (put_ask (profile B) k)
put-proper B k =
    by-test B.memory (not (is_at k 0x3F 0xFF)) (Refused 0x6A86) _ (λ h. tt)
    (λ h. formed-proper B.memory (option_and_then (put_named (profile B)) (elements_of k.body)) put_asked
    (and-then (λ f. IsProper B.memory (put_asked f)) (put_named (profile B)) (elements_of k.body)
    (λ es. go (put_named (profile B) es) (put-apart (profile B) es))))
  where
    go : (o : Option PutForm) → IfSome o (IsApart (profile B).has_global) → IfSome o (λ f. IsProper B.memory (put_asked f))
    go None h = tt
    go (Some f) h = put_asked-proper B.memory f h

-- ---- VERIFY, CHANGE REFERENCE DATA and RESET RETRY COUNTER

-- a reference with a login, which the card has
abbrev IsLoginOf : Memory → RefId → Type 0
IsLoginOf m r = IsTrue (has m r) × (r ≢ Puk)

pin-other : Pin ≢ Puk
pin-other h = absurd (let f = ap is_the_pin h in cc)
  where
    is_the_pin : RefId → Bool
    is_the_pin Pin = true
    is_the_pin r = false

global-other : GlobalPin ≢ Puk
global-other h = absurd (let f = ap is_the_global h in cc)
  where
    is_the_global : RefId → Bool
    is_the_global GlobalPin = true
    is_the_global r = false

verified-login : (B : Base) (p2 : ℕ) → IfSome (verified_reference (profile B) p2) (IsLoginOf B.memory)
verified-login B p2 =
    by-none (IsLoginOf B.memory) (p2 == 0x80) _ _ (refl, pin-other)
    (by-some (IsLoginOf B.memory) ((p2 == 0x00) && is_some B.memory.global) GlobalPin (λ h. (and-last (p2 == 0x00) _ h, global-other)))

pin-secret : (r : RefId) (p : List ℕ) → r ≢ Puk → is_pin p ≡ true → is_secret r p ≡ true
pin-secret Pin p other h = h
pin-secret GlobalPin p other h = h
pin-secret Puk p other h = absurd (other refl)

verify_form-proper : (m : Memory) (k : CardCommand) (r : RefId) → IsLoginOf m r → IsProper m (verify_form r k)
verify_form-proper m k r l =
    by-test m ((k.p1 == 0xFF) && (length k.body == 0)) (Logout r) _ (λ h. l)
    (λ h. by-test m ((k.p1 == 0x00) && (length k.body == 0)) (Query r) _ (λ j. l)
    (λ j. by-test m ((k.p1 == 0x00) && is_pin k.body) (Compare r k.body Verify) (Refused 0x6A80)
    (λ is. (l.0, pin-secret r k.body l.1 (and-last (k.p1 == 0x00) (is_pin k.body) is), tt)) (λ is. tt)))

verify-proper : (B : Base) (k : CardCommand) → IsProper B.memory (verify_ask (profile B) k)
verify-proper B k =
    by-test B.memory (not ((k.p1 == 0x00) || (k.p1 == 0xFF))) (Refused 0x6A86) _ (λ h. tt)
    (λ h. known-proper B.memory (verified_reference (profile B) k.p2) (λ r. verify_form r k)
    (go (verified_reference (profile B) k.p2) (verified-login B k.p2)))
  where
    go : (o : Option RefId) → IfSome o (IsLoginOf B.memory) → IfSome o (λ r. IsProper B.memory (verify_form r k))
    go None h = tt
    go (Some r) h = verify_form-proper B.memory k r h

change_form-proper : (m : Memory) (k : CardCommand) (r : RefId) → IsTrue (has m r) → IsProper m (change_form r k)
change_form-proper m k r have =
    by-test m (is_pair r k.body) (Compare r (take 8 k.body) (Change (drop 8 k.body))) (Refused 0x6A80)
    (λ h. (
      have,
      and-last (length k.body == 16) _ (and-first ((length k.body == 16) && is_secret r (take 8 k.body)) _ h),
      and-last ((length k.body == 16) && is_secret r (take 8 k.body)) _ h,
    )) (λ h. tt)

changed-has : (B : Base) (p2 : ℕ) → IfSome (changed_reference (profile B) p2) (λ r. IsTrue (has B.memory r))
changed-has B p2 = by-none (λ r. IsTrue (has B.memory r)) (p2 == 0x81) _ _ refl (go (verified_reference (profile B) p2) (verified-login B p2))
  where
    go : (o : Option RefId) → IfSome o (IsLoginOf B.memory) → IfSome o (λ r. IsTrue (has B.memory r))
    go None h = tt
    go (Some r) h = h.0

change-proper : (B : Base) (k : CardCommand) → IsProper B.memory (change_ask (profile B) k)
change-proper B k =
    by-test B.memory (not (k.p1 == 0x00)) (Refused 0x6A86) _ (λ h. tt)
    (λ h. known-proper B.memory (changed_reference (profile B) k.p2) (λ r. change_form r k)
    (go (changed_reference (profile B) k.p2) (changed-has B k.p2)))
  where
    go : (o : Option RefId) → IfSome o (λ r. IsTrue (has B.memory r)) → IfSome o (λ r. IsProper B.memory (change_form r k))
    go None h = tt
    go (Some r) h = change_form-proper B.memory k r h

first-eight : (xs : List ℕ) → (length xs == 16) ≡ true → (length (take 8 xs) == 8) ≡ true
first-eight xs h =
    let n : length xs ≡ 16 = eqb-true (length xs) 16 h in
    let l : length (take 8 xs) ≡ 8 = simp length-take (omega arith) in
    eq-eqb (length (take 8 xs)) 8 l

unblock-proper : (m : Memory) (k : CardCommand) → IsProper m (unblock_ask k)
unblock-proper m k =
    by-test m (not (k.p1 == 0x00)) (Refused 0x6A86) _ (λ h. tt)
    (λ h. by-test m (not (k.p2 == 0x80)) (Refused 0x6A88) _ (λ j. tt)
    (λ j. by-test m (is_puk_and_pin k.body) (Compare Puk (take 8 k.body) (Unblock (drop 8 k.body))) (Refused 0x6A80)
    (λ is. (refl, first-eight k.body (and-first _ _ is), (refl, and-last (length k.body == 16) _ is))) (λ is. tt)))

-- ---- GENERAL AUTHENTICATE

abbrev IsBlockField : Field → Type 0
IsBlockField (Sixteen x) = length x ≡ 16
IsBlockField _ = Unit {0}

field-sized : (t : Element) → is_field t ≡ true → IsBlockField (field_of (Some t))
field-sized t h = go (length t.value == 0) (length t.value == 16) refl (and-last ((t.tag == 0x80) || (t.tag == 0x81) || (t.tag == 0x82)) _ h)
  where
    go : (none full : Bool) → (length t.value == 16) ≡ full → (none || full) ≡ true → IsBlockField (if none then Empty else Sixteen t.value)
    go true full e j = tt
    go false true e j = eqb-true (length t.value) 16 e
    go false false e j = absurd (cc)

found-sized : (test : Element → Bool) (fields : List Element) → list_all is_field fields ≡ true → IsBlockField (field_of (find test fields))
found-sized test [] h = tt
found-sized test (t ∷ fields) h =
    go (test t) (field-sized t (and-first (is_field t) _ h)) (found-sized test fields (and-last (is_field t) _ h))
  where
    go : (b : Bool) → IsBlockField (field_of (Some t)) → IsBlockField (field_of (find test fields))
        → IsBlockField (field_of (if b then Some t else find test fields))
    go true here later = here
    go false here later = later

meant-proper : (m : Memory) (key : KeyId) (w x y : Field) → IsBlockField w → IsBlockField x → IsBlockField y → IfSome (meant key w x y) (IsProper m)
meant-proper m CardAuth Absent (Sixteen x) Empty a b d = b
meant-proper m AdminKey Absent Empty Absent a b d = tt
meant-proper m AdminKey Absent Absent (Sixteen y) a b d = d
meant-proper m AdminKey Empty Absent Absent a b d = tt
meant-proper m AdminKey (Sixteen w) (Sixteen x) Absent a b d = (a, b)
meant-proper m AdminKey (Sixteen w) (Sixteen x) Empty a b d = (a, b)
meant-proper m key w x y a b d = tt

auth-proper : (m : Memory) (key : KeyId) (fields : List Element) → IfSome (auth_meant key fields) (IsProper m)
auth-proper m key fields = go (are_fields fields) refl
  where
    go : (b : Bool) → are_fields fields ≡ b
        → IfSome (if b then meant key (field 0x80 fields) (field 0x81 fields) (field 0x82 fields) else None) (IsProper m)
    go true h =
        let all = and-first (list_all is_field fields) _ h in
        meant-proper m key _ _ _ (found-sized (λ t. t.tag == 0x80) fields all) (found-sized (λ t. t.tag == 0x81) fields all)
        (found-sized (λ t. t.tag == 0x82) fields all)
    go false h = tt

keyed-proper : (m : Memory) (o : Option KeyId) (f : KeyId → Ask) → ((key : KeyId) → IsProper m (f key)) → IsProper m (keyed o f)
keyed-proper m None f h = tt
keyed-proper m (Some key) f h = h key

authenticate-proper : (B : Base) (k : CardCommand) → IsProper B.memory (authenticate_ask (profile B) k)
authenticate-proper B k =
    keyed-proper B.memory (key_named (profile B) k) _
    (λ key. formed-proper B.memory _ (λ a. a)
    (and-then (IsProper B.memory) (auth_meant key) (option_and_then fields_of (elements_of k.body)) (auth-proper B.memory key)))

pub AsksAreProper-law : AsksAreProper
unfolding ask
AsksAreProper-law B k =
    by-test B.memory (k.ins == 0xA4) (select_ask k) _ (λ is. select-proper B.memory k)
    (λ a. by-test B.memory (k.ins == 0xCB) (get_ask k) _ (λ is. get-proper B.memory k)
    (λ b. by-test B.memory (k.ins == 0xDB) (put_ask (profile B) k) _ (λ is. put-proper B k)
    (λ c. by-test B.memory (k.ins == 0x20) (verify_ask (profile B) k) _ (λ is. verify-proper B k)
    (λ d. by-test B.memory (k.ins == 0x24) (change_ask (profile B) k) _ (λ is. change-proper B k)
    (λ e. by-test B.memory (k.ins == 0x2C) (unblock_ask k) _ (λ is. unblock-proper B.memory k)
    (λ f. by-test B.memory (k.ins == 0x87) (authenticate_ask (profile B) k) (Refused 0x6D00) (λ is. authenticate-proper B k) (λ g. tt)))))))

pub compare-has : (B : Base) (k : CardCommand) (r : RefId) (p : List ℕ) (purpose : Purpose) → ask (profile B) k ≡ Compare r p purpose
    → IsTrue (has B.memory r)
compare-has B k r p purpose asks = (rw asks at (AsksAreProper-law B k)).0

pub ruleset ask_laws = (AsksAreProper-law)
