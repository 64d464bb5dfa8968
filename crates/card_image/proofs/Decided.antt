-- An image, part by part.
use Rattle.std.proofs.Common.{◌≡◌, ◌≢◌, ◌==◌, ◌||◌, ◌&&◌, ◌↔◌, not, ℕ, ◌+◌, ◌<◌, ◌≤◌, Bool, true, false, if◌then◌else◌, List, [], ◌∷◌, length, take, drop, get_or, IsTrue, Option, Some, None, IfSome, refl, ap, sym, ◌∙◌, arith, length-take}
use Rattle.std.specs.Prelude.{is_some, unwrap_or}
use Rattle.std.specs.Str.{bytes_eq}
use Rattle.std.proofs.lemmas.Bool.{and_parts}
use Rattle.std.proofs.lemmas.Bool.Decides.{nat_tests}
use Rattle.std.proofs.lemmas.Slice.Eq.{bytes_eq-Decides}
use Rattle.nvm_device.specs.Bytes.{bytes_at}
use Rattle.nvm_device.proofs.Row.{length-bytes_at, bytes_at-bytes_at}
use Rattle.piv_model.specs.declared.kinds.RefId.TheVariants.{Pin, Puk, GlobalPin}
use Rattle.piv_model.specs.declared.kinds.KeyId.TheVariants.{AdminKey, CardAuth}
use Rattle.piv_model.specs.Forms.{is_pin, is_discovery, is_policy, discovery_head}
use Rattle.piv_model.specs.Memory.{Reference, blocks_used, no_reference}
use Rattle.piv_model.specs.Sound.{IsSound, is_limited, is_algorithm, key_size, may_stand}
use Rattle.card_image.specs.Header.{header_of, reference_in, global_in}
use Rattle.card_image.specs.Forms.{Form, IsForm}
use Rattle.card_image.specs.Images.{memory_of, budget_of, IsImage, KeepsObjects}
use Rattle.card_image.specs.Looking.{are_references, are_keys}
use Rattle.card_image.proofs.Heads.{length-references, length-keys}
use Rattle.std.proofs.lemmas.List.{length-drop}

pub pin_read : (b : Bool) (pin : List ℕ) → is_some (if b then Some pin else None) ≡ b
pin_read true pin = refl
pin_read false pin = refl

-- ---- Discovery

policy_size : (g : Bool) (p : List ℕ) → is_policy g p ≡ true → length p ≡ 2
policy_size g p policy = by_first (bytes_eq p (0x40 ∷ 0x00 ∷ [])) (bytes_eq p (0x60 ∷ 0x10 ∷ [])) (bytes_eq p (0x60 ∷ 0x20 ∷ [])) refl refl refl g policy
  where
    by_first : (a b c : Bool) → bytes_eq p (0x40 ∷ 0x00 ∷ []) ≡ a → bytes_eq p (0x60 ∷ 0x10 ∷ []) ≡ b → bytes_eq p (0x60 ∷ 0x20 ∷ []) ≡ c → (g : Bool) → (a || (g && (b || c))) ≡ true → length p ≡ 2
    by_first true b c ea eb ec g h = ap (λ (l : List ℕ). length l) ((bytes_eq-Decides p (0x40 ∷ 0x00 ∷ [])).0 ea)
    by_first false true c ea eb ec g h = ap (λ (l : List ℕ). length l) ((bytes_eq-Decides p (0x60 ∷ 0x10 ∷ [])).0 eb)
    by_first false false true ea eb ec g h = ap (λ (l : List ℕ). length l) ((bytes_eq-Decides p (0x60 ∷ 0x20 ∷ [])).0 ec)
    by_first false false false ea eb ec true h = cc
    by_first false false false ea eb ec false h = cc

discovery_size : (g : Bool) (v : List ℕ) → bytes_eq (take 16 v) discovery_head ≡ true → is_policy g (drop 16 v) ≡ true → length v ≡ 18
discovery_size g v head policy =
    let front : length (take 16 v) ≡ 16 = ap (λ (l : List ℕ). length l) ((bytes_eq-Decides (take 16 v) discovery_head).0 head) in
    let back = policy_size g (drop 16 v) policy in
    omega (arith, front, back, length-take 16 v, length-drop 16 v)

pub no_discovery : (g : Bool) (v : List ℕ) → length v ≢ 0 → length v ≢ 18 → false ≡ may_stand g 10 v
unfolding is_discovery
no_discovery g v some other =
    let not_empty : (length v == 0) ≡ false = grind (arith, nat_tests) in
    rw not_empty (by_head (bytes_eq (take 16 v) discovery_head) (is_policy g (drop 16 v)) (λ head policy. other (discovery_size g v head policy)))
  where
    by_head : (a b : Bool) → (a ≡ true → b ≡ true → ⊥) → false ≡ (a && b)
    by_head true true no_way = absurd (no_way refl refl)
    by_head true false no_way = refl
    by_head false b no_way = refl

pub no_discovery_told : (form : Form) (told : Option (List ℕ)) (g : Bool) (n : ℕ) → n ≢ 0 → n ≢ 18 → IfSome told (λ row. KeepsObjects form row → n ≡ length (get_or (form.objects_of row) 10 []))
    → IfSome told (λ row. KeepsObjects form row → false ≡ may_stand g 10 (get_or (form.objects_of row) 10 []))
no_discovery_told form None g n some other is = tt
no_discovery_told form (Some row) g n some other is = λ keeps. no_discovery g (get_or (form.objects_of row) 10 []) (λ e. some (is keeps ∙ e)) (λ e. other (is keeps ∙ e))

-- ---- the mark

pub mark_told : (told : Option (List ℕ)) (out mark : List ℕ) (b : Bool) → IfSome told (λ row. out ≡ bytes_at row 0 4) → b ≡ bytes_eq out mark → IfSome told (λ row. IsTrue b ↔ (bytes_at (header_of row).front 0 4 ≡ mark))
unfolding header_of
mark_told None out mark b read is = tt
mark_told (Some row) out mark b read is =
    let d = bytes_eq-Decides out mark in
    let same : bytes_at (bytes_at row 0 8) 0 4 ≡ out = bytes_at-bytes_at row 0 8 0 4 (omega arith) ∙ sym read in
    ((λ yes. same ∙ d.0 (sym is ∙ yes)), (λ e. is ∙ d.1 (sym same ∙ e)))

-- ---- parts of an image

pub refuse : (form : Form) (P : List ℕ → Bool) (told : Option (List ℕ)) (b : Bool) → ((row : List ℕ) → IsImage form row → IsTrue (P row)) → IfSome told (λ row. b ≡ P row) → b ≡ false → IfSome told (λ row. IsTrue false ↔ IsImage form row)
refuse form P None b of is differs = tt
refuse form P (Some row) b of is differs = ((λ absurdity. let both : false ≡ true = absurdity in cc), (λ image. let yes : b ≡ true = is ∙ of row image in cc))

global_test : (b : Bool) (x : Reference) → ((IsTrue (is_some (if b then None else Some x))) → IsTrue (is_limited (unwrap_or (if b then None else Some x) no_reference))) → ((IsTrue (is_some (if b then None else Some x))) → IsTrue (is_pin (unwrap_or (if b then None else Some x) no_reference).secret))
    → (b || (is_limited x && is_pin x.secret)) ≡ true
global_test true x limited pin = refl
global_test false x limited pin = rw (limited refl, pin refl) refl

pub references_of : (form : Form) (row : List ℕ) → IsImage form row → IsTrue (are_references (header_of row).references)
references_of form row image =
    let refs = (header_of row).references in
    let pin = image.sound.limits Pin refl in
    let puk = image.sound.limits Puk refl in
    let secret = image.sound.secrets Pin refl in
    let global = global_test (get_or refs 20 0 == 0) (reference_in refs 20) (image.sound.limits GlobalPin) (image.sound.secrets GlobalPin) in
    four (is_limited (reference_in refs 0)) (is_limited (reference_in refs 10)) (is_pin (bytes_at refs 2 8)) _ pin puk secret global
  where
    four : (a b c d : Bool) → a ≡ true → b ≡ true → c ≡ true → d ≡ true → (a && b && c && d) ≡ true
    four a b c d ha hb hc hd = rw (ha, hb, hc, hd) refl

pub keys_of : (form : Form) (row : List ℕ) → IsImage form row → IsTrue (are_keys (header_of row).keys)
keys_of form row image =
    let keys = (header_of row).keys in
    let one = and_parts (is_algorithm (get_or keys 0 0)) (length (bytes_at keys 1 (key_size (get_or keys 0 0))) == key_size (get_or keys 0 0)) (image.sound.keys AdminKey) in
    let two = and_parts (is_algorithm (get_or keys 33 0)) (length (bytes_at keys 34 (key_size (get_or keys 33 0))) == key_size (get_or keys 33 0)) (image.sound.keys CardAuth) in
    both (is_algorithm (get_or keys 0 0)) (is_algorithm (get_or keys 33 0)) one.0 two.0
  where
    both : (a b : Bool) → a ≡ true → b ≡ true → (a && b) ≡ true
    both a b ha hb = rw (ha, hb) refl

pub key_size_few : (a : ℕ) → key_size a ≤ 32
key_size_few a = by_test (a == 0x08) (a == 0x0A)
  where
    by_test : (b c : Bool) → (if b then 16 else if c then 24 else 32) ≤ 32
    by_test true c = omega arith
    by_test false true = omega arith
    by_test false false = omega arith

key_is : (keys : List ℕ) (at : ℕ) → at + 33 ≤ length keys → IsTrue (is_algorithm (get_or keys at 0)) → (is_algorithm (get_or keys at 0) && (length (bytes_at keys (at + 1) (key_size (get_or keys at 0))) == key_size (get_or keys at 0))) ≡ true
key_is keys at within known =
    let few = key_size_few (get_or keys at 0) in
    let long = length-bytes_at keys (at + 1) (key_size (get_or keys at 0)) (omega (arith, few)) in
    let test : (length (bytes_at keys (at + 1) (key_size (get_or keys at 0))) == key_size (get_or keys at 0)) ≡ true = grind (arith, nat_tests) in
    rw (known, test) refl

global_limited : (b : Bool) (x : Reference) → (b || (is_limited x && is_pin x.secret)) ≡ true → IsTrue (is_some (if b then None else Some x)) → IsTrue (is_limited (unwrap_or (if b then None else Some x) no_reference)) × IsTrue (is_pin (unwrap_or (if b then None else Some x) no_reference).secret)
global_limited true x test some = cc
global_limited false x test some = let parts = and_parts (is_limited x) (is_pin x.secret) test in (parts.0, parts.1)

sound_of : (form : Form) (row : List ℕ) → IsForm form → 1114112 ≤ length row → IsTrue (are_references (header_of row).references) → IsTrue (are_keys (header_of row).keys) → 0 < budget_of row → KeepsObjects form row
    → blocks_used (form.objects_of row) ≤ budget_of row → IsTrue (may_stand (is_some (global_in (header_of row).references)) 10 (get_or (form.objects_of row) 10 [])) → IsSound (memory_of form row)
sound_of form row is_form enough references keys some keeps room discovery =
    let refs = (header_of row).references in
    let k = (header_of row).keys in
    let global_of = (get_or refs 20 0 == 0) || (is_limited (reference_in refs 20) && is_pin (bytes_at refs 22 8)) in
    let outer = and_parts (is_limited (reference_in refs 0) && is_limited (reference_in refs 10) && is_pin (bytes_at refs 2 8)) global_of references in
    let inner = and_parts (is_limited (reference_in refs 0) && is_limited (reference_in refs 10)) (is_pin (bytes_at refs 2 8)) outer.0 in
    let own = and_parts (is_limited (reference_in refs 0)) (is_limited (reference_in refs 10)) inner.0 in
    let known = and_parts (is_algorithm (get_or k 0 0)) (is_algorithm (get_or k 33 0)) keys in
    let size_r = length-references row enough in
    let size_k = length-keys row enough in
    let few = keeps.few in
    let puk_size = length-bytes_at refs 12 8 (omega (arith, size_r)) in
    let puk_form : (length (bytes_at refs 12 8) == 8) ≡ true = grind (arith, nat_tests) in
    record {
      limits = elim [
        | Pin ↦ λ h. own.0
        | Puk ↦ λ h. own.1
        | GlobalPin ↦ λ h. (global_limited (get_or refs 20 0 == 0) (reference_in refs 20) outer.1 h).0
      ];
      secrets = elim [
        | Pin ↦ λ h. inner.1
        | Puk ↦ λ h. puk_form
        | GlobalPin ↦ λ h. (global_limited (get_or refs 20 0 == 0) (reference_in refs 20) outer.1 h).1
      ];
      keys = elim [ AdminKey ↦ key_is k 0 (omega (arith, size_k)) known.0 | CardAuth ↦ key_is k 33 (omega (arith, size_k)) known.1 ];
      budget = grind (arith, nat_tests);
      places = is_form.places row;
      lengths = is_form.short (budget_of row) row keeps.are;
      room = grind (arith, nat_tests);
      discovery = discovery;
    }

-- with all parts it is one, if the last test says so
pub accept : (form : Form) (told : Option (List ℕ)) (refs : List ℕ) (marked sound known kept last : Bool) (budget used : ℕ) → IsForm form → IfSome told (λ row. 1114112 ≤ length row)
    → IfSome told (λ row. IsTrue marked ↔ (bytes_at (header_of row).front 0 4 ≡ form.mark)) → marked ≡ true → IfSome told (λ row. budget ≡ budget_of row) → budget ≢ 0 → budget ≤ 2048
    → IfSome told (λ row. refs ≡ (header_of row).references) → sound ≡ are_references refs → sound ≡ true → IfSome told (λ row. known ≡ are_keys (header_of row).keys) → known ≡ true
    → IfSome told (λ row. kept ≡ form.are_objects budget row) → kept ≡ true → IfSome told (λ row. KeepsObjects form row → used ≡ blocks_used (form.objects_of row)) → used ≤ budget
    → IfSome told (λ row. KeepsObjects form row → last ≡ may_stand (not (get_or refs 20 0 == 0)) 10 (get_or (form.objects_of row) 10 [])) → IfSome told (λ row. IsTrue last ↔ IsImage form row)
accept form None refs marked sound known kept last budget used is_form enough is_mark mark is_budget some few read is_sound yes_sound is_known yes_known is_kept yes_kept is_used room is_last = tt
accept form (Some row) refs marked sound known kept last budget used is_form enough is_mark mark is_budget some few read is_sound yes_sound is_known yes_known is_kept yes_kept is_used room is_last =
    let keeps : KeepsObjects form row = record { few = omega (arith, is_budget, few); are = ap (λ b. form.are_objects b row) (sym is_budget) ∙ sym is_kept ∙ yes_kept } in
    let there : (b : Bool) (x : Reference) → not b ≡ is_some (if b then None else Some x) = λ b x. elim b as (λ v. not v ≡ is_some (if v then None else Some x)) [ true ↦ refl | false ↦ refl ] in
    let has_global : not (get_or refs 20 0 == 0) ≡ is_some (global_in (header_of row).references) = there (get_or refs 20 0 == 0) (reference_in refs 20) ∙ ap (λ (r : List ℕ). is_some (global_in r)) read in
    let disc : last ≡ may_stand (is_some (global_in (header_of row).references)) 10 (get_or (form.objects_of row) 10 []) = is_last keeps ∙ ap (λ g. may_stand g 10 (get_or (form.objects_of row) 10 [])) has_global in (
      (λ yes. record {
        size = enough;
        mark = is_mark.0 mark;
        objects = keeps;
        sound = sound_of form row is_form enough (sym (ap are_references read) ∙ sym is_sound ∙ yes_sound) (sym is_known ∙ yes_known) (omega (arith, is_budget, some)) keeps (let u = is_used keeps in omega (arith, u, room, is_budget)) (sym disc ∙ yes);
      }),
      (λ image. disc ∙ image.sound.discovery),
    )

pub references_told : (told : Option (List ℕ)) (refs : List ℕ) (b : Bool) → IfSome told (λ row. refs ≡ (header_of row).references) → b ≡ are_references refs → IfSome told (λ row. b ≡ are_references (header_of row).references)
references_told None refs b read is = tt
references_told (Some row) refs b read is = is ∙ ap are_references read

pub keys_told : (told : Option (List ℕ)) (keys : List ℕ) (b : Bool) → IfSome told (λ row. keys ≡ (header_of row).keys) → b ≡ are_keys keys → IfSome told (λ row. b ≡ are_keys (header_of row).keys)
keys_told None keys b read is = tt
keys_told (Some row) keys b read is = is ∙ ap are_keys read
