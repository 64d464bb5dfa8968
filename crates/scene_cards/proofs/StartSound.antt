-- A card that reads, and passes no limit, spells a memory.
use Rattle.std.proofs.Common.{◌≡◌, ℕ, zero, suc, ◌+◌, ◌<◌, ◌≤◌, Bool, true, false, ◌==◌, List, [], ◌∷◌, length, map, None, Some, Option, refl, sym, ap, ◌∙◌, subst, arith}
use Rattle.std.specs.Prelude.{◌&&◌, ◌||◌, nat_lt, nat_le, IsTrue, IfSome, is_some, unwrap_or, if◌then◌else◌}
use Rattle.std.specs.List.{list_all, range_with_len}
use Rattle.std.proofs.lemmas.Bool.Decides.{nat_tests}
use Rattle.std.proofs.lemmas.List.{length-replicate}
use Rattle.std.proofs.lemmas.List.Sums.{sum_by-append}
use Rattle.piv_model.specs.declared.kinds.RefId.{RefId}
use Rattle.piv_model.specs.declared.kinds.RefId.TheVariants.{Pin, Puk, GlobalPin}
use Rattle.piv_model.specs.declared.kinds.KeyId.{KeyId}
use Rattle.piv_model.specs.declared.kinds.KeyId.TheVariants.{AdminKey, CardAuth}
use Rattle.piv_model.specs.Forms.{is_discovery, is_secret, is_pin}
use Rattle.piv_model.specs.Memory.{blocks, blocks_used, is_short, has, reference, key_at, no_reference, Reference}
use Rattle.piv_model.specs.Sound.{is_limited, is_card_key}
use Rattle.piv_model.specs.Starts.{value_at, global_of, memory_of_start, SpellsMemory}
use Rattle.scene_cards.specs.Objects.{ObjectData, ObjectValue, Given, Filled, has_form, value_size, value_bytes}
use Rattle.scene_cards.specs.Cards.{CardData}
use Rattle.scene_cards.specs.CardLimits.{has_large, object_blocks}
use Rattle.scene_cards.specs.CardValues.{object_pair, start_of, global_start}
use Rattle.scene_cards.proofs.ReadSound.{AreObjects, and_true, or_false}
use Rattle.scene_cards.proofs.PartsSound.{AreParts}
use Rattle.scene_cards.proofs.Within.{IsWithin}

bytes-size : (v : ObjectValue) → length (value_bytes v) ≡ value_size v
bytes-size (Given bytes) = refl
bytes-size (Filled n b) = length-replicate n b

-- ---- lengths

short : (n : ℕ) → nat_lt 16384 n ≡ false → nat_le n 16384 ≡ true
short n h = grind (arith, nat_tests)

one_of : (P : List ℕ → Type 0) (b : Bool) (v w : List ℕ) → (b ≡ true → P v) → (b ≡ false → P w) → P (if b then v else w)
one_of P true v w good bad = good refl
one_of P false v w good bad = bad refl

short_at : (objects : List ObjectData) (place : ℕ) → has_large objects ≡ false → is_short (value_at (map object_pair objects) place) ≡ true
short_at [] place h = refl
short_at (o ∷ objects) place h =
    let a = or_false (nat_lt 16384 (value_size o.value)) (has_large objects) h in
    one_of (λ v. is_short v ≡ true) (o.place == place) (value_bytes o.value) (value_at (map object_pair objects) place)
    (λ yes. ap (λ (n : ℕ). nat_le n 16384) (bytes-size o.value) ∙ short (value_size o.value) a.0)
    (λ no. short_at objects place a.1)

all_at : (test : List ℕ → Bool) (f : ℕ → List ℕ) (lo n : ℕ) → ((k : ℕ) → test (f k) ≡ true) → list_all test (map f (range_with_len lo n)) ≡ true
all_at test f lo zero h = refl
all_at test f lo (suc n) h = rw (h lo) (all_at test f (lo + 1) n h)

-- ---- room

used-more : (v : List ℕ) (vs : List (List ℕ)) → blocks_used (v ∷ vs) ≡ blocks (length v) + blocks_used vs
used-more v vs = sum_by-append (λ (o : List ℕ). blocks (length o)) (v ∷ []) vs ∙ (let e : 0 + blocks (length v) ≡ blocks (length v) = omega arith in ap (λ (n : ℕ). n + blocks_used vs) e)

abbrev either_one : ℕ → List ℕ → (ℕ → List ℕ) → ℕ → List ℕ
either_one k v f place = if k == place then v else f place

not_there : (k lo : ℕ) → k < lo → (k == lo) ≡ false
not_there k lo h = grind (arith, nat_tests)

there : (k lo : ℕ) → (k == lo) ≡ true → k ≡ lo
there k lo h = grind (arith, nat_tests)

none-there : (k : ℕ) (v : List ℕ) (f : ℕ → List ℕ) (lo n : ℕ) → k < lo → map (either_one k v f) (range_with_len lo n) ≡ map f (range_with_len lo n)
none-there k v f lo zero h = refl
none-there k v f lo (suc n) h = rw (not_there k lo h, none-there k v f (lo + 1) n (omega (arith, h))) refl

one-step : (b : Bool) (k : ℕ) (v : List ℕ) (f : ℕ → List ℕ) (lo n : ℕ) → (k == lo) ≡ b
    → blocks_used (map (either_one k v f) (range_with_len (lo + 1) n)) ≤ blocks (length v) + blocks_used (map f (range_with_len (lo + 1) n))
    → blocks_used ((if b then v else f lo) ∷ map (either_one k v f) (range_with_len (lo + 1) n)) ≤ blocks (length v) + blocks_used (f lo ∷ map f (range_with_len (lo + 1) n))
one-step true k v f lo n is rest =
    let at = there k lo is in
    let a = used-more v (map (either_one k v f) (range_with_len (lo + 1) n)) in
    let b = used-more (f lo) (map f (range_with_len (lo + 1) n)) in
    let same = ap blocks_used (none-there k v f (lo + 1) n (omega (arith, at))) in
    omega (arith, a, b, same)
one-step false k v f lo n is rest =
    let a = used-more (f lo) (map (either_one k v f) (range_with_len (lo + 1) n)) in
    let b = used-more (f lo) (map f (range_with_len (lo + 1) n)) in
    omega (arith, a, b, rest)

one-more : (k : ℕ) (v : List ℕ) (f : ℕ → List ℕ) (lo n : ℕ) → blocks_used (map (either_one k v f) (range_with_len lo n)) ≤ blocks (length v) + blocks_used (map f (range_with_len lo n))
one-more k v f lo zero = omega arith
one-more k v f lo (suc n) = one-step (k == lo) k v f lo n refl (one-more k v f (lo + 1) n)

nothing-used : (lo n : ℕ) → blocks_used (map (value_at []) (range_with_len lo n)) ≤ 0
nothing-used lo zero = omega arith
nothing-used lo (suc n) = let a = used-more [] (map (value_at []) (range_with_len (lo + 1) n)) in let rest = nothing-used (lo + 1) n in omega (arith, a, rest)

used : (objects : List ObjectData) (lo n : ℕ) → blocks_used (map (value_at (map object_pair objects)) (range_with_len lo n)) ≤ object_blocks objects
used [] lo n = nothing-used lo n
used (o ∷ objects) lo n =
    let one = one-more o.place (value_bytes o.value) (value_at (map object_pair objects)) lo n in
    let rest = used objects lo n in
    let size = ap blocks (bytes-size o.value) in
    let whole : object_blocks (o ∷ objects) ≡ (0 + blocks (value_size o.value)) + object_blocks objects = sum_by-append (λ (x : ObjectData). blocks (value_size x.value)) (o ∷ []) objects in
    omega (arith, one, rest, size, whole)

-- ---- the Global PIN

limited : (n : ℕ) → 1 ≤ n → n ≤ 15 → (nat_le 1 n && nat_le n 15 && nat_le n n) ≡ true
limited n low high = grind (arith, nat_tests)

not_zero : (n : ℕ) → 1 ≤ n → (n == 0) ≡ false
not_zero n h = grind (arith, nat_tests)

global-given : (pin : List ℕ) (limit : ℕ) → 1 ≤ limit → global_of (global_start (Some pin) limit) ≡ Some (record { limit = limit; tries = limit; secret = pin })
global-given pin limit low = rw (not_zero limit low) refl

global-some : (g : Option (List ℕ)) (limit : ℕ) → 1 ≤ limit → is_some (global_of (global_start g limit)) ≡ is_some g
global-some None limit low = refl
global-some (Some pin) limit low = ap (λ (o : Option Reference). is_some o) (global-given pin limit low)

global-limited : (g : Option (List ℕ)) (limit : ℕ) → 1 ≤ limit → limit ≤ 15 → IsTrue (is_some (global_of (global_start g limit)))
    → IsTrue (is_limited (unwrap_or (global_of (global_start g limit)) no_reference))
global-limited None limit low high h = cc
global-limited (Some pin) limit low high h =
    subst (λ (o : Option Reference). IsTrue (is_limited (unwrap_or o no_reference))) (sym (global-given pin limit low)) (limited limit low high)

global-secret : (g : Option (List ℕ)) (limit : ℕ) → 1 ≤ limit → IfSome g (λ pin. is_pin pin ≡ true) → IsTrue (is_some (global_of (global_start g limit)))
    → IsTrue (is_pin (unwrap_or (global_of (global_start g limit)) no_reference).secret)
global-secret None limit low pin h = cc
global-secret (Some secret) limit low pin h =
    subst (λ (o : Option Reference). IsTrue (is_pin (unwrap_or o no_reference).secret)) (sym (global-given secret limit low)) pin

-- ---- Discovery

or_second : (a b : Bool) → b ≡ true → (a || b) ≡ true
or_second true b h = refl
or_second false b h = h

is_ten : (has_global : Bool) (place : ℕ) (v : ObjectValue) → (place == 10) ≡ true → has_form has_global place v ≡ true
    → ((length (value_bytes v) == 0) || is_discovery has_global (value_bytes v)) ≡ true
is_ten has_global place v ten h = or_second (length (value_bytes v) == 0) (is_discovery has_global (value_bytes v)) (rw ten at h)

discovery_at : (has_global : Bool) (objects : List ObjectData) → list_all (λ o. has_form has_global o.place o.value) objects ≡ true
    → ((length (value_at (map object_pair objects) 10) == 0) || is_discovery has_global (value_at (map object_pair objects) 10)) ≡ true
discovery_at has_global [] h = refl
discovery_at has_global (o ∷ objects) h =
    let a = and_true (has_form has_global o.place o.value) (list_all (λ (x : ObjectData). has_form has_global x.place x.value) objects) h in
    one_of (λ v. ((length v == 0) || is_discovery has_global v) ≡ true) (o.place == 10) (value_bytes o.value) (value_at (map object_pair objects) 10)
    (λ ten. is_ten has_global o.place o.value ten a.0) (λ no. discovery_at has_global objects a.1)

-- ---- the whole

budgeted : (n : ℕ) → 1 ≤ n → n ≤ 2048 → (nat_le 1 n && nat_le n 2048) ≡ true
budgeted n low high = grind (arith, nat_tests)

fits : (a b : ℕ) → a ≤ b → nat_le a b ≡ true
fits a b h = grind (arith, nat_tests)

limits-hold : (c : CardData) → AreParts c.parts → IsWithin c → (r : RefId) → IsTrue (has (memory_of_start (start_of c.parts c.objects)) r)
    → IsTrue (is_limited (reference (memory_of_start (start_of c.parts c.objects)) r))
limits-hold c parts within Pin h = limited c.parts.limit_pin parts.limit_pin within.limit_pin
limits-hold c parts within Puk h = limited c.parts.limit_puk parts.limit_puk within.limit_puk
limits-hold c parts within GlobalPin h = global-limited c.parts.global c.parts.limit_global parts.limit_global within.limit_global h

secrets-hold : (c : CardData) → AreParts c.parts → (r : RefId) → IsTrue (has (memory_of_start (start_of c.parts c.objects)) r)
    → IsTrue (is_secret r (reference (memory_of_start (start_of c.parts c.objects)) r).secret)
secrets-hold c parts Pin h = parts.pin
secrets-hold c parts Puk h = parts.puk
secrets-hold c parts GlobalPin h = global-secret c.parts.global c.parts.limit_global parts.limit_global parts.global h

keys-hold : (c : CardData) → AreParts c.parts → (key : KeyId) → IsTrue (is_card_key (key_at (memory_of_start (start_of c.parts c.objects)) key))
keys-hold c parts AdminKey = parts.admin
keys-hold c parts CardAuth = parts.card_auth

pub start-sound : (c : CardData) → AreParts c.parts → AreObjects (is_some c.parts.global) c.objects → IsWithin c → SpellsMemory (start_of c.parts c.objects)
start-sound c parts objects within =
    let room = used c.objects 0 33 in
    let most = within.room in
    record {
      sound = record {
        limits = limits-hold c parts within;
        secrets = secrets-hold c parts;
        keys = keys-hold c parts;
        budget = budgeted c.parts.budget parts.budget within.budget;
        places = refl;
        lengths = all_at is_short (value_at (map object_pair c.objects)) 0 33 (λ k. short_at c.objects k within.large);
        room = fits (blocks_used (map (value_at (map object_pair c.objects)) (range_with_len 0 33))) c.parts.budget (omega (arith, room, most));
        discovery = subst (λ (b : Bool). ((length (value_at (map object_pair c.objects) 10) == 0) || is_discovery b (value_at (map object_pair c.objects) 10)) ≡ true)
            (sym (global-some c.parts.global c.parts.limit_global parts.limit_global)) (discovery_at (is_some c.parts.global) c.objects objects.forms);
      };
      once = objects.once;
    }
