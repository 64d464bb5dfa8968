-- What a change of the bytes of the references makes of the references.
use Rattle.std.proofs.Common.{◌≡◌, ◌≢◌, ◌⊎◌, inl, inr, ℕ, ◌+◌, ◌-◌, ◌<◌, ◌≤◌, ◌==◌, not, Bool, true, false, if◌then◌else◌, List, [], ◌∷◌, length, get_or, set, take, drop, Option, Some, None, IsTrue, refl, ap, sym, ◌∙◌, arith}
use Rattle.std.specs.Prelude.{option_map, is_some, unwrap_or}
use Rattle.std.proofs.lemmas.List.{get_or-set_same, get_or-set_other, drop-set-lt, drop-set-add, take-set-le}
use Rattle.nvm_device.specs.Bytes.{bytes_at, overwrite}
use Rattle.std.specs.Str.{bytes_eq}
use Rattle.nvm_device.proofs.Row.{get_or-overwrite_below, get_or-overwrite_above, bytes_at-overwrite_below, bytes_at-overwrite_above, bytes_at-overwrite}
use Rattle.piv_model.specs.declared.kinds.RefId.{RefId}
use Rattle.piv_model.specs.declared.kinds.RefId.TheVariants.{Pin, Puk, GlobalPin}
use Rattle.piv_model.specs.Memory.{Memory, Reference, has, reference, no_reference}
use Rattle.piv_model.specs.Changes.{change_reference, one_less, full, renewed, unblocked}
use Rattle.card_image.specs.Header.{reference_in, global_in, with_references}
use Rattle.card_image.specs.Places.{place_of_tries}

bytes_at-set : (l : List ℕ) (i x at n : ℕ) → (i < at) ⊎ (at + n ≤ i) → bytes_at (set l i x) at n ≡ bytes_at l at n
unfolding bytes_at
bytes_at-set l i x at n (inl before) = ap (take n) (drop-set-lt at l i x before)
bytes_at-set l i x at n (inr after) =
    let e : at + (i - at) ≡ i = omega arith in
    ap (λ k. take n (drop at (set l k x))) (sym e) ∙ ap (take n) (drop-set-add at l (i - at) x) ∙ take-set-le n (drop at l) (i - at) x (omega arith)

-- other tries
reference_set : (l : List ℕ) (at x : ℕ) → at + 10 ≤ length l → reference_in (set l (at + 1) x) at ≡ record (reference_in l at) { tries = x }
reference_set l at x within =
    let differs : at ≢ at + 1 = omega arith in
    let inside : at + 1 < length l = omega arith in
    let limit = get_or-set_other l (at + 1) at x 0 differs in
    let tries = get_or-set_same l (at + 1) x 0 inside in
    let secret = bytes_at-set l (at + 1) x (at + 2) 8 (inl (omega arith)) in
    λ i. record { limit = limit i; tries = tries i; secret = secret i }

pub reference_other : (l : List ℕ) (k at x : ℕ) → (k < at) ⊎ (at + 10 ≤ k) → reference_in (set l k x) at ≡ reference_in l at
reference_other l k at x apart =
    let differs : at ≢ k = elim apart [ inl before ↦ omega arith | inr after ↦ omega arith ] in
    let differs_more : at + 1 ≢ k = elim apart [ inl before ↦ omega arith | inr after ↦ omega arith ] in
    let limit = get_or-set_other l k at x 0 differs in
    let tries = get_or-set_other l k (at + 1) x 0 differs_more in
    let secret = bytes_at-set l k x (at + 2) 8 (elim apart [ inl before ↦ inl (omega arith) | inr after ↦ inr (omega arith) ]) in
    λ i. record { limit = limit i; tries = tries i; secret = secret i }

global_other : (l : List ℕ) (k x : ℕ) → k < 20 → global_in (set l k x) ≡ global_in l
global_other l k x below =
    let differs : 20 ≢ k = omega arith in
    let limit = get_or-set_other l k 20 x 0 differs in
    let whole = reference_other l k 20 x (inl below) in
    λ i. if limit i == 0 then None else Some (whole i)

-- other tries of a reference
abbrev pub tries_are : ℕ → Reference → Reference
tries_are x r = record r { tries = x }

-- a Global PIN's counter
global_set : (l : List ℕ) (x : ℕ) → 30 ≤ length l → global_in (set l 21 x) ≡ option_map {T = Reference} {U = Reference} (tries_are x) (global_in l)
global_set l x within =
    let differs : 20 ≢ 21 = omega arith in
    let limit = get_or-set_other l 21 20 x 0 differs in
    let whole = reference_set l 20 x (omega arith) in
    (λ i. if limit i == 0 then None else Some (whole i)) ∙ by_limit (get_or l 20 0 == 0)
  where
    by_limit : (b : Bool) → (if b then None else Some (record (reference_in l 20) { tries = x })) ≡ option_map {T = Reference} {U = Reference} (tries_are x) (if b then None else Some (reference_in l 20))
    by_limit true = refl
    by_limit false = refl

pub tries_set : (r : RefId) (l : List ℕ) (x : ℕ) (m : Memory) → length l ≡ 30 → with_references l m ≡ m → with_references (set l (place_of_tries r) x) m ≡ change_reference r (tries_are x) m
tries_set Pin l x m size spells =
    let pin = reference_set l 0 x (omega arith) in
    let puk = reference_other l 1 10 x (inl (omega arith)) in
    let global = global_other l 1 x (omega arith) in
    (λ i. record m { pin = pin i; puk = puk i; global = global i }) ∙ ap (change_reference Pin (tries_are x)) spells
tries_set Puk l x m size spells =
    let puk = reference_set l 10 x (omega arith) in
    let pin = reference_other l 11 0 x (inr (omega arith)) in
    let global = global_other l 11 x (omega arith) in
    (λ i. record m { pin = pin i; puk = puk i; global = global i }) ∙ ap (change_reference Puk (tries_are x)) spells
tries_set GlobalPin l x m size spells =
    let pin = reference_other l 21 0 x (inr (omega arith)) in
    let puk = reference_other l 21 10 x (inr (omega arith)) in
    let global = global_set l x (omega arith) in
    (λ i. record m { pin = pin i; puk = puk i; global = global i }) ∙ ap (change_reference GlobalPin (tries_are x)) spells

-- the tries that stand there
tries_there : (r : RefId) (l : List ℕ) (m : Memory) → with_references l m ≡ m → IsTrue (has m r) → get_or l (place_of_tries r) 0 ≡ (reference m r).tries
tries_there Pin l m spells has = ap (λ (m : Memory). m.pin.tries) spells
tries_there Puk l m spells has = ap (λ (m : Memory). m.puk.tries) spells
tries_there GlobalPin l m spells has = global_tries (get_or l 20 0 == 0) m.global (ap (λ (m : Memory). m.global) spells) has
  where
    global_tries : (b : Bool) (g : Option Reference) → (if b then None else Some (reference_in l 20)) ≡ g → IsTrue (is_some g) → get_or l 21 0 ≡ (unwrap_or g no_reference).tries
    global_tries true (Some x) is some = cc
    global_tries false (Some x) is some = ap (λ (g : Option Reference). (unwrap_or g no_reference).tries) is
    global_tries true None is some = cc
    global_tries false None is some = cc

-- one try less, where this is the tries that the reference has
tries_change : (r : RefId) (x : ℕ) (f : Reference → Reference) (m : Memory) → IsTrue (has m r) → tries_are x (reference m r) ≡ f (reference m r) → change_reference r (tries_are x) m ≡ change_reference r f m
tries_change Pin x f m has same = λ i. record m { pin = same i }
tries_change Puk x f m has same = λ i. record m { puk = same i }
tries_change GlobalPin x f m has same = λ i. record m { global = (by_global m.global has same) i }
  where
    by_global : (g : Option Reference) → IsTrue (is_some g) → tries_are x (unwrap_or g no_reference) ≡ f (unwrap_or g no_reference) → option_map {T = Reference} {U = Reference} (tries_are x) g ≡ option_map {T = Reference} {U = Reference} f g
    by_global None some same = refl
    by_global (Some y) some same = ap Some same

pub spent_in : (r : RefId) (l : List ℕ) (at x : ℕ) (m : Memory) → length l ≡ 30 → at ≡ place_of_tries r → x ≡ get_or l at 0 - 1 → with_references l m ≡ m → IsTrue (has m r)
    → with_references (set l at x) m ≡ change_reference r one_less m
spent_in r l at x m size is_at is_x spells has =
    let less : x ≡ (reference m r).tries - 1 = is_x ∙ ap (λ k. get_or l k 0 - 1) is_at ∙ ap (λ n. n - 1) (tries_there r l m spells has) in
    ap (λ k. with_references (set l k x) m) is_at ∙ tries_set r l x m size spells
    ∙ tries_change r x one_less m has (λ i. record (reference m r) { tries = less i })

-- the limit that stands there
limit_there : (r : RefId) (l : List ℕ) (m : Memory) → with_references l m ≡ m → IsTrue (has m r) → get_or l (place_of_tries r - 1) 0 ≡ (reference m r).limit
limit_there Pin l m spells has = ap (λ (m : Memory). m.pin.limit) spells
limit_there Puk l m spells has = ap (λ (m : Memory). m.puk.limit) spells
limit_there GlobalPin l m spells has = global_limit (get_or l 20 0 == 0) m.global (ap (λ (m : Memory). m.global) spells) has
  where
    global_limit : (b : Bool) (g : Option Reference) → (if b then None else Some (reference_in l 20)) ≡ g → IsTrue (is_some g) → get_or l 20 0 ≡ (unwrap_or g no_reference).limit
    global_limit true (Some x) is some = cc
    global_limit false (Some x) is some = ap (λ (g : Option Reference). (unwrap_or g no_reference).limit) is
    global_limit true None is some = cc
    global_limit false None is some = cc

pub filled_in : (r : RefId) (l : List ℕ) (at : ℕ) (m : Memory) → length l ≡ 30 → at ≡ place_of_tries r → with_references l m ≡ m → IsTrue (has m r)
    → with_references (set l at (get_or l (at - 1) 0)) m ≡ change_reference r full m
filled_in r l at m size is_at spells has =
    let whole : get_or l (at - 1) 0 ≡ (reference m r).limit = ap (λ k. get_or l (k - 1) 0) is_at ∙ limit_there r l m spells has in
    ap (λ k. with_references (set l k (get_or l (at - 1) 0)) m) is_at ∙ tries_set r l (get_or l (at - 1) 0) m size spells
    ∙ tries_change r (get_or l (at - 1) 0) full m has (λ i. record (reference m r) { tries = whole i })

-- another secret
reference_secret : (l : List ℕ) (at : ℕ) (secret : List ℕ) → at + 10 ≤ length l → length secret ≡ 8 → reference_in (overwrite l (at + 2) secret) at ≡ record (reference_in l at) { secret = secret }
reference_secret l at secret within eight =
    let fits : at + 2 + length secret ≤ length l = omega arith in
    let limit = get_or-overwrite_below l (at + 2) secret at 0 (omega arith) fits in
    let tries = get_or-overwrite_below l (at + 2) secret (at + 1) 0 (omega arith) fits in
    let bytes = ap (λ n. bytes_at (overwrite l (at + 2) secret) (at + 2) n) (sym eight) ∙ bytes_at-overwrite l (at + 2) secret fits in
    λ i. record { limit = limit i; tries = tries i; secret = bytes i }

pub reference_apart : (l : List ℕ) (place at : ℕ) (secret : List ℕ) → (place + length secret ≤ at) ⊎ (at + 10 ≤ place) → at + 10 ≤ length l → place + length secret ≤ length l → reference_in (overwrite l place secret) at ≡ reference_in l at
reference_apart l place at secret (inl before) within fits =
    let limit = get_or-overwrite_above l place secret at 0 before fits in
    let tries = get_or-overwrite_above l place secret (at + 1) 0 (omega arith) fits in
    let bytes = bytes_at-overwrite_above l place secret (at + 2) 8 (omega arith) (omega arith) fits in
    λ i. record { limit = limit i; tries = tries i; secret = bytes i }
reference_apart l place at secret (inr after) within fits =
    let limit = get_or-overwrite_below l place secret at 0 (omega arith) fits in
    let tries = get_or-overwrite_below l place secret (at + 1) 0 (omega arith) fits in
    let bytes = bytes_at-overwrite_below l place secret (at + 2) 8 (omega arith) fits in
    λ i. record { limit = limit i; tries = tries i; secret = bytes i }

abbrev pub secret_is : List ℕ → Reference → Reference
secret_is secret x = record x { secret = secret }

secret_set : (r : RefId) (l secret : List ℕ) (m : Memory) → length l ≡ 30 → length secret ≡ 8 → with_references l m ≡ m → with_references (overwrite l (place_of_tries r + 1) secret) m ≡ change_reference r (secret_is secret) m
secret_set Pin l secret m size eight spells =
    let pin = reference_secret l 0 secret (omega arith) eight in
    let puk = reference_apart l 2 10 secret (inl (omega arith)) (omega arith) (omega arith) in
    let limit = get_or-overwrite_above l 2 secret 20 0 (omega arith) (omega arith) in
    let whole = reference_apart l 2 20 secret (inl (omega arith)) (omega arith) (omega arith) in
    (λ i. record m { pin = pin i; puk = puk i; global = (if limit i == 0 then None else Some (whole i)) }) ∙ ap (change_reference Pin (secret_is secret)) spells
secret_set Puk l secret m size eight spells =
    let pin = reference_apart l 12 0 secret (inr (omega arith)) (omega arith) (omega arith) in
    let puk = reference_secret l 10 secret (omega arith) eight in
    let limit = get_or-overwrite_above l 12 secret 20 0 (omega arith) (omega arith) in
    let whole = reference_apart l 12 20 secret (inl (omega arith)) (omega arith) (omega arith) in
    (λ i. record m { pin = pin i; puk = puk i; global = (if limit i == 0 then None else Some (whole i)) }) ∙ ap (change_reference Puk (secret_is secret)) spells
secret_set GlobalPin l secret m size eight spells =
    let pin = reference_apart l 22 0 secret (inr (omega arith)) (omega arith) (omega arith) in
    let puk = reference_apart l 22 10 secret (inr (omega arith)) (omega arith) (omega arith) in
    let limit = get_or-overwrite_below l 22 secret 20 0 (omega arith) (omega arith) in
    let whole = reference_secret l 20 secret (omega arith) eight in
    (λ i. record m { pin = pin i; puk = puk i; global = (if limit i == 0 then None else Some (whole i)) })
    ∙ (λ i. record m { pin = reference_in l 0; puk = reference_in l 10; global = (by_limit (get_or l 20 0 == 0)) i })
    ∙ ap (change_reference GlobalPin (secret_is secret)) spells
  where
    by_limit : (b : Bool) → (if b then None else Some (secret_is secret (reference_in l 20))) ≡ option_map {T = Reference} {U = Reference} (secret_is secret) (if b then None else Some (reference_in l 20))
    by_limit true = refl
    by_limit false = refl

-- two changes of one reference
change_twice : (r : RefId) (f g : Reference → Reference) (m : Memory) → change_reference r f (change_reference r g m) ≡ change_reference r (λ x. f (g x)) m
change_twice Pin f g m = refl
change_twice Puk f g m = refl
change_twice GlobalPin f g m = λ i. record m { global = (by_global m.global) i }
  where
    by_global : (o : Option Reference) → option_map {T = Reference} {U = Reference} f (option_map {T = Reference} {U = Reference} g o) ≡ option_map {T = Reference} {U = Reference} (λ x. f (g x)) o
    by_global None = refl
    by_global (Some x) = refl

-- what these bytes spell is what they spell
spells_itself : (l : List ℕ) (m n : Memory) → with_references l m ≡ n → with_references l n ≡ n
spells_itself l m n is = ap (with_references l) (sym is) ∙ is

pub renewed_in : (r : RefId) (l secret : List ℕ) (at : ℕ) (m : Memory) → length l ≡ 30 → length secret ≡ 8 → at ≡ place_of_tries r → with_references l m ≡ change_reference r full m
    → with_references (overwrite l (at + 1) secret) m ≡ change_reference r (renewed secret) m
renewed_in r l secret at m size eight is_at filled =
    let full_one = change_reference r full m in
    let here = spells_itself l m full_one filled in
    let written = secret_set r l secret full_one size eight here in
    ap (λ k. with_references (overwrite l (k + 1) secret) m) is_at
    ∙ same_base r
    ∙ written ∙ change_twice r (secret_is secret) full m
  where
    same_base : (r : RefId) → with_references (overwrite l (place_of_tries r + 1) secret) m ≡ with_references (overwrite l (place_of_tries r + 1) secret) (change_reference r full m)
    same_base Pin = refl
    same_base Puk = refl
    same_base GlobalPin = refl

pub unblocked_in : (l1 l2 secret : List ℕ) (m : Memory) → with_references l1 m ≡ change_reference Puk full m → (with_references l1 (change_reference Puk full m) ≡ change_reference Puk full m → with_references l2 (change_reference Puk full m) ≡ change_reference Pin (renewed secret) (change_reference Puk full m))
    → with_references l2 m ≡ unblocked secret m
unblocked_in l1 l2 secret m filled next = next (spells_itself l1 m (change_reference Puk full m) filled)

-- whether there is such a reference
pub there_is : (r : RefId) (l : List ℕ) (b : Bool) (m : Memory) → (b ≡ not (get_or l 20 0 == 0)) → with_references l m ≡ m → b ≡ has m GlobalPin
there_is r l b m is spells = is ∙ by_limit (get_or l 20 0 == 0) ∙ ap (λ (m : Memory). is_some m.global) spells
  where
    by_limit : (b : Bool) → not b ≡ is_some (if b then None else Some (reference_in l 20))
    by_limit true = refl
    by_limit false = refl

secret_there : (r : RefId) (l : List ℕ) (m : Memory) → with_references l m ≡ m → IsTrue (has m r) → bytes_at l (place_of_tries r + 1) 8 ≡ (reference m r).secret
secret_there Pin l m spells has = ap (λ (m : Memory). m.pin.secret) spells
secret_there Puk l m spells has = ap (λ (m : Memory). m.puk.secret) spells
secret_there GlobalPin l m spells has = global_secret (get_or l 20 0 == 0) m.global (ap (λ (m : Memory). m.global) spells) has
  where
    global_secret : (b : Bool) (g : Option Reference) → (if b then None else Some (reference_in l 20)) ≡ g → IsTrue (is_some g) → bytes_at l 22 8 ≡ (unwrap_or g no_reference).secret
    global_secret true (Some x) is some = cc
    global_secret false (Some x) is some = ap (λ (g : Option Reference). (unwrap_or g no_reference).secret) is
    global_secret true None is some = cc
    global_secret false None is some = cc

pub is_secret_there : (r : RefId) (l candidate : List ℕ) (at : ℕ) (b : Bool) (m : Memory) → at ≡ place_of_tries r → b ≡ bytes_eq candidate (bytes_at l (at + 1) 8) → with_references l m ≡ m → IsTrue (has m r) → b ≡ bytes_eq candidate (reference m r).secret
is_secret_there r l candidate at b m is_at is spells has = is ∙ ap (λ k. bytes_eq candidate (bytes_at l (k + 1) 8)) is_at ∙ ap (bytes_eq candidate) (secret_there r l m spells has)

-- no candidate is the secret of a reference that isn't there
pub none_there : (r : RefId) (candidate : List ℕ) (m : Memory) → length candidate ≡ 8 → has m r ≡ false → false ≡ bytes_eq candidate (reference m r).secret
none_there Pin candidate m eight none = cc
none_there Puk candidate m eight none = cc
none_there GlobalPin candidate m eight none = by_global m.global none candidate eight
  where
    by_global : (g : Option Reference) → is_some g ≡ false → (c : List ℕ) → length c ≡ 8 → false ≡ bytes_eq c (unwrap_or g no_reference).secret
    by_global (Some x) none c eight = cc
    by_global None none [] eight = absurd (omega arith)
    by_global None none (b ∷ c) eight = refl
