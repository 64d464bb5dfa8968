-- A memory that a card can have stays one, whatever a store does to it.
use Rattle.std.proofs.Common.{◌≡◌, ◌⊎◌, inl, inr, ℕ, zero, suc, ◌+◌, ◌<◌, ◌≤◌, ◌&&◌, Bool, true, List, [], ◌∷◌, Option, Some, None, length, get_or, set, IsTrue, refl, sym, ◌∙◌, subst, arith}
use Rattle.std.specs.Prelude.{option_map, is_some}
use Rattle.std.specs.List.{list_all}
use Rattle.std.proofs.lemmas.Bool.{cases_eq, cases_lt, and_parts}
use Rattle.std.proofs.lemmas.Bool.Decides.{nat_tests}
use Rattle.std.proofs.lemmas.List.{get_or-set_same, get_or-set_other, set_past, length-set}
use Rattle.std.proofs.lemmas.List.Sums.{sum_by-cons}
use Rattle.piv_model.specs.declared.kinds.RefId.{RefId}
use Rattle.piv_model.specs.declared.kinds.RefId.TheVariants.{Pin, Puk, GlobalPin}
use Rattle.piv_model.specs.declared.kinds.KeyId.TheVariants.{AdminKey, CardAuth}
use Rattle.piv_model.specs.Forms.{is_pin, is_secret}
use Rattle.piv_model.specs.Memory.{Memory, Reference, blocks, blocks_used, fits, is_short}
use Rattle.piv_model.specs.Changes.{change_reference, one_less, full, renewed, unblocked, with_object}
use Rattle.piv_model.specs.Sound.{IsSound, is_limited, is_limited_if_any, may_stand}
use Rattle.piv_model.specs.Base.{Base, is_valid}

-- ---- references

-- a reference stays within its limit, and its secret keeps its form
record Keeps (r : RefId) (f : Reference → Reference) : Type 0 where
  limited : (x : Reference) → IsTrue (is_limited x) → IsTrue (is_limited (f x))
  formed : (x : Reference) → IsTrue (is_secret r x.secret) → IsTrue (is_secret r (f x).secret)

change_global : (f : Reference → Reference) (m : Memory) (g : Option Reference) → Keeps GlobalPin f
    → IsSound (record m { global = g }) → IsSound (record m { global = option_map f g })
change_global f m None keeps sound = sound
change_global f m (Some x) keeps sound = record {
  limits = elim [
    | Pin ↦ λ h. sound.limits Pin h
    | Puk ↦ λ h. sound.limits Puk h
    | GlobalPin ↦ λ h. keeps.limited x (sound.limits GlobalPin refl)
  ];
  secrets = elim [
    | Pin ↦ λ h. sound.secrets Pin h
    | Puk ↦ λ h. sound.secrets Puk h
    | GlobalPin ↦ λ h. keeps.formed x (sound.secrets GlobalPin refl)
  ];
  keys = sound.keys;
  budget = sound.budget;
  places = sound.places;
  lengths = sound.lengths;
  room = sound.room;
  discovery = sound.discovery;
}

sound_changed : (r : RefId) (f : Reference → Reference) (m : Memory) → Keeps r f → IsSound m → IsSound (change_reference r f m)
sound_changed Pin f m keeps sound = record {
  limits = elim [
    | Pin ↦ λ h. keeps.limited m.pin (sound.limits Pin refl)
    | Puk ↦ λ h. sound.limits Puk h
    | GlobalPin ↦ λ h. sound.limits GlobalPin h
  ];
  secrets = elim [
    | Pin ↦ λ h. keeps.formed m.pin (sound.secrets Pin refl)
    | Puk ↦ λ h. sound.secrets Puk h
    | GlobalPin ↦ λ h. sound.secrets GlobalPin h
  ];
  keys = elim [ AdminKey ↦ sound.keys AdminKey | CardAuth ↦ sound.keys CardAuth ];
  budget = sound.budget;
  places = sound.places;
  lengths = sound.lengths;
  room = sound.room;
  discovery = sound.discovery;
}
sound_changed Puk f m keeps sound = record {
  limits = elim [
    | Pin ↦ λ h. sound.limits Pin h
    | Puk ↦ λ h. keeps.limited m.puk (sound.limits Puk refl)
    | GlobalPin ↦ λ h. sound.limits GlobalPin h
  ];
  secrets = elim [
    | Pin ↦ λ h. sound.secrets Pin h
    | Puk ↦ λ h. keeps.formed m.puk (sound.secrets Puk refl)
    | GlobalPin ↦ λ h. sound.secrets GlobalPin h
  ];
  keys = elim [ AdminKey ↦ sound.keys AdminKey | CardAuth ↦ sound.keys CardAuth ];
  budget = sound.budget;
  places = sound.places;
  lengths = sound.lengths;
  room = sound.room;
  discovery = sound.discovery;
}
sound_changed GlobalPin f m keeps sound = change_global f m m.global keeps sound

limited-parts : (x : Reference) → IsTrue (is_limited x) → (1 ≤ x.limit) × (x.limit ≤ 15) × (x.tries ≤ x.limit)
limited-parts x h = (grind (arith, nat_tests), grind (arith, nat_tests), grind (arith, nat_tests))

limited-of : (x : Reference) → 1 ≤ x.limit → x.limit ≤ 15 → x.tries ≤ x.limit → IsTrue (is_limited x)
limited-of x some few within = grind (arith, nat_tests)

pub sound_spent : (r : RefId) (m : Memory) → IsSound m → IsSound (change_reference r one_less m)
sound_spent r m sound = sound_changed r one_less m (record {
  limited = λ x h. let p = limited-parts x h in limited-of (one_less x) p.0 p.1 (omega (arith, p.2));
  formed = λ x h. h;
}) sound

pub sound_filled : (r : RefId) (m : Memory) → IsSound m → IsSound (change_reference r full m)
sound_filled r m sound = sound_changed r full m (record {
  limited = λ x h. let p = limited-parts x h in limited-of (full x) p.0 p.1 (omega arith);
  formed = λ x h. h;
}) sound

pub sound_renewed : (r : RefId) (n : List ℕ) (m : Memory) → IsTrue (is_secret r n) → IsSound m → IsSound (change_reference r (renewed n) m)
sound_renewed r n m form sound = sound_changed r (renewed n) m (record {
  limited = λ x h. let p = limited-parts x h in limited-of (renewed n x) p.0 p.1 (omega arith);
  formed = λ x h. form;
}) sound

pub sound_unblocked : (n : List ℕ) (m : Memory) → IsTrue (is_pin n) → IsSound m → IsSound (unblocked n m)
sound_unblocked n m form sound = sound_renewed Pin n (change_reference Puk full m) form (sound_filled Puk m sound)

-- ---- objects

-- the blocks of all objects, after one of them got another value
used-set : (objects : List (List ℕ)) (place : ℕ) (v : List ℕ) → blocks_used (set objects place v) ≤ blocks (length v) + blocks_used objects
used-set [] place v = omega arith
used-set (o ∷ objects) zero v =
    let new = sum_by-cons (λ (o : List ℕ). blocks (length o)) v objects in
    let old = sum_by-cons (λ (o : List ℕ). blocks (length o)) o objects in
    omega (arith, new, old)
used-set (o ∷ objects) (suc place) v =
    let new = sum_by-cons (λ (o : List ℕ). blocks (length o)) o (set objects place v) in
    let old = sum_by-cons (λ (o : List ℕ). blocks (length o)) o objects in
    omega (arith, new, old, used-set objects place v)

all-set : (test : List ℕ → Bool) (objects : List (List ℕ)) (place : ℕ) (v : List ℕ) → IsTrue (test v) → IsTrue (list_all test objects) → IsTrue (list_all test (set objects place v))
all-set test [] place v new all = all
all-set test (o ∷ objects) zero v new all = let parts = and_parts (test o) (list_all test objects) all in rw (new, parts.1) refl
all-set test (o ∷ objects) (suc place) v new all =
    let parts = and_parts (test o) (list_all test objects) all in
    rw (parts.0, all-set test objects place v new parts.1) refl

-- an object is the one that was set, or as before
object-set : (objects : List (List ℕ)) (place other : ℕ) (v : List ℕ)
    → (get_or (set objects place v) other [] ≡ get_or objects other []) ⊎ ((other ≡ place) × (get_or (set objects place v) other [] ≡ v))
object-set objects place other v = elim (cases_eq other place) [
  | inr differs ↦ inl (get_or-set_other objects place other v [] differs)
  | inl same ↦ elim (cases_lt other (length objects)) [
    | inl within ↦ inr (same, rw same (let inside : place < length objects = omega arith in get_or-set_same objects place v [] inside))
    | inr past ↦ let beyond : length objects ≤ place = omega arith in inl (rw set_past refl)
  ]
]

fits-parts : (m : Memory) (v : List ℕ) → fits m v ≡ true → IsTrue (is_short v) × (blocks (length v) + blocks_used m.objects ≤ m.budget)
unfolding fits
fits-parts m v h = let parts = and_parts _ _ h in (parts.0, grind (arith, nat_tests))

pub sound_put : (place : ℕ) (v : List ℕ) (m : Memory) → fits m v ≡ true → IsTrue (may_stand (is_some m.global) place v) → IsSound m → IsSound (with_object place v m)
sound_put place v m fit form sound =
    let parts = fits-parts m v fit in
    let used = used-set m.objects place v in
    let room : blocks_used (set m.objects place v) ≤ m.budget = omega arith in
    record {
      limits = elim [ Pin ↦ sound.limits Pin | Puk ↦ sound.limits Puk | GlobalPin ↦ sound.limits GlobalPin ];
      secrets = elim [ Pin ↦ sound.secrets Pin | Puk ↦ sound.secrets Puk | GlobalPin ↦ sound.secrets GlobalPin ];
      keys = elim [ AdminKey ↦ sound.keys AdminKey | CardAuth ↦ sound.keys CardAuth ];
      budget = sound.budget;
      places = length-set m.objects place v ∙ sound.places;
      lengths = all-set is_short m.objects place v parts.0 sound.lengths;
      room = grind (arith, nat_tests);
      discovery = elim (object-set m.objects place 10 v) [
        | inl old ↦ subst (λ (o : List ℕ). IsTrue (may_stand (is_some m.global) 10 o)) (sym old) sound.discovery
        | inr new ↦ subst (λ (o : List ℕ). IsTrue (may_stand (is_some m.global) 10 o)) (sym new.1)
            (subst (λ (n : ℕ). IsTrue (may_stand (is_some m.global) n v)) (sym new.0) form)
      ];
    }

-- ---- a card that begins with such a memory

limited-any : (m : Memory) (g : Option Reference) → IsSound (record m { global = g }) → IsTrue (is_limited_if_any g)
limited-any m None sound = refl
limited-any m (Some x) sound = sound.limits GlobalPin refl

five : (a b c d e : Bool) → a ≡ true → b ≡ true → c ≡ true → d ≡ true → e ≡ true → (a && b && c && d && e) ≡ true
five a b c d e ha hb hc hd he = rw (ha, hb, hc, hd, he) refl

pub sound_valid : (B : Base) → IsSound B.memory → length B.random ≡ 32 → IsTrue (is_valid B)
unfolding is_valid
sound_valid B sound random =
    five _ _ _ _ _ (sound.limits Pin refl) (sound.limits Puk refl) (limited-any B.memory B.memory.global sound)
    (rw sound.places refl) (rw random refl)
