-- Connections in slots: one slot set anew, and all of them.
use Rattle.std.specs.Prelude.{◌==◌, ◌||◌, if◌then◌else◌, option_map, is_none, position, IsSome, is_some, nat_lt}
use Rattle.std.specs.List.{position_or_len}
use Rattle.std.proofs.Common.{◌≡◌, ◌<◌, ◌≤◌, ◌+◌, ℕ, zero, suc, Bool, true, false, List, [], ◌∷◌, ◌++◌, Option, Some, None, refl, ap, sym, ◌∙◌, eqb-true, subst, arith, length, get_or, set}
use Rattle.std.proofs.lemmas.Bool.Decides.{nat_tests}
use Rattle.std.proofs.lemmas.List.Quantifiers.{position-Some}
use Rattle.card_laws.specs.StandsFor.{Attached}
use Rattle.card_laws.specs.ConnectionSteps.{with_at}
use Rattle.card_app.specs.declared.slot.Connection.{Connection}
use Rattle.card_app.specs.declared.slot.Slot.{Slot}
use Rattle.card_app.specs.Kept.{attached_as, is_numbered, is_at, slot_attached, attached_in, is_among, AreApart, EachBecameBy, is_free, IsPlaced, AreFree}

-- no other slot has it, and the slot at that place has no other number
abbrev pub IsAlone : List Slot → ℕ → ℕ → Type 0
IsAlone [] i c = ⊥
IsAlone (s ∷ ss) zero c = (is_among ss c ≡ false) × ((d : ℕ) → (c == d) ≡ false → is_at s d ≡ false)
IsAlone (s ∷ ss) (suc i) c = (is_at s c ≡ false) × IsAlone ss i c

number-is : (o : Option Connection) (c d : ℕ) → is_numbered c o ≡ true → (c == d) ≡ false → is_numbered d o ≡ false
number-is None c d h other = absurd (cc)
number-is (Some x) c d h other = let e : x.c ≡ c = eqb-true x.c c h in rw e other

or-false : (a b : Bool) → (a || b) ≡ false → (a ≡ false) × (b ≡ false)
or-false false b h = (refl, h)
or-false true b h = absurd (cc)

-- ---- what is found

pub unfound : (ss : List Slot) (c : ℕ) → is_among ss c ≡ false → attached_in ss c ≡ None
unfound [] c h = refl
unfound (s ∷ ss) c h =
    let p = or-false (is_at s c) (is_among ss c) h in
    rw p.0 (unfound ss c p.1)

some-attached : (s : Slot) (c : ℕ) → is_at s c ≡ true → slot_attached s ≡ None → ⊥
some-attached s c h none = go s.connection h none
  where
    go : (o : Option Connection) → is_numbered c o ≡ true → option_map (attached_as s.joiner s.pieces) o ≡ None → ⊥
    go None k e = absurd (cc)
    go (Some x) k e = absurd (cc)

pub found-none : (ss : List Slot) (c : ℕ) → attached_in ss c ≡ None → is_among ss c ≡ false
found-none [] c h = refl
found-none (s ∷ ss) c h = go (is_at s c) refl (found-none ss c) h
  where
    go : (b : Bool) → is_at s c ≡ b → (attached_in ss c ≡ None → is_among ss c ≡ false)
        → (if b then slot_attached s else attached_in ss c) ≡ None → (b || is_among ss c) ≡ false
    go true e ih none = absurd (some-attached s c e none)
    go false e ih none = ih none

-- ---- a slot that is alone with its number

among-placed : (ss : List Slot) (i c : ℕ) → IsPlaced ss i c → is_among ss c ≡ true
among-placed [] i c h = absurd h
among-placed (t ∷ ts) zero c h = rw h refl
among-placed (t ∷ ts) (suc i) c h = rw (among-placed ts i c h) (either (is_at t c))
  where
    either : (b : Bool) → (b || true) ≡ true
    either true = refl
    either false = refl

pub alone-placed : (ss : List Slot) (i c : ℕ) → AreApart ss → IsPlaced ss i c → IsAlone ss i c
alone-placed [] i c apart placed = placed
alone-placed (s ∷ ss) zero c apart placed = (apart.0 c placed, λ d other. number-is s.connection c d placed other)
alone-placed (s ∷ ss) (suc i) c apart placed = (first (is_at s c) refl, alone-placed ss i c apart.1 placed)
  where
    first : (b : Bool) → is_at s c ≡ b → is_at s c ≡ false
    first false e = e
    first true e = absurd (let f : true ≡ false = sym (among-placed ss i c placed) ∙ apart.0 c e in cc)

-- a slot that has no connection
abbrev pub IsFree : List Slot → ℕ → Type 0
IsFree [] i = ⊥
IsFree (s ∷ ss) zero = s.connection ≡ None
IsFree (s ∷ ss) (suc i) = IsFree ss i

pub alone-free : (ss : List Slot) (i c : ℕ) → is_among ss c ≡ false → IsFree ss i → IsAlone ss i c
alone-free [] i c none free = free
alone-free (s ∷ ss) zero c none free = ((or-false (is_at s c) (is_among ss c) none).1, λ d other. ap (is_numbered d) free)
alone-free (s ∷ ss) (suc i) c none free =
    let p = or-false (is_at s c) (is_among ss c) none in
    (p.0, alone-free ss i c p.1 free)

-- ---- one slot set anew

pub attached-set : (ss : List Slot) (i c : ℕ) (t : Slot) → IsAlone ss i c → ((d : ℕ) → (c == d) ≡ false → is_at t d ≡ false)
    → (d : ℕ) → attached_in (set ss i t) d ≡ with_at c (if is_at t c then slot_attached t else None) (attached_in ss) d
attached-set [] i c t alone own d = absurd alone
attached-set (s ∷ ss) zero c t alone own d = go (c == d) refl
  where
    go : (b : Bool) → (c == d) ≡ b
        → (if is_at t d then slot_attached t else attached_in ss d)
        ≡ (if b then (if is_at t c then slot_attached t else None) else (if is_at s d then slot_attached s else attached_in ss d))
    go true e =
        let n : c ≡ d = eqb-true c d e in
        let none : attached_in ss d ≡ None = subst (λ (j : ℕ). attached_in ss j ≡ None) n (unfound ss c alone.0) in
        λ j. if is_at t (sym n j) then slot_attached t else none j
    go false e =
        let mine = own d e in
        let old = alone.1 d e in
        (λ j. if mine j then slot_attached t else attached_in ss d) ∙ sym (λ j. if old j then slot_attached s else attached_in ss d)
attached-set (s ∷ ss) (suc i) c t alone own d = go (c == d) refl (attached-set ss i c t alone.1 own d)
  where
    go : (b : Bool) → (c == d) ≡ b
        → attached_in (set ss i t) d ≡ with_at c (if is_at t c then slot_attached t else None) (attached_in ss) d
        → (if is_at s d then slot_attached s else attached_in (set ss i t) d)
        ≡ (if b then (if is_at t c then slot_attached t else None) else (if is_at s d then slot_attached s else attached_in ss d))
    go true e ih =
        let n : c ≡ d = eqb-true c d e in
        let not_here : is_at s d ≡ false = subst (λ (j : ℕ). is_at s j ≡ false) n alone.0 in
        (λ j. if not_here j then slot_attached s else attached_in (set ss i t) d) ∙ ih
        ∙ (λ j. if e j then (if is_at t c then slot_attached t else None) else attached_in ss d)
    go false e ih =
        let rest : attached_in (set ss i t) d ≡ attached_in ss d = ih ∙ (λ j. if e j then (if is_at t c then slot_attached t else None) else attached_in ss d) in
        λ j. if is_at s d then slot_attached s else rest j

among-set : (ss : List Slot) (i c : ℕ) (t : Slot) → IsAlone ss i c → ((d : ℕ) → (c == d) ≡ false → is_at t d ≡ false)
    → (d : ℕ) → (c == d) ≡ false → is_among (set ss i t) d ≡ is_among ss d
among-set [] i c t alone own d other = absurd alone
among-set (s ∷ ss) zero c t alone own d other =
    let mine = own d other in
    let old = alone.1 d other in
    (λ j. mine j || is_among ss d) ∙ sym (λ j. old j || is_among ss d)
among-set (s ∷ ss) (suc i) c t alone own d other = ap (λ b. is_at s d || b) (among-set ss i c t alone.1 own d other)

pub apart-set : (ss : List Slot) (i c : ℕ) (t : Slot) → AreApart ss → IsAlone ss i c → ((d : ℕ) → (c == d) ≡ false → is_at t d ≡ false) → AreApart (set ss i t)
apart-set [] i c t apart alone own = absurd alone
apart-set (s ∷ ss) zero c t apart alone own = ((λ d here. go d (c == d) refl here), apart.1)
  where
    go : (d : ℕ) (b : Bool) → (c == d) ≡ b → is_at t d ≡ true → is_among ss d ≡ false
    go d true e here = subst (λ (j : ℕ). is_among ss j ≡ false) (eqb-true c d e) alone.0
    go d false e here = absurd (let f : true ≡ false = sym here ∙ own d e in cc)
apart-set (s ∷ ss) (suc i) c t apart alone own = ((λ d here. go d (c == d) refl here), apart-set ss i c t apart.1 alone.1 own)
  where
    go : (d : ℕ) (b : Bool) → (c == d) ≡ b → is_at s d ≡ true → is_among (set ss i t) d ≡ false
    go d true e here = absurd (let f : true ≡ false = sym here ∙ subst (λ (j : ℕ). is_at s j ≡ false) (eqb-true c d e) alone.0 in cc)
    go d false e here = among-set ss i c t alone.1 own d e ∙ apart.0 d here

-- ---- all slots changed in a way that keeps their numbers

each-rest : (h : Attached → Attached) (s t : Slot) (ss ts : List Slot) → EachBecameBy h (s ∷ ss) (t ∷ ts) → EachBecameBy h ss ts
each-rest h s t ss ts e = (
  (let n : suc (length ts) ≡ suc (length ss) = e.0 in omega arith),
  (λ k d below. e.1 (suc k) d (let b : suc k < suc (length ss) = omega arith in b)),
)

pub each-attached : (h : Attached → Attached) (ss ts : List Slot) → EachBecameBy h ss ts
    → (c : ℕ) → attached_in ts c ≡ option_map h (attached_in ss c)
each-attached h [] [] e c = refl
each-attached h [] (t ∷ ts) e c = absurd (let n : suc (length ts) ≡ 0 = e.0 in omega arith)
each-attached h (s ∷ ss) [] e c = absurd (let n : 0 ≡ suc (length ss) = e.0 in omega arith)
each-attached h (s ∷ ss) (t ∷ ts) e c =
    let here = e.1 0 s (let b : 0 < suc (length ss) = omega arith in b) in
    let n = here.numbered c in
    let x = here.attached in
    let r = each-attached h ss ts (each-rest h s t ss ts e) c in
    (λ j. if n j then x j else r j) ∙ by (is_at s c) (slot_attached s) (attached_in ss c)
  where
    by : (b : Bool) (x y : Option Attached) → (if b then option_map h x else option_map h y) ≡ option_map h (if b then x else y)
    by true x y = refl
    by false x y = refl

each-among : (h : Attached → Attached) (ss ts : List Slot) → EachBecameBy h ss ts → (c : ℕ) → is_among ts c ≡ is_among ss c
each-among h [] [] e c = refl
each-among h [] (t ∷ ts) e c = absurd (let n : suc (length ts) ≡ 0 = e.0 in omega arith)
each-among h (s ∷ ss) [] e c = absurd (let n : 0 ≡ suc (length ss) = e.0 in omega arith)
each-among h (s ∷ ss) (t ∷ ts) e c =
    let n = (e.1 0 s (let b : 0 < suc (length ss) = omega arith in b)).numbered c in
    let r = each-among h ss ts (each-rest h s t ss ts e) c in
    λ j. n j || r j

pub each-apart : (h : Attached → Attached) (ss ts : List Slot) → EachBecameBy h ss ts → AreApart ss → AreApart ts
each-apart h [] [] e apart = tt
each-apart h [] (t ∷ ts) e apart = absurd (let n : suc (length ts) ≡ 0 = e.0 in omega arith)
each-apart h (s ∷ ss) [] e apart = absurd (let n : 0 ≡ suc (length ss) = e.0 in omega arith)
each-apart h (s ∷ ss) (t ∷ ts) e apart = (
  (λ c here. each-among h ss ts (each-rest h s t ss ts e) c
      ∙ apart.0 c (sym ((e.1 0 s (let b : 0 < suc (length ss) = omega arith in b)).numbered c) ∙ here)),
  each-apart h ss ts (each-rest h s t ss ts e) apart.1,
)

-- ---- the place that is found

placed-get : (ss : List Slot) (i c : ℕ) (d : Slot) → i < length ss → is_at (get_or ss i d) c ≡ true → IsPlaced ss i c
placed-get [] i c d below h = absurd (let e : i < 0 = below in omega arith)
placed-get (s ∷ ss) zero c d below h = h
placed-get (s ∷ ss) (suc i) c d below h = placed-get ss i c d (let e : suc i < suc (length ss) = below in omega arith) h

pub position-placed : (ss : List Slot) (i c : ℕ) → position (λ (s : Slot). is_at s c) ss ≡ Some i → IsPlaced ss i c
position-placed [] i c h = absurd (cc)
position-placed (s ∷ ss) i c h =
    let p = position-Some (λ (t : Slot). is_at t c) (s ∷ ss) i s h in
    placed-get (s ∷ ss) i c s p.0 p.1

free-get : (ss : List Slot) (i : ℕ) (d : Slot) → i < length ss → is_free (get_or ss i d) ≡ true → IsFree ss i
free-get [] i d below h = absurd (let e : i < 0 = below in omega arith)
free-get (s ∷ ss) zero d below h = none s.connection h
  where
    none : (o : Option Connection) → is_none o ≡ true → o ≡ None
    none None h = refl
    none (Some x) h = absurd (cc)
free-get (s ∷ ss) (suc i) d below h = free-get ss i d (let e : suc i < suc (length ss) = below in omega arith) h

pub position-free : (ss : List Slot) (i : ℕ) → position is_free ss ≡ Some i → IsFree ss i
position-free [] i h = absurd (cc)
position-free (s ∷ ss) i h = let p = position-Some is_free (s ∷ ss) i s h in free-get (s ∷ ss) i s p.0 p.1

-- no place is found where the number is nowhere
pub unplaced : (ss : List Slot) (c : ℕ) → position (λ (s : Slot). is_at s c) ss ≡ None → IsSome (attached_in ss c) → ⊥
unplaced ss c none some = go (attached_in ss c) (unfound ss c (none-among ss (let h = none in nowhere ss h))) some
  where
    nowhere : (ss : List Slot) → position (λ (s : Slot). is_at s c) ss ≡ None → length ss ≤ position_or_len (λ (s : Slot). is_at s c) ss
    nowhere ss h = by (nat_lt (position_or_len (λ (s : Slot). is_at s c) ss) (length ss)) refl h
      where
        by : (b : Bool) → nat_lt (position_or_len (λ (s : Slot). is_at s c) ss) (length ss) ≡ b
            → (if b then Some (position_or_len (λ (s : Slot). is_at s c) ss) else None) ≡ None
            → length ss ≤ position_or_len (λ (s : Slot). is_at s c) ss
        by true e h = absurd (cc)
        by false e h = grind (arith, nat_tests)

    none-among : (ss : List Slot) → length ss ≤ position_or_len (λ (s : Slot). is_at s c) ss → is_among ss c ≡ false
    none-among [] h = refl
    none-among (s ∷ ss) h = here (is_at s c) refl h (none-among ss)
      where
        here : (b : Bool) → is_at s c ≡ b → suc (length ss) ≤ position_or_len (λ (s : Slot). is_at s c) (s ∷ ss)
            → (length ss ≤ position_or_len (λ (s : Slot). is_at s c) ss → is_among ss c ≡ false) → (is_at s c || is_among ss c) ≡ false
        here true e h ih = absurd (let k : suc (length ss) ≤ 0 = rw e at h in omega arith)
        here false e h ih = rw e (ih (let k : suc (length ss) ≤ 1 + position_or_len (λ (s : Slot). is_at s c) ss = rw e at h in omega arith))

    go : (o : Option Attached) → o ≡ None → IsSome o → ⊥
    go None h k = cc
    go (Some x) h k = cc

-- the first place with the number is that of the connection
attached-first : (ss : List Slot) (i c : ℕ) (d : Slot) → i < length ss → is_at (get_or ss i d) c ≡ true
    → ((k : ℕ) → k < i → is_at (get_or ss k d) c ≡ false) → attached_in ss c ≡ slot_attached (get_or ss i d)
attached-first [] i c d below at before = absurd (let k : i < 0 = below in omega arith)
attached-first (s ∷ ss) zero c d below at before = λ j. if at j then slot_attached s else attached_in ss c
attached-first (s ∷ ss) (suc i) c d below at before =
    let none : is_at s c ≡ false = before 0 (let z : 0 < suc i = omega arith in z) in
    (λ j. if none j then slot_attached s else attached_in ss c)
    ∙ attached-first ss i c d (let e : suc i < suc (length ss) = below in omega arith) at
    (λ k h. before (suc k) (let e : suc k < suc i = omega arith in e))

pub position-attached : (ss : List Slot) (i c : ℕ) (d : Slot) → position (λ (s : Slot). is_at s c) ss ≡ Some i
    → attached_in ss c ≡ slot_attached (get_or ss i d)
position-attached ss i c d h =
    let p = position-Some (λ (s : Slot). is_at s c) ss i d h in
    attached-first ss i c d p.0 p.1 p.2

-- a place is found exactly where the connection is attached
pub place-some : (ss : List Slot) (c : ℕ) → is_some (position (λ (s : Slot). is_at s c) ss) ≡ is_some (attached_in ss c)
place-some ss c = go (position (λ (s : Slot). is_at s c) ss) refl (attached_in ss c) refl
  where
    go : (o : Option ℕ) → position (λ (s : Slot). is_at s c) ss ≡ o → (x : Option Attached) → attached_in ss c ≡ x → is_some o ≡ is_some x
    go None e None f = refl
    go (Some i) e (Some x) f = refl
    go None e (Some x) f = absurd (unplaced ss c e (subst (λ (y : Option Attached). IsSome y) (sym f) refl))
    go (Some i) e None f = absurd (let h : true ≡ false = sym (among-placed ss i c (position-placed ss i c e)) ∙ found-none ss c f in cc)

-- what stands at the place
pub placed-attached : (ss : List Slot) (i c : ℕ) (d : Slot) → AreApart ss → IsPlaced ss i c
    → (attached_in ss c ≡ slot_attached (get_or ss i d)) × (is_at (get_or ss i d) c ≡ true)
placed-attached [] i c d apart placed = absurd placed
placed-attached (s ∷ ss) zero c d apart placed = ((λ j. if placed j then slot_attached s else attached_in ss c), placed)
placed-attached (s ∷ ss) (suc i) c d apart placed =
    let alone = alone-placed (s ∷ ss) (suc i) c apart placed in
    let ih = placed-attached ss i c d apart.1 placed in
    ((λ j. if alone.0 j then slot_attached s else attached_in ss c) ∙ ih.0, ih.1)

pub numbered-some : (s : Slot) (c : ℕ) → is_at s c ≡ true → IsSome s.connection
numbered-some s c h = go s.connection h
  where
    go : (o : Option Connection) → is_numbered c o ≡ true → IsSome o
    go None k = absurd (cc)
    go (Some x) k = refl

pub placed-some : (ss : List Slot) (i c : ℕ) (d : Slot) → IsPlaced ss i c → IsSome (get_or ss i d).connection
placed-some [] i c d placed = absurd placed
placed-some (s ∷ ss) zero c d placed = numbered-some s c placed
placed-some (s ∷ ss) (suc i) c d placed = placed-some ss i c d placed

-- slots without a connection
pub free-more : (ss : List Slot) (s : Slot) → AreFree ss → s.connection ≡ None → AreFree (ss ++ s ∷ [])
free-more [] s free none = (none, tt)
free-more (t ∷ ss) s free none = (free.0, free-more ss s free.1 none)

pub free-among : (ss : List Slot) → AreFree ss → (c : ℕ) → is_among ss c ≡ false
free-among [] free c = refl
free-among (s ∷ ss) free c = λ j. is_numbered c (free.0 j) || free-among ss free.1 c j

pub free-apart : (ss : List Slot) → AreFree ss → AreApart ss
free-apart [] free = tt
free-apart (s ∷ ss) free = ((λ c here. free-among ss free.1 c), free-apart ss free.1)
