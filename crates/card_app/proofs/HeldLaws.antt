-- The bytes of open chains, and which numbers are attached.
use Rattle.std.specs.Prelude.{not, ◌==◌, ◌||◌, if◌then◌else◌, option_map, is_some, IsSome}
use Rattle.std.specs.Vec.{with_items}
use Rattle.std.specs.declared.vec.Vec.{Vec}
use Rattle.std.proofs.Common.{◌≡◌, ◌<◌, ◌≤◌, ◌+◌, ℕ, zero, suc, Bool, true, false, List, [], ◌∷◌, ◌++◌, Option, Some, None, refl, ap, sym, ◌∙◌, subst, arith, length, get_or, set, eqb-true, eq-eqb, IfSome, get_or-set_same, length-set}
use Rattle.std.proofs.lemmas.List.{with_items_is}
use Rattle.piv_model.specs.Commands.{CardCommand}
use Rattle.piv_model.specs.Entries.{CardEntry}
use Rattle.piv_model.specs.Written.{command_length}
use Rattle.piv_model.specs.Stores.{StoreState}
use Rattle.piv_rules.specs.Acts.{CardRecord}
use Rattle.card_laws.specs.StandsFor.{Attached}
use Rattle.piv_chaining.specs.Chains.{Chain, held_by}
use Rattle.card_commands.specs.declared.executed.Broken.{Broken}
use Rattle.card_app.specs.declared.exchanging.Exchanged.{Exchanged}
use Rattle.card_app.specs.declared.exchanging.Exchanged.TheVariants as made
use Rattle.card_app.specs.declared.slot.Connection.{Connection}
use Rattle.card_app.specs.declared.slot.Slot.{Slot}
use Rattle.card_app.specs.Kept.{attached_as, is_numbered, is_at, slot_attached, attached_in, is_among, EachBecameBy, IsPlaced}
use Rattle.card_app.specs.Held.{held_in, taken, KeepsHeld, taken_in, weight}
use Rattle.card_app.specs.declared.card.Outcome.{Outcome}
use Rattle.card_app.specs.declared.card.Turned.{Turned}
use Rattle.card_app.specs.Exchanges.{leaves_on, LeavesStore}
use Rattle.card_app.specs.Outcomes.{exchange_by, exchange_made, entry_by, entry_of_made, LeavesOf}
use Rattle.card_app.proofs.SlotLaws.{IsFree}

-- ---- one slot

pub held-closed : (s : Chain) → s.is_chain ≡ false → held_by s ≡ 0
held-closed s h = rw h refl

-- ---- all slots

pub held-get : (ss : List Slot) (i : ℕ) (d : Slot) → i < length ss → held_by (get_or ss i d).joiner ≤ held_in ss
held-get [] i d below = absurd (let k : i < 0 = below in omega arith)
held-get (s ∷ ss) zero d below = omega arith
held-get (s ∷ ss) (suc i) d below = let ih = held-get ss i d (let k : suc i < suc (length ss) = below in omega arith) in omega arith

pub held-set : (ss : List Slot) (i : ℕ) (t d : Slot) → i < length ss → held_in (set ss i t) + held_by (get_or ss i d).joiner ≡ held_in ss + held_by t.joiner
held-set [] i t d below = absurd (let k : i < 0 = below in omega arith)
held-set (s ∷ ss) zero t d below = omega arith
held-set (s ∷ ss) (suc i) t d below = let ih = held-set ss i t d (let k : suc i < suc (length ss) = below in omega arith) in omega arith

pub held-each : (h : Attached → Attached) (ss ts : List Slot) → EachBecameBy h ss ts → held_in ts ≤ held_in ss
held-each h [] [] e = omega arith
held-each h [] (t ∷ ts) e = absurd (let n : suc (length ts) ≡ 0 = e.0 in omega arith)
held-each h (s ∷ ss) [] e = absurd (let n : 0 ≡ suc (length ss) = e.0 in omega arith)
held-each h (s ∷ ss) (t ∷ ts) e =
    let here = (e.1 0 s (let b : 0 < suc (length ss) = omega arith in b)).held in
    let ih = held-each h ss ts ((let n : suc (length ts) ≡ suc (length ss) = e.0 in omega arith), (λ k d below. e.1 (suc k) d (let b : suc k < suc (length ss) = omega arith in b))) in
    omega arith

pub held-more : (ss : List Slot) (s : Slot) → held_in ss ≡ 0 → s.joiner.is_chain ≡ false → held_in (ss ++ s ∷ []) ≡ 0
held-more [] s none closed = let e = held-closed s.joiner closed in omega arith
held-more (t ∷ ss) s none closed =
    let ih = held-more ss s (omega arith) closed in
    omega arith

-- ---- numbers

pub among-some : (ss : List Slot) (c : ℕ) → is_some (attached_in ss c) ≡ is_among ss c
among-some [] c = refl
among-some (s ∷ ss) c = go (is_at s c) refl (among-some ss c)
  where
    there : (o : Option Connection) → is_numbered c o ≡ true → is_some (option_map (attached_as s.joiner s.pieces) o) ≡ true
    there None h = absurd (cc)
    there (Some x) h = refl

    go : (b : Bool) → is_at s c ≡ b → is_some (attached_in ss c) ≡ is_among ss c → is_some (if b then slot_attached s else attached_in ss c) ≡ (b || is_among ss c)
    go true e ih = there s.connection e
    go false e ih = ih

among-same : (ss : List Slot) (i d : ℕ) (t e : Slot) → is_at t d ≡ is_at (get_or ss i e) d → i < length ss → is_among (set ss i t) d ≡ is_among ss d
among-same [] i d t e same below = absurd (let k : i < 0 = below in omega arith)
among-same (s ∷ ss) zero d t e same below = λ j. same j || is_among ss d
among-same (s ∷ ss) (suc i) d t e same below = ap (λ b. is_at s d || b) (among-same ss i d t e same (let k : suc i < suc (length ss) = below in omega arith))

-- a slot set with the same number keeps every number
pub numbers-set : (ss : List Slot) (i d : ℕ) (t e : Slot) → is_at t d ≡ is_at (get_or ss i e) d → i < length ss → is_some (attached_in (set ss i t) d) ≡ is_some (attached_in ss d)
numbers-set ss i d t e same below = among-some (set ss i t) d ∙ among-same ss i d t e same below ∙ sym (among-some ss d)

pub numbers-each : (h : Attached → Attached) (ss ts : List Slot) (d : ℕ) → EachBecameBy h ss ts → is_some (attached_in ts d) ≡ is_some (attached_in ss d)
numbers-each h ss ts d e = among-some ts d ∙ go ss ts e ∙ sym (among-some ss d)
  where
    go : (ss ts : List Slot) → EachBecameBy h ss ts → is_among ts d ≡ is_among ss d
    go [] [] e = refl
    go [] (t ∷ ts) e = absurd (let n : suc (length ts) ≡ 0 = e.0 in omega arith)
    go (s ∷ ss) [] e = absurd (let n : 0 ≡ suc (length ss) = e.0 in omega arith)
    go (s ∷ ss) (t ∷ ts) e =
        let n = (e.1 0 s (let b : 0 < suc (length ss) = omega arith in b)).numbered d in
        let r = go ss ts ((let n : suc (length ts) ≡ suc (length ss) = e.0 in omega arith), (λ k d below. e.1 (suc k) d (let b : suc k < suc (length ss) = omega arith in b))) in
        λ j. n j || r j

-- a free slot that is set has one number more
pub numbers-free : (ss : List Slot) (i c : ℕ) (t : Slot) → IsFree ss i → is_at t c ≡ true → ((d : ℕ) → (c == d) ≡ false → is_at t d ≡ false)
    → (d : ℕ) → is_some (attached_in (set ss i t) d) ≡ ((c == d) || is_some (attached_in ss d))
numbers-free ss i c t free at own d = among-some (set ss i t) d ∙ go ss i free ∙ ap (λ b. (c == d) || b) (sym (among-some ss d))
  where
    mine : (b : Bool) → (c == d) ≡ b → is_at t d ≡ b
    mine true e = subst (λ (n : ℕ). is_at t n ≡ true) (eqb-true c d e) at
    mine false e = own d e

    swapped : (a b r : Bool) → (a || (b || r)) ≡ (b || (a || r))
    swapped true true r = refl
    swapped true false r = refl
    swapped false b r = refl

    go : (ss : List Slot) (i : ℕ) → IsFree ss i → is_among (set ss i t) d ≡ ((c == d) || is_among ss d)
    go [] i free = absurd free
    go (s ∷ ss) zero free =
        let none : is_at s d ≡ false = ap (is_numbered d) free in
        (λ j. mine (c == d) refl j || is_among ss d) ∙ sym (λ j. (c == d) || (none j || is_among ss d))
    go (s ∷ ss) (suc i) free = ap (λ b. is_at s d || b) (go ss i free) ∙ swapped (is_at s d) (c == d) (is_among ss d)

-- a slot without a connection leaves every other number
pub numbers-gone : (ss : List Slot) (i c : ℕ) (t e : Slot) → IsPlaced ss i c → t.connection ≡ None
    → (d : ℕ) → (c == d) ≡ false → is_some (attached_in (set ss i t) d) ≡ is_some (attached_in ss d)
numbers-gone ss i c t e placed none d other = among-some (set ss i t) d ∙ go ss i placed ∙ sym (among-some ss d)
  where
    not-here : (o : Option Connection) → is_numbered c o ≡ true → is_numbered d o ≡ false
    not-here None h = refl
    not-here (Some x) h = let n : x.c ≡ c = eqb-true x.c c h in rw n other

    gone : is_at t d ≡ false
    gone = ap (is_numbered d) none

    go : (ss : List Slot) (i : ℕ) → IsPlaced ss i c → is_among (set ss i t) d ≡ is_among ss d
    go [] i placed = absurd placed
    go (s ∷ ss) zero placed = let o = not-here s.connection placed in (λ j. gone j || is_among ss d) ∙ sym (λ j. o j || is_among ss d)
    go (s ∷ ss) (suc i) placed = ap (λ b. is_at s d || b) (go ss i placed)

-- ---- what the card's calls make of them

free-below : (ss : List Slot) (i : ℕ) → IsFree ss i → i < length ss
free-below [] i free = absurd free
free-below (s ∷ ss) zero free = omega arith
free-below (s ∷ ss) (suc i) free = let ih = free-below ss i free in omega arith

placed-below : (ss : List Slot) (i c : ℕ) → IsPlaced ss i c → i < length ss
placed-below [] i c placed = absurd placed
placed-below (s ∷ ss) zero c placed = omega arith
placed-below (s ∷ ss) (suc i) c placed = let ih = placed-below ss i c placed in omega arith

-- a free slot that is given a connection
pub held-given : (ss : List Slot) (i n : ℕ) (t : Slot) → IsFree ss i → t.joiner.is_chain ≡ false → held_in (set ss i t) + n ≤ held_in ss + n
held-given ss i n t free closed =
    let e = held-set ss i t t (free-below ss i free) in
    let z = held-closed t.joiner closed in
    omega arith

-- a slot that loses its connection
pub held-taken : (ss : List Slot) (i c n : ℕ) (t s : Slot) → IsPlaced ss i c → s ≡ get_or ss i s → t.joiner ≡ s.joiner → held_in (set ss i t) + n ≤ held_in ss + n
held-taken ss i c n t s placed is_s same =
    let e = held-set ss i t s (placed-below ss i c placed) in
    let f : held_by t.joiner ≡ held_by (get_or ss i s).joiner = ap held_by same ∙ ap (λ (q : Slot). held_by q.joiner) is_s in
    omega arith

-- all slots anew
pub held-items : (h : Attached → Attached) {Z : Type 0} (v : Vec Slot Z) (before now : List Slot) → before ≡ v.items → EachBecameBy h before now → held_in (with_items v now).items ≤ held_in v.items
held-items h v before now is each =
    let long : length now ≡ v.len = each.0 ∙ ap (λ (l : List Slot). length l) is ∙ sym v.ok.0 in
    subst (λ (l : List Slot). held_in l ≤ held_in v.items) (sym (with_items_is v now long))
    (subst (λ (l : List Slot). held_in now ≤ held_in l) is (held-each h before now each))

pub numbers-items : (h : Attached → Attached) {Z : Type 0} (v : Vec Slot Z) (before now : List Slot) (d : ℕ) → before ≡ v.items → EachBecameBy h before now
    → is_some (attached_in (with_items v now).items d) ≡ is_some (attached_in v.items d)
numbers-items h v before now d is each =
    let long : length now ≡ v.len = each.0 ∙ ap (λ (l : List Slot). length l) is ∙ sym v.ok.0 in
    ap (λ (l : List Slot). is_some (attached_in l d)) (with_items_is v now long)
    ∙ numbers-each h before now d each ∙ ap (λ (l : List Slot). is_some (attached_in l d)) is

-- an exchange that leaves the power on
pub held-kept : (ss : List Slot) (i c m : ℕ) (block : List ℕ) (run : Option (ℕ × CardCommand)) (t s d : Slot) (e : Exchanged) → i < length ss → s ≡ get_or ss i s
    → KeepsHeld e s.joiner t.joiner → leaves_on e ≡ true
    → command_length (entry_of_made c block run e (get_or (set ss i t) i d).joiner.command) + (held_in (set ss i t) + m) ≤ held_in ss + m + 255
held-kept ss i c m block run t s d e below is_s keeps on_now =
    let f = held-set ss i t s below in
    let g : held_by s.joiner ≡ held_by (get_or ss i s).joiner = ap (λ (q : Slot). held_by q.joiner) is_s in
    let same : get_or (set ss i t) i d ≡ t = get_or-set_same ss i t d below in
    let n : command_length (entry_of_made c block run e t.joiner.command) ≡ taken e t.joiner.command = of e t.joiner.command on_now in
    subst (λ (q : Slot). command_length (entry_of_made c block run e q.joiner.command) + (held_in (set ss i t) + m) ≤ held_in ss + m + 255) (sym same) (omega arith)
  where
    of : (e : Exchanged) (k : CardCommand) → leaves_on e ≡ true → command_length (entry_of_made c block run e k) ≡ taken e k
    of made.Part k h = refl
    of (made.Call done last) k h = refl
    of (made.Rest last) k h = refl
    of (made.Bad sw) k h = refl
    of (made.Lost broken) k h = absurd (cc)

-- a loss: the command in flight leaves its slot
pub held-lost : (ss : List Slot) (i n : ℕ) (t s u : Slot) (x lost : Chain) (broken : Broken) → i < length ss → s ≡ get_or ss i s
    → KeepsHeld (made.Lost broken) s.joiner t.joiner → u.joiner ≡ lost → x ≡ t.joiner → n ≤ held_in (set (set ss i t) i u)
    → length x.command.body + (n + held_by x) ≤ held_in ss + held_by lost + 255
held-lost ss i n t s u x lost broken below is_s keeps is_u is_x most =
    let f = held-set ss i t s below in
    let g : held_by s.joiner ≡ held_by (get_or ss i s).joiner = ap (λ (q : Slot). held_by q.joiner) is_s in
    let long : i < length (set ss i t) = subst (λ (l : ℕ). i < l) (sym (length-set ss i t)) below in
    let same : held_by (get_or (set ss i t) i t).joiner ≡ held_by t.joiner = ap (λ (q : Slot). held_by q.joiner) (get_or-set_same ss i t t below) in
    let h = held-set (set ss i t) i u t long in
    let k : held_by u.joiner ≡ held_by lost = ap held_by is_u in
    let l : held_by x ≡ held_by t.joiner = ap held_by is_x in
    let o : length x.command.body ≡ length t.joiner.command.body = ap (λ (q : Chain). length q.command.body) is_x in
    omega arith

pub numbers-lost : (ss : List Slot) (i d : ℕ) (t s u : Slot) → i < length ss → s ≡ get_or ss i s → is_at t d ≡ is_at s d → u.connection ≡ t.connection
    → is_some (attached_in (set (set ss i t) i u) d) ≡ is_some (attached_in ss d)
numbers-lost ss i d t s u below is_s same is_u =
    let long : i < length (set ss i t) = subst (λ (l : ℕ). i < l) (sym (length-set ss i t)) below in
    let at_t : is_at u d ≡ is_at (get_or (set ss i t) i t) d = ap (is_numbered d) is_u ∙ sym (ap (λ (q : Slot). is_at q d) (get_or-set_same ss i t t below)) in
    numbers-set (set ss i t) i d u t at_t long ∙ numbers-set ss i d t s (same ∙ ap (λ (q : Slot). is_at q d) is_s) below

-- what it came to, with what it lends
pub exchanged-held : (ss : List Slot) (c n m : ℕ) (block : List ℕ) (run : Option (ℕ × CardCommand)) (result : Outcome) (o : Option Turned) (e : Slot)
    → IsSome o
    → IfSome o (λ t. command_length (entry_of_made c block run t.made (get_or ss t.place e).joiner.command) + n ≤ m)
    → IfSome o (λ t. (d : Slot) (c known told : ℕ) (bytes block : List ℕ) (run : Option (ℕ × CardCommand))
    → exchange_by c known bytes block run told result ≡ exchange_made c known bytes block run told t.made (get_or ss t.place d).joiner.command (get_or ss t.place d).pieces.piece)
    → command_length (entry_by c block run result) + n ≤ m
exchanged-held ss c n m block run result None e some held shown = absurd (cc)
exchanged-held ss c n m block run result (Some t) e some held shown =
    subst (λ (r : CardEntry). command_length r + n ≤ m) (sym (ap (λ (r : CardRecord). r.entry) (shown e c 0 0 [] block run))) held

-- a command is in flight exactly after a loss
pub exchanged-flight : {A : Type 0} (o : Option Turned) (b : Bool) (run : Option A) → IsSome o → IfSome o (λ t. is_some run ≡ not (leaves_on t.made))
    → IfSome o (λ t. b ≡ not (leaves_on t.made)) → is_some run ≡ b
exchanged-flight None b run some flight muted = absurd (cc)
exchanged-flight (Some t) b run some flight muted = flight ∙ sym muted

-- the store, by what it came to
pub exchanged-left : (o : Option Turned) (result : Outcome) (so sn : StoreState) → IsSome o → IfSome o (λ t. LeavesStore t.made so sn)
    → IfSome o (λ t. (old new : StoreState) → LeavesStore t.made old new → LeavesOf result old new) → LeavesOf result so sn
exchanged-left None result so sn some leaves left = absurd (cc)
exchanged-left (Some t) result so sn some leaves left = left so sn leaves

-- ---- how many slots have a connection

pub taken-bound : (ss : List Slot) → taken_in ss ≤ length ss
taken-bound [] = omega arith
taken-bound (s ∷ ss) = go s.connection (taken-bound ss)
  where
    go : (o : Option Connection) → taken_in ss ≤ length ss → weight o + taken_in ss ≤ suc (length ss)
    go None h = omega arith
    go (Some x) h = omega arith

weight-same : (o p : Option Connection) → ((d : ℕ) → is_numbered d o ≡ is_numbered d p) → weight o ≡ weight p
weight-same None None same = refl
weight-same (Some x) (Some y) same = refl
weight-same None (Some y) same = absurd (let h : false ≡ true = same y.c ∙ eq-eqb y.c y.c refl in cc)
weight-same (Some x) None same = absurd (let h : true ≡ false = sym (eq-eqb x.c x.c refl) ∙ same x.c in cc)

weight-one : (o : Option Connection) (c : ℕ) → is_numbered c o ≡ true → weight o ≡ 1
weight-one None c h = absurd (cc)
weight-one (Some x) c h = refl

pub taken-set : (ss : List Slot) (i : ℕ) (t d : Slot) → i < length ss
    → taken_in (set ss i t) + weight (get_or ss i d).connection ≡ taken_in ss + weight t.connection
taken-set [] i t d below = absurd (let k : i < 0 = below in omega arith)
taken-set (s ∷ ss) zero t d below = omega arith
taken-set (s ∷ ss) (suc i) t d below = let ih = taken-set ss i t d (let k : suc i < suc (length ss) = below in omega arith) in omega arith

-- a slot set with the same number
pub taken-same : (ss : List Slot) (i : ℕ) (t d : Slot) → ((c : ℕ) → is_at t c ≡ is_at (get_or ss i d) c) → i < length ss → taken_in (set ss i t) ≡ taken_in ss
taken-same ss i t d same below =
    let e = taken-set ss i t d below in
    let f = weight-same t.connection (get_or ss i d).connection same in
    omega arith

-- a free slot that is given a connection
pub taken-more : (ss : List Slot) (i c : ℕ) (t : Slot) → IsFree ss i → is_at t c ≡ true → taken_in (set ss i t) ≡ taken_in ss + 1
taken-more ss i c t free at =
    let e = taken-set ss i t t (free-below ss i free) in
    let f = weight-one t.connection c at in
    let h : weight (get_or ss i t).connection ≡ 0 = ap weight (none ss i free) in
    omega arith
  where
    none : (ss : List Slot) (i : ℕ) → IsFree ss i → (get_or ss i t).connection ≡ None
    none [] i free = absurd free
    none (s ∷ ss) zero free = free
    none (s ∷ ss) (suc i) free = none ss i free

-- a slot that loses its connection
pub taken-less : (ss : List Slot) (i c : ℕ) (t d : Slot) → IsPlaced ss i c → t.connection ≡ None → taken_in (set ss i t) + 1 ≡ taken_in ss
taken-less ss i c t d placed none =
    let e = taken-set ss i t d (placed-below ss i c placed) in
    let g : weight t.connection ≡ 0 = ap weight none in
    let f = some ss i placed in
    omega arith
  where
    some : (ss : List Slot) (i : ℕ) → IsPlaced ss i c → weight (get_or ss i d).connection ≡ 1
    some [] i placed = absurd placed
    some (s ∷ ss) zero placed = weight-one s.connection c placed
    some (s ∷ ss) (suc i) placed = some ss i placed

pub taken-append : (ss : List Slot) (s : Slot) → taken_in ss ≡ 0 → s.connection ≡ None → taken_in (ss ++ s ∷ []) ≡ 0
taken-append [] s none free = let w : weight s.connection ≡ 0 = ap weight free in omega arith
taken-append (t ∷ ss) s none free =
    let ih = taken-append ss s (omega arith) free in
    omega arith

pub taken-sixteen : (ss : List Slot) (i : ℕ) (t : Slot) → length ss ≡ 16 → taken_in (set ss i t) ≤ 16
taken-sixteen ss i t sixteen =
    let n = taken-bound (set ss i t) in
    let l = length-set ss i t in
    omega arith

pub taken-each : (h : Attached → Attached) (ss ts : List Slot) → EachBecameBy h ss ts → taken_in ts ≡ taken_in ss
taken-each h [] [] e = refl
taken-each h [] (t ∷ ts) e = absurd (let n : suc (length ts) ≡ 0 = e.0 in omega arith)
taken-each h (s ∷ ss) [] e = absurd (let n : 0 ≡ suc (length ss) = e.0 in omega arith)
taken-each h (s ∷ ss) (t ∷ ts) e =
    let f = weight-same t.connection s.connection (e.1 0 s (let b : 0 < suc (length ss) = omega arith in b)).numbered in
    let ih = taken-each h ss ts ((let n : suc (length ts) ≡ suc (length ss) = e.0 in omega arith), (λ k d below. e.1 (suc k) d (let b : suc k < suc (length ss) = omega arith in b))) in
    λ j. f j + ih j

pub taken-items : (h : Attached → Attached) {Z : Type 0} (v : Vec Slot Z) (before now : List Slot) → before ≡ v.items → EachBecameBy h before now → taken_in (with_items v now).items ≡ taken_in v.items
taken-items h v before now is each =
    let long : length now ≡ v.len = each.0 ∙ ap (λ (l : List Slot). length l) is ∙ sym v.ok.0 in
    ap (λ (l : List Slot). taken_in l) (with_items_is v now long) ∙ taken-each h before now each ∙ ap (λ (l : List Slot). taken_in l) is

pub taken-lost : (ss : List Slot) (i : ℕ) (t s u : Slot) → i < length ss → s ≡ get_or ss i s → ((d : ℕ) → is_at t d ≡ is_at s d) → u.connection ≡ t.connection
    → taken_in (set (set ss i t) i u) ≡ taken_in ss
taken-lost ss i t s u below is_s same is_u =
    let long : i < length (set ss i t) = subst (λ (l : ℕ). i < l) (sym (length-set ss i t)) below in
    taken-same (set ss i t) i u t (λ d. ap (is_numbered d) is_u ∙ sym (ap (λ (q : Slot). is_at q d) (get_or-set_same ss i t t below))) long
    ∙ taken-same ss i t s (λ d. same d ∙ ap (λ (q : Slot). is_at q d) is_s) below
