-- The connections of a card.
use Rattle.std.specs.Prelude.{if◌then◌else◌, ◌==◌, not, ◌&&◌, ◌||◌, nat_le}
use Rattle.std.specs.List.{list_any}
use Rattle.std.proofs.Common.{◌≡◌, ◌≤◌, ◌<◌, ℕ, zero, suc, ◌+◌, Bool, true, false, List, [], ◌∷◌, ◌++◌, refl, ap, sym, ◌∙◌, arith, subst, eq-eqb, eqb-true, add-one, length, Some, None, unwrap_or}
use Rattle.std.proofs.lemmas.Bool.Decides.{nat_tests}
use Rattle.piv_model.specs.declared.kinds.Interface.{Interface}
use Rattle.piv_model.specs.declared.kinds.Interface.TheVariants.{Contact, Contactless}
use Rattle.piv_model.specs.Entries.{CardEntry, Past, Opened, Closed, Call, Part, Rest, Bad, Reset, Cut, Up, Note}
use Rattle.piv_model.specs.Base.{Base}
use Rattle.piv_rules.specs.Connections.{is_open, side, is_exclusive, opens, closes, same_side}
use Rattle.piv_rules.specs.Lookback.{some_entry, none_since}
use Rattle.piv_rules.specs.Legal.{IsLegal, IsAllowed, opened_count, open_among, open_ones, is_locked}
use Rattle.card_laws.specs.NumberLaws.{is_listed}
use Rattle.card_laws.proofs.Numbers.{opened_count-opened, unused-above}
use Rattle.card_laws.proofs.Counting.{open-within}
use Rattle.login_laws.proofs.Bools.{and-first, and-last, not-true, or-last}
use Rattle.connection_laws.specs.OpenLaws.{WasOpened, OpenWereOpened, OpenAreListed, AtMostSixteenAreOpen, ExclusiveAreAlone, NumbersAreUsedOnce, is_entry_of, ClosedAreClosed}

-- ---- small facts

same-bool : (a b : Bool) → (a ≡ true → b ≡ true) → (b ≡ true → a ≡ true) → a ≡ b
same-bool true b h k = sym (h refl)
same-bool false true h k = k refl
same-bool false false h k = refl

clash : (b : Bool) → b ≡ true → b ≡ false → ⊥
clash b h k = cc

pub legal-part : (B : Base) (L G : Past) → IsLegal B (L ++ G) → IsLegal B G
legal-part B [] G legal = legal
legal-part B (e ∷ L) G legal = legal-part B L G legal.0

-- ---- the list of the open ones

listed-open : (H : Past) (n c : ℕ) → is_listed (open_among H n) c ≡ true → is_open H c ≡ true
listed-open H zero c h = absurd (cc)
listed-open H (suc n) c h = go (is_open H (suc n)) refl h (listed-open H n c)
  where
    here : (b : Bool) → (suc n == c) ≡ b → is_open H (suc n) ≡ true → (b || is_listed (open_among H n) c) ≡ true
        → (is_listed (open_among H n) c ≡ true → is_open H c ≡ true) → is_open H c ≡ true
    here true e is h ih = subst (λ (k : ℕ). is_open H k ≡ true) (eqb-true (suc n) c e) is
    here false e is h ih = ih h

    go : (b : Bool) → is_open H (suc n) ≡ b → is_listed (if b then suc n ∷ open_among H n else open_among H n) c ≡ true
        → (is_listed (open_among H n) c ≡ true → is_open H c ≡ true) → is_open H c ≡ true
    go true is h ih = here (suc n == c) refl is h ih
    go false is h ih = ih h

open-listed : (H : Past) (n c : ℕ) → 1 ≤ c → c ≤ n → is_open H c ≡ true → is_listed (open_among H n) c ≡ true
open-listed H zero c low high h = absurd (omega arith)
open-listed H (suc n) c low high h = go (suc n == c) refl (λ (below : c ≤ n). open-listed H n c low below h)
  where
    later : (b : Bool) → is_listed (open_among H n) c ≡ true → is_listed (if b then suc n ∷ open_among H n else open_among H n) c ≡ true
    later true k = or-last (suc n == c) _ k
    later false k = k

    go : (b : Bool) → (suc n == c) ≡ b → (c ≤ n → is_listed (open_among H n) c ≡ true)
        → is_listed (if is_open H (suc n) then suc n ∷ open_among H n else open_among H n) c ≡ true
    go true e ih =
        let is : is_open H (suc n) ≡ true = subst (λ (k : ℕ). is_open H k ≡ true) (sym (eqb-true (suc n) c e)) h in
        rw (is, e) refl
    go false e ih = later (is_open H (suc n)) (ih (let apart : (suc n == c) ≡ false = e in grind (arith, nat_tests)))

pub OpenAreListed-law : OpenAreListed
OpenAreListed-law B H c legal =
    same-bool _ _ (listed-open H (opened_count H) c)
    (λ h. let w = open-within B H c legal h in open-listed H (opened_count H) c w.0 w.1 h)

-- ---- at most sixteen

among-fewer : (H G : Past) (n : ℕ) → ((d : ℕ) → is_open H d ≡ true → is_open G d ≡ true) → length (open_among H n) ≤ length (open_among G n)
among-fewer H G zero less = omega arith
among-fewer H G (suc n) less = go (is_open H (suc n)) (is_open G (suc n)) (less (suc n)) (among-fewer H G n less)
  where
    go : (a b : Bool) → (a ≡ true → b ≡ true) → length (open_among H n) ≤ length (open_among G n)
        → length (if a then suc n ∷ open_among H n else open_among H n) ≤ length (if b then suc n ∷ open_among G n else open_among G n)
    go true true h ih = omega arith
    go true false h ih = absurd (let e = h refl in cc)
    go false true h ih = omega arith
    go false false h ih = ih

among-below : (H G : Past) (m n : ℕ) → n ≤ m → ((d : ℕ) → d ≤ m → is_open H d ≡ is_open G d) → open_among H n ≡ open_among G n
among-below H G m zero few same = refl
among-below H G m (suc n) few same = rw (same (suc n) few, among-below H G m n (omega arith) same) refl

closed-open : (G : Past) (c d : ℕ) → is_open (Closed c ∷ G) d ≡ true → is_open G d ≡ true
closed-open G c d h = go (some_entry (opens d) G) (c == d) h
  where
    go : (a b : Bool) → (a && not (if b then true else some_entry (closes d) G)) ≡ true → (a && not (some_entry (closes d) G)) ≡ true
    go true true h = absurd (cc)
    go true false h = h
    go false b h = absurd (cc)

opened-other : (G : Past) (c d : ℕ) (i : Interface) (shared : Bool) → (c == d) ≡ false → is_open (Opened c i shared ∷ G) d ≡ is_open G d
opened-other G c d i shared h = rw h refl

opened-more : (G : Past) (c : ℕ) (i : Interface) (shared : Bool) → c ≡ opened_count G + 1
    → length (open_ones (Opened c i shared ∷ G)) ≤ length (open_ones G) + 1
opened-more G c i shared number = rw (opened_count-opened G c i shared, add-one) (go (is_open (Opened c i shared ∷ G) (suc (opened_count G))))
  where
    same : open_among (Opened c i shared ∷ G) (opened_count G) ≡ open_among G (opened_count G)
    same = among-below (Opened c i shared ∷ G) G (opened_count G) (opened_count G) (omega arith)
        (λ d few. opened-other G c d i shared (grind (arith, nat_tests)))

    go : (b : Bool) → length (if b then suc (opened_count G) ∷ open_among (Opened c i shared ∷ G) (opened_count G)
        else open_among (Opened c i shared ∷ G) (opened_count G)) ≤ length (open_among G (opened_count G)) + 1
    go true = let e = ap (λ xs. length xs) same in omega arith
    go false = let e = ap (λ xs. length xs) same in omega arith

pub AtMostSixteenAreOpen-law : AtMostSixteenAreOpen
AtMostSixteenAreOpen-law B [] legal = omega arith
AtMostSixteenAreOpen-law B (Opened c i shared ∷ G) legal =
    let room : nat_le 16 (length (open_ones G)) ≡ false = not-true _ legal.1.2 in
    let few : length (open_ones G) ≤ 15 = grind (arith, nat_tests) in
    let more = opened-more G c i shared legal.1.1 in omega arith
AtMostSixteenAreOpen-law B (Closed c ∷ G) legal =
    let ih = AtMostSixteenAreOpen-law B G legal.0 in
    let less = among-fewer (Closed c ∷ G) G (opened_count G) (closed-open G c) in omega arith
AtMostSixteenAreOpen-law B (Call d k word block ∷ G) legal =
    let ih = AtMostSixteenAreOpen-law B G legal.0 in
    let less = among-fewer (Call d k word block ∷ G) G (opened_count G) (λ d h. h) in omega arith
AtMostSixteenAreOpen-law B (Part d ∷ G) legal =
    let ih = AtMostSixteenAreOpen-law B G legal.0 in let less = among-fewer (Part d ∷ G) G (opened_count G) (λ d h. h) in omega arith
AtMostSixteenAreOpen-law B (Rest d ∷ G) legal =
    let ih = AtMostSixteenAreOpen-law B G legal.0 in let less = among-fewer (Rest d ∷ G) G (opened_count G) (λ d h. h) in omega arith
AtMostSixteenAreOpen-law B (Bad d word ∷ G) legal =
    let ih = AtMostSixteenAreOpen-law B G legal.0 in let less = among-fewer (Bad d word ∷ G) G (opened_count G) (λ d h. h) in omega arith
AtMostSixteenAreOpen-law B (Reset i ∷ G) legal =
    let ih = AtMostSixteenAreOpen-law B G legal.0 in let less = among-fewer (Reset i ∷ G) G (opened_count G) (λ d h. h) in omega arith
AtMostSixteenAreOpen-law B (Cut r ∷ G) legal =
    let ih = AtMostSixteenAreOpen-law B G legal.0 in let less = among-fewer (Cut r ∷ G) G (opened_count G) (λ d h. h) in omega arith
AtMostSixteenAreOpen-law B (Up t ∷ G) legal =
    let ih = AtMostSixteenAreOpen-law B G legal.0 in let less = among-fewer (Up t ∷ G) G (opened_count G) (λ d h. h) in omega arith
AtMostSixteenAreOpen-law B (Note a w ∷ G) legal =
    let ih = AtMostSixteenAreOpen-law B G legal.0 in let less = among-fewer (Note a w ∷ G) G (opened_count G) (λ d h. h) in omega arith

-- ---- exclusive ones

any-listed : (p : ℕ → Bool) (cs : List ℕ) (c : ℕ) → is_listed cs c ≡ true → p c ≡ true → list_any p cs ≡ true
any-listed p [] c h k = absurd (cc)
any-listed p (d ∷ cs) c h k = go (d == c) refl h (any-listed p cs c)
  where
    go : (b : Bool) → (d == c) ≡ b → (b || is_listed cs c) ≡ true → (is_listed cs c ≡ true → p c ≡ true → list_any p cs ≡ true)
        → (p d || list_any p cs) ≡ true
    go true e h ih =
        let is : p d ≡ true = subst (λ (n : ℕ). p n ≡ true) (sym (eqb-true d c e)) k in rw is refl
    go false e h ih = or-last (p d) _ (ih h k)

same-side : (i j : Interface) → i ≡ j → same_side i j ≡ true
same-side Contact j h = subst (λ x. same_side Contact x ≡ true) h refl
same-side Contactless j h = subst (λ x. same_side Contactless x ≡ true) h refl

locked-by : (B : Base) (G : Past) (i : Interface) (shared : Bool) (c : ℕ) → IsLegal B G → is_open G c ≡ true → i ≡ side G c
    → (not shared || is_exclusive G c) ≡ true → is_locked G i shared ≡ true
locked-by B G i shared c legal opened on_side alone =
    any-listed (λ d. same_side i (side G d) && (not shared || is_exclusive G d)) (open_ones G) c (OpenAreListed-law B G c legal ∙ opened)
    (rw (same-side i (side G c) on_side) alone)

or-both : (a b : Bool) → a ≡ true → (a || b) ≡ true
or-both true b h = refl
or-both false b h = absurd (cc)

pub ExclusiveAreAlone-law : ExclusiveAreAlone
ExclusiveAreAlone-law B [] c d legal first second sides alone = absurd (cc)
ExclusiveAreAlone-law B (Opened k i shared ∷ G) c d legal first second sides alone =
    go (k == c) (k == d) refl refl
    (λ f s e a. ExclusiveAreAlone-law B G c d legal.0 f s e a) first second sides alone
  where
    free : is_locked G i shared ≡ false
    free = not-true _ legal.1.3

    go : (x y : Bool) → (k == c) ≡ x → (k == d) ≡ y
        → (is_open G c ≡ true → is_open G d ≡ true → side G c ≡ side G d → is_exclusive G c ≡ true → c ≡ d)
        → ((if x then true else some_entry (opens c) G) && not (some_entry (closes c) G)) ≡ true
        → ((if y then true else some_entry (opens d) G) && not (some_entry (closes d) G)) ≡ true
        → unwrap_or (if x then Some i else None) (side G c) ≡ unwrap_or (if y then Some i else None) (side G d)
        → unwrap_or (if x then Some (not shared) else None) (is_exclusive G c) ≡ true → c ≡ d
    go true true p q ih f s e a = sym (eqb-true k c p) ∙ eqb-true k d q
    go true false p q ih f s e a =
        absurd (clash _ (locked-by B G i shared d legal.0 s e (or-both (not shared) _ a)) free)
    go false true p q ih f s e a =
        absurd (clash _ (locked-by B G i shared c legal.0 f (sym e) (or-last (not shared) _ a)) free)
    go false false p q ih f s e a = ih f s e a
ExclusiveAreAlone-law B (Closed k ∷ G) c d legal first second sides alone =
    ExclusiveAreAlone-law B G c d legal.0 (closed-open G k c first) (closed-open G k d second) sides alone
ExclusiveAreAlone-law B (Call k j word block ∷ G) c d legal first second sides alone = ExclusiveAreAlone-law B G c d legal.0 first second sides alone
ExclusiveAreAlone-law B (Part k ∷ G) c d legal first second sides alone = ExclusiveAreAlone-law B G c d legal.0 first second sides alone
ExclusiveAreAlone-law B (Rest k ∷ G) c d legal first second sides alone = ExclusiveAreAlone-law B G c d legal.0 first second sides alone
ExclusiveAreAlone-law B (Bad k word ∷ G) c d legal first second sides alone = ExclusiveAreAlone-law B G c d legal.0 first second sides alone
ExclusiveAreAlone-law B (Reset i ∷ G) c d legal first second sides alone = ExclusiveAreAlone-law B G c d legal.0 first second sides alone
ExclusiveAreAlone-law B (Cut r ∷ G) c d legal first second sides alone = ExclusiveAreAlone-law B G c d legal.0 first second sides alone
ExclusiveAreAlone-law B (Up t ∷ G) c d legal first second sides alone = ExclusiveAreAlone-law B G c d legal.0 first second sides alone
ExclusiveAreAlone-law B (Note a w ∷ G) c d legal first second sides alone = ExclusiveAreAlone-law B G c d legal.0 first second sides alone

-- ---- numbers

-- a number that was opened is no higher than the count
counted-above : (B : Base) (H : Past) (c : ℕ) → IsLegal B H → some_entry (opens c) H ≡ true → c ≤ opened_count H
counted-above B H c legal opened = go (nat_le c (opened_count H)) refl
  where
    go : (b : Bool) → nat_le c (opened_count H) ≡ b → c ≤ opened_count H
    go true e = grind (arith, nat_tests)
    go false e =
        let above : opened_count H < c = grind (arith, nat_tests) in
        absurd (clash _ opened (unused-above B H c legal above).0)

opened-among : (L G : Past) (c : ℕ) → some_entry (opens c) G ≡ true → some_entry (opens c) (L ++ G) ≡ true
opened-among [] G c h = h
opened-among (e ∷ L) G c h = go (opens c (L ++ G) e) (opened-among L G c h)
  where
    go : (b : Bool) → some_entry (opens c) (L ++ G) ≡ true → (if b then true else some_entry (opens c) (L ++ G)) ≡ true
    go true k = refl
    go false k = k

closed-among : (L G : Past) (c : ℕ) → some_entry (closes c) G ≡ true → some_entry (closes c) (L ++ G) ≡ true
closed-among [] G c h = h
closed-among (e ∷ L) G c h = go (closes c (L ++ G) e) (closed-among L G c h)
  where
    go : (b : Bool) → some_entry (closes c) (L ++ G) ≡ true → (if b then true else some_entry (closes c) (L ++ G)) ≡ true
    go true k = refl
    go false k = k

-- where c was opened, the next entry opens another one
opens-other : (B : Base) (H : Past) (c : ℕ) (e : CardEntry) → IsLegal B H → some_entry (opens c) H ≡ true → IsAllowed B H e → opens c H e ≡ false
opens-other B H c (Opened d i shared) legal opened allowed =
    let low = counted-above B H c legal opened in
    let number : d ≡ opened_count H + 1 = allowed.1 in grind (arith, nat_tests)
opens-other B H c (Closed d) legal opened allowed = refl
opens-other B H c (Call d k word block) legal opened allowed = refl
opens-other B H c (Part d) legal opened allowed = refl
opens-other B H c (Rest d) legal opened allowed = refl
opens-other B H c (Bad d word) legal opened allowed = refl
opens-other B H c (Reset i) legal opened allowed = refl
opens-other B H c (Cut r) legal opened allowed = refl
opens-other B H c (Up t) legal opened allowed = refl
opens-other B H c (Note a w) legal opened allowed = refl

none-opens : (B : Base) (L G : Past) (c : ℕ) → IsLegal B (L ++ G) → some_entry (opens c) G ≡ true → none_since (opens c) L G ≡ true
none-opens B [] G c legal opened = refl
none-opens B (e ∷ L) G c legal opened =
    rw (opens-other B (L ++ G) c e legal.0 (opened-among L G c opened) legal.1, none-opens B L G c legal.0 opened) refl

pub NumbersAreUsedOnce-law : NumbersAreUsedOnce
NumbersAreUsedOnce-law B L G c i shared legal = (
  (legal-part B L (Opened c i shared ∷ G) legal).1.1,
  none-opens B L (Opened c i shared ∷ G) c legal (rw (eq-eqb c c refl) refl),
)

closed-is : (H : Past) (c : ℕ) → some_entry (closes c) H ≡ true → is_open H c ≡ false
closed-is H c h = rw h (go (some_entry (opens c) H))
  where
    go : (b : Bool) → (b && false) ≡ false
    go true = refl
    go false = refl

other-than : (H : Past) (c d : ℕ) → is_open H c ≡ false → is_open H d ≡ true → (d == c) ≡ false
other-than H c d shut opened = go (d == c) refl
  where
    go : (b : Bool) → (d == c) ≡ b → b ≡ false
    go false e = refl
    go true e = absurd (clash _ (subst (λ (k : ℕ). is_open H k ≡ true) (eqb-true d c e) opened) shut)

no-entry : (B : Base) (H : Past) (c : ℕ) (e : CardEntry) → IsLegal B H → some_entry (opens c) H ≡ true → is_open H c ≡ false
    → IsAllowed B H e → is_entry_of c H e ≡ false
no-entry B H c (Opened d i shared) legal opened shut allowed = rw (opens-other B H c (Opened d i shared) legal opened allowed) refl
no-entry B H c (Closed d) legal opened shut allowed = rw (other-than H c d shut allowed) refl
no-entry B H c (Call d k word block) legal opened shut allowed = other-than H c d shut allowed.1
no-entry B H c (Part d) legal opened shut allowed = other-than H c d shut allowed.1
no-entry B H c (Rest d) legal opened shut allowed = other-than H c d shut allowed.1
no-entry B H c (Bad d word) legal opened shut allowed = other-than H c d shut allowed.1
no-entry B H c (Reset i) legal opened shut allowed = refl
no-entry B H c (Cut r) legal opened shut allowed = refl
no-entry B H c (Up t) legal opened shut allowed = refl
no-entry B H c (Note a w) legal opened shut allowed = refl

none-more : (B : Base) (L G : Past) (c : ℕ) → IsLegal B (L ++ G) → some_entry (opens c) G ≡ true → some_entry (closes c) G ≡ true
    → none_since (is_entry_of c) L G ≡ true
none-more B [] G c legal opened shut = refl
none-more B (e ∷ L) G c legal opened shut =
    rw (
      no-entry B (L ++ G) c e legal.0 (opened-among L G c opened) (closed-is (L ++ G) c (closed-among L G c shut)) legal.1,
      none-more B L G c legal.0 opened shut,
    ) refl

pub ClosedAreClosed-law : ClosedAreClosed
ClosedAreClosed-law B L G c legal =
    let was : is_open G c ≡ true = (legal-part B L (Closed c ∷ G) legal).1 in
    none-more B L (Closed c ∷ G) c legal (and-first (some_entry (opens c) G) _ was) (rw (eq-eqb c c refl) refl)

-- ---- opened

was-more : (G : Past) (c : ℕ) (e : CardEntry) → opens c G e ≡ false → closes c G e ≡ false → side (e ∷ G) c ≡ side G c
    → is_exclusive (e ∷ G) c ≡ is_exclusive G c → WasOpened G c → WasOpened (e ∷ G) c
was-more G c e other left sides alone w = record {
  since = e ∷ w.since;
  interface = w.interface;
  shared = w.shared;
  before = w.before;
  whole = ap (λ H. e ∷ H) w.whole;
  unclosed = rw (← w.whole, left) w.unclosed;
  side = sides ∙ w.side;
  exclusive = alone ∙ w.exclusive;
}

was-now : (G : Past) (c : ℕ) (i : Interface) (shared : Bool) → WasOpened (Opened c i shared ∷ G) c
was-now G c i shared = record {
  since = [];
  interface = i;
  shared = shared;
  before = G;
  whole = refl;
  unclosed = refl;
  side = rw (eq-eqb c c refl) refl;
  exclusive = rw (eq-eqb c c refl) refl;
}

was-opened : (H : Past) (c : ℕ) → is_open H c ≡ true → WasOpened H c
was-opened [] c h = absurd (cc)
was-opened (Opened d i shared ∷ G) c h = go (d == c) refl h (was-opened G c)
  where
    go : (b : Bool) → (d == c) ≡ b → ((if b then true else some_entry (opens c) G) && not (some_entry (closes c) G)) ≡ true
        → (is_open G c ≡ true → WasOpened G c) → WasOpened (Opened d i shared ∷ G) c
    go true e h ih = subst (λ (n : ℕ). WasOpened (Opened d i shared ∷ G) n) (eqb-true d c e) (was-now G d i shared)
    go false e h ih = was-more G c (Opened d i shared) e refl (rw e refl) (rw e refl) (ih h)
was-opened (Closed d ∷ G) c h = was-more G c (Closed d) refl (go (some_entry (opens c) G) (d == c) h) refl refl (was-opened G c (closed-open G d c h))
  where
    go : (a b : Bool) → (a && not (if b then true else some_entry (closes c) G)) ≡ true → b ≡ false
    go true true h = absurd (cc)
    go true false h = refl
    go false b h = absurd (cc)
was-opened (Call d k word block ∷ G) c h = was-more G c _ refl refl refl refl (was-opened G c h)
was-opened (Part d ∷ G) c h = was-more G c _ refl refl refl refl (was-opened G c h)
was-opened (Rest d ∷ G) c h = was-more G c _ refl refl refl refl (was-opened G c h)
was-opened (Bad d word ∷ G) c h = was-more G c _ refl refl refl refl (was-opened G c h)
was-opened (Reset i ∷ G) c h = was-more G c _ refl refl refl refl (was-opened G c h)
was-opened (Cut r ∷ G) c h = was-more G c _ refl refl refl refl (was-opened G c h)
was-opened (Up t ∷ G) c h = was-more G c _ refl refl refl refl (was-opened G c h)
was-opened (Note a w ∷ G) c h = was-more G c _ refl refl refl refl (was-opened G c h)

none-closes : (L G : Past) (c : ℕ) → none_since (closes c) L G ≡ true → some_entry (closes c) G ≡ false → some_entry (closes c) (L ++ G) ≡ false
none-closes [] G c h k = k
none-closes (e ∷ L) G c h k =
    rw (not-true _ (and-first (not (closes c (L ++ G) e)) _ h)) (none-closes L G c (and-last (not (closes c (L ++ G) e)) _ h) k)

-- before its opening c is unused
fresh-before : (B : Base) (G : Past) (c : ℕ) (i : Interface) (shared : Bool) → IsLegal B (Opened c i shared ∷ G) → some_entry (closes c) G ≡ false
fresh-before B G c i shared legal =
    let number : c ≡ opened_count G + 1 = legal.1.1 in
    (unused-above B G c legal.0 (omega arith)).1

pub OpenWereOpened-law : OpenWereOpened
OpenWereOpened-law B H c legal = (was-opened H c, back)
  where
    back : WasOpened H c → is_open H c ≡ true
    back w =
        let l : IsLegal B (w.since ++ Opened c w.interface w.shared ∷ w.before) = subst (IsLegal B) w.whole legal in
        let shut = fresh-before B w.before c w.interface w.shared (legal-part B w.since _ l) in
        let open_then : some_entry (opens c) (w.since ++ Opened c w.interface w.shared ∷ w.before) ≡ true =
        opened-among w.since _ c (rw (eq-eqb c c refl) refl) in
        let never : some_entry (closes c) (w.since ++ Opened c w.interface w.shared ∷ w.before) ≡ false = none-closes w.since _ c w.unclosed shut in
        ap (λ J. is_open J c) w.whole ∙ rw (open_then, never) refl

pub ruleset opening_laws = (OpenWereOpened-law, OpenAreListed-law, AtMostSixteenAreOpen-law, ExclusiveAreAlone-law, NumbersAreUsedOnce-law, ClosedAreClosed-law)
