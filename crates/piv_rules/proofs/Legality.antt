-- What runs is legal.
use Rattle.std.proofs.Common.{◌≡◌, ℕ, suc, zero, ◌+◌, ◌-◌, ◌≤◌, Bool, true, false, List, [], ◌∷◌, Option, Some, None, refl, ap, arith, drop, length, inl, inr}
use Rattle.std.proofs.Common.{length-take, length-drop, eqb-true, subst}
use Rattle.std.specs.Prelude.{if◌then◌else◌, IsTrue, ◌==◌, not, ◌&&◌, ◌||◌, take, nat_lt, slice_index, option_map}
use Rattle.std.specs.Prelude.{Result, Ok, Err}
use Rattle.std.specs.List.{list_any}
use Rattle.std.proofs.lemmas.Bool.Decides.{nat_tests}
use Rattle.piv_model.specs.declared.history.ActKind.TheVariants as kind
use Rattle.piv_model.specs.declared.history.Refusal.{Refusal}
use Rattle.piv_model.specs.declared.history.Refusal.TheVariants as why
use Rattle.piv_model.specs.Commands.{CardCommand, CardApdu}
use Rattle.piv_model.specs.Chains.{RefusedBy, linked, sized, extended, goes_on}
use Rattle.piv_model.specs.ApduForms.{apdu_spelled, apdu_after_header, apdu_of_header, apdu_of_class, refusal_of_class, most_of, is_other_channel}
use Rattle.piv_model.specs.Entries.{CardEntry, Past, Opened, Closed, Call, Part, Rest, Bad, Reset, Cut, Up, Note}
use Rattle.piv_model.specs.Base.{Base}
use Rattle.piv_rules.specs.StatusWords.{is_granted, is_framing_word}
use Rattle.piv_rules.specs.Connections.{breaks, is_exchange_on, on, is_open, epoch, side}
use Rattle.piv_rules.specs.Answers.{answer, Reply}
use Rattle.piv_rules.specs.Legal.{IsLegal, IsAllowed, is_locked, is_full, is_noted, Fetched, fetched, with_rest, fetch_step, MayFetch, open_ones}
use Rattle.piv_rules.specs.Acts.{CardAct, Connect, Disconnect, Exchange, ResetSide, CutPower, PowerOn, CardAnswer, Records, entries}
use Rattle.piv_rules.specs.Frames.{Frame, BadFrame, PartFrame, RestFrame, WholeFrame, frame, next_piece, get_response, fetches, frame_of, frame_by, chain, rest, waiting_step, given_length}
use Rattle.piv_rules.specs.Turns.{IsTurnedBy, Runs, refused, IsExchanged, kind_of, cut_reply}

above : (known n : ℕ) → nat_lt known n ≡ true → nat_lt 0 n ≡ true
above known n h = grind (arith, nat_tests)

-- the first of two refusals that holds
by_first : (P : Refusal → Bool) (b : Bool) (x w : Refusal) (next : Option Refusal)
    → (b ≡ true → P x ≡ true) → (b ≡ false → next ≡ Some w → P w ≡ true) → (if b then Some x else next) ≡ Some w → P w ≡ true
by_first P true x w next here later h = let e : x ≡ w = cc in rw (← e) (here refl)
by_first P false x w next here later h = later refl h

none-some : (w : Refusal) (A : Type 0) → None ≡ Some w → A
none-some w A h = absurd (cc)

-- no refusal: no test holds
none_first : (b : Bool) (x : Refusal) (next : Option Refusal) → (if b then Some x else next) ≡ None → (b ≡ false) × (next ≡ None)
none_first true x next h = absurd (cc)
none_first false x next h = (refl, h)

not-true : (b : Bool) → not b ≡ false → b ≡ true
not-true true h = refl
not-true false h = absurd (cc)

not-of_false : (b : Bool) → b ≡ false → not b ≡ true
not-of_false b h = rw h

both : (a b : Bool) → a ≡ true → b ≡ true → (a && b) ≡ true
both a b h k = rw (h, k)

any-weaker : (p q : ℕ → Bool) (ns : List ℕ) → list_any (λ n. p n && q n) ns ≡ true → list_any p ns ≡ true
any-weaker p q [] h = h
any-weaker p q (n ∷ ns) h = go (p n) (q n) (any-weaker p q ns) h
  where
    go : (a b : Bool) → (list_any (λ m. p m && q m) ns ≡ true → list_any p ns ≡ true)
        → ((a && b) || list_any (λ m. p m && q m) ns) ≡ true → (a || list_any p ns) ≡ true
    go true b rest k = refl
    go false b rest k = rest k

-- a refused act is noted rightly
noted : (H : Past) (act : CardAct) (w : Refusal) → refused H act ≡ Some w → IsTrue (is_noted H (kind_of act) w)
noted H (Connect i shared) w h =
    by_first (is_noted H (kind.Connect i)) (not (on H)) why.Off w _ (λ k. k)
    (λ is_on. by_first (is_noted H (kind.Connect i)) (is_locked H i shared) why.Locked w _
    (λ locked. both (on H) _ (not-true (on H) is_on) (any-weaker _ _ (open_ones H) locked))
    (λ free. by_first (is_noted H (kind.Connect i)) (is_full H) why.NoChannel w _
    (λ full. both (on H) _ (not-true (on H) is_on) full) (λ room k. none-some w _ k))) h
noted H (Disconnect c) w h = by_first (is_noted H (kind.Disconnect c)) (not (is_open H c)) why.NoConnection w _ (λ k. k) (λ k e. none-some w _ e) h
noted H (Exchange c known bytes) w h =
    by_first (is_noted H (kind.Exchange c)) (not (is_open H c)) why.NoConnection w _ (λ k. k)
    (λ opened. by_first (is_noted H (kind.Exchange c)) (not (on H)) why.Mute w _
    (λ off. both (is_open H c) _ (not-true (is_open H c) opened) off)
    (λ is_on. by_first (is_noted H (kind.Exchange c)) (nat_lt known (epoch H (side H c))) why.Stale w _
    (λ late. both (is_open H c && on H) _ (both (is_open H c) (on H) (not-true (is_open H c) opened) (not-true (on H) is_on)) (above known _ late))
    (λ fresh k. none-some w _ k))) h
noted H (ResetSide i) w h = by_first (is_noted H (kind.Reset i)) (not (on H)) why.Off w _ (λ k. k) (λ k e. none-some w _ e) h
noted H CutPower w h = by_first (is_noted H kind.Cut) (not (on H)) why.Off w _ (λ k. k) (λ k e. none-some w _ e) h
noted H PowerOn w h = by_first (is_noted H kind.Power) (on H) why.On w _ (λ k. k) (λ k e. none-some w _ e) h

-- what a run of ifs gives has what each part has
if-has : {A : Type 0} (P : A → Bool) (b : Bool) (x y : A) → P x ≡ true → P y ≡ true → P (if b then x else y) ≡ true
if-has P true x y h k = h
if-has P false x y h k = k

-- an APDU that can be read wants some bytes, and one that can't is refused by a word of framing
abbrev is_sound_apdu : Result CardApdu ℕ → Bool
is_sound_apdu (Err w) = is_framing_word w
is_sound_apdu (Ok a) = nat_lt 0 a.most

abbrev is_sound_frame : Frame → Bool
is_sound_frame (BadFrame w) = is_framing_word w
is_sound_frame PartFrame = true
is_sound_frame (RestFrame piece w) = nat_lt 0 (length piece)
is_sound_frame (WholeFrame k most) = nat_lt 0 most

most_of-sound : (le : ℕ) → nat_lt 0 (most_of le) ≡ true
most_of-sound le = grind (arith, nat_tests)

after_header-sound : (bytes rest : List ℕ) → is_sound_apdu (apdu_after_header bytes rest) ≡ true
after_header-sound bytes [] = refl
after_header-sound bytes (le ∷ []) = most_of-sound le
after_header-sound bytes (lc ∷ b ∷ rest) = go lc (b ∷ rest) (most_of-sound (slice_index (b ∷ rest) lc))
  where
    go : (lc : ℕ) (rest : List ℕ) → nat_lt 0 (most_of (slice_index rest lc)) ≡ true
        → is_sound_apdu (if lc == 0 then Err 0x6700
        else if length rest == lc then Ok (apdu_of_header bytes rest 256)
        else if length rest == lc + 1 then Ok (apdu_of_header bytes (take lc rest) (most_of (slice_index rest lc)))
        else Err 0x6700) ≡ true
    go lc rest h =
        if-has is_sound_apdu (lc == 0) _ _ refl
        (if-has is_sound_apdu (length rest == lc) _ _ refl (if-has is_sound_apdu (length rest == lc + 1) _ _ h refl))

-- a word that refuses a class is one of framing
abbrev is_sound_refusal : Option ℕ → Bool
is_sound_refusal None = true
is_sound_refusal (Some w) = is_framing_word w

refusal-sound : (class : ℕ) → is_sound_refusal (refusal_of_class class) ≡ true
refusal-sound class =
    if-has is_sound_refusal ((class == 0x00) || (class == 0x10)) _ _ refl
    (if-has is_sound_refusal ((class == 0x0C) || (class == 0x1C)) _ _ refl
    (if-has is_sound_refusal (is_other_channel class) _ _ refl refl))

class-sound : (o : Option ℕ) (bytes : List ℕ) → is_sound_refusal o ≡ true → is_sound_apdu (apdu_of_class o bytes) ≡ true
class-sound None bytes h = after_header-sound bytes (drop 4 bytes)
class-sound (Some w) bytes h = h

framing-sound : (bytes : List ℕ) → is_sound_apdu (apdu_spelled bytes) ≡ true
unfolding apdu_spelled
framing-sound bytes =
    if-has is_sound_apdu (nat_lt (length bytes) 4) _ _ refl
    (class-sound (refusal_of_class (slice_index bytes 0)) bytes (refusal-sound (slice_index bytes 0)))

no_zero : nat_lt 0 0 ≡ true → ⊥
no_zero h = cc

next_piece-sound : (waiting : List ℕ) (most : ℕ) → nat_lt 0 most ≡ true → is_sound_frame (next_piece waiting most) ≡ true
next_piece-sound [] most h = refl
next_piece-sound (b ∷ bs) zero h = absurd (no_zero h)
next_piece-sound (b ∷ bs) (suc n) h = grind (arith, nat_tests)

sized-sound : (class most : ℕ) (k : CardCommand) → nat_lt 0 most ≡ true → is_sound_frame (frame_by (sized class k) most) ≡ true
sized-sound class most k h = grind (arith, nat_tests)

linked-sound : (a : CardApdu) (chained : Option CardCommand) → nat_lt 0 a.most ≡ true
    → is_sound_frame (frame_by (linked chained a) a.most) ≡ true
linked-sound a chained h = go (goes_on chained a.command) (sized-sound a.class a.most (extended chained a.command) h)
  where
    go : (b : Bool) → is_sound_frame (frame_by (sized a.class (extended chained a.command)) a.most) ≡ true
        → is_sound_frame (frame_by (if b then sized a.class (extended chained a.command) else RefusedBy 0x6883) a.most) ≡ true
    go true h = h
    go false h = refl

fetched-sound : (k : CardCommand) (most : ℕ) (waiting : List ℕ) → is_sound_frame (next_piece waiting most) ≡ true
    → is_sound_frame (get_response k most waiting) ≡ true
fetched-sound k most waiting h = grind (arith, nat_tests)

frame_of-sound : (x : Result CardApdu ℕ) (chained : Option CardCommand) (waiting : List ℕ)
    → is_sound_apdu x ≡ true → is_sound_frame (frame_of x chained waiting) ≡ true
frame_of-sound (Err w) chained waiting h = h
frame_of-sound (Ok a) chained waiting h =
    if-has is_sound_frame (fetches a chained) _ _
    (fetched-sound a.command a.most waiting (next_piece-sound waiting a.most h)) (linked-sound a chained h)

frame-sound : (B : Base) (R : Records) (c : ℕ) (bytes : List ℕ) → is_sound_frame (frame B R c bytes) ≡ true
unfolding frame
frame-sound B R c bytes = frame_of-sound (apdu_spelled bytes) (chain R c) (rest B R c) (framing-sound bytes)

-- what an entry's answer gives, at least
abbrev Gives : Base → Past → CardEntry → ℕ → Type 0
Gives B G (Rest d) n = 1 ≤ n
Gives B G (Call d k word block) n = is_granted word ≡ true → 1 ≤ length (answer B G d k).body → 1 ≤ n
Gives B G _ n = Unit {0}

positive : (n : ℕ) → nat_lt 0 n ≡ true → 1 ≤ n
positive n h = grind (arith, nat_tests)

cut-gives : (r : Reply) (most : ℕ) → nat_lt 0 most ≡ true → is_granted r.word ≡ true → 1 ≤ length r.body → 1 ≤ given_length (cut_reply r most)
cut-gives r most h g long = rw g (rw (length-take most r.body) (let p = positive most h in omega arith))

Gives-exchanged : (B : Base) (H : Past) (c : ℕ) (f : Frame) (e : CardEntry) (a : CardAnswer) → is_sound_frame f ≡ true
    → IsExchanged B H c f e a → Gives B H e (given_length a)
Gives-exchanged B H c (BadFrame w) e a s t = rw t.0 tt
Gives-exchanged B H c PartFrame e a s t = rw t.0 tt
Gives-exchanged B H c (RestFrame piece w) e a s t = rw (t.0, t.1) (positive (length piece) s)
Gives-exchanged B H c (WholeFrame k most) e a s (inl t) = rw (t.0, t.1) (λ g long. cut-gives (answer B H c k) most s g long)
Gives-exchanged B H c (WholeFrame k most) e a s (inr t) = rw t.0 tt

Gives-turned : (B : Base) (R : Records) (act : CardAct) (e : CardEntry) (a : CardAnswer) (o : Option Refusal)
    → IsTurnedBy o B R act e a → Gives B (entries R) e (given_length a)
Gives-turned B R act e a (Some w) t = rw t.0 tt
Gives-turned B R (Connect i shared) e a None t = rw t.0 tt
Gives-turned B R (Disconnect c) e a None t = rw t.0 tt
Gives-turned B R (Exchange c known bytes) e a None t = Gives-exchanged B (entries R) c (frame B R c bytes) e a (frame-sound B R c bytes) t
Gives-turned B R (ResetSide i) e a None t = rw t.0 tt
Gives-turned B R CutPower e a None t = rw t.0 tt
Gives-turned B R PowerOn e a None (t, m, is_up, told) = rw is_up tt

-- how many Rests may come yet
abbrev left : Option Fetched → ℕ
left None = 0
left (Some f) = f.size - (f.rests + 1)

at_least : (given : ℕ) (body : List ℕ) → (1 ≤ length body → 1 ≤ given) → length (drop given body) ≤ length body - 1
at_least given [] one = let size : length {A = ℕ} (drop given []) ≡ 0 - given = length-drop given [] in omega arith
at_least given (x ∷ xs) one = let size = length-drop given (x ∷ xs) in let first = one (omega arith) in omega arith

-- a granted Call
waits-call : (B : Base) (G : Past) (c : ℕ) (k : CardCommand) (word g : ℕ)
    → (is_granted word ≡ true → 1 ≤ length (answer B G c k).body → 1 ≤ g) → (b : Bool) → is_granted word ≡ b
    → length (if b then drop g (answer B G c k).body else []) ≤ left (if b then Some (record { size = length (answer B G c k).body; rests = 0 }) else None)
waits-call B G c k word g gives true is = at_least g (answer B G c k).body (gives is)
waits-call B G c k word g gives false is = omega arith

waits-rest : (g : ℕ) (before : List ℕ) (f : Option Fetched) → 1 ≤ g → length before ≤ left f
    → length (drop g before) ≤ left (option_map with_rest f)
waits-rest g before None one h = let size = length-drop g before in let k : length before ≤ 0 = h in omega arith
waits-rest g before (Some x) one h = let size = length-drop g before in let k : length before ≤ x.size - (x.rests + 1) = h in omega arith

-- no more bytes wait after an exchange than Rests may come
waits-step : (B : Base) (e : CardEntry) (g : ℕ) (G : Past) (c : ℕ) (before : List ℕ) (f : Option Fetched) → is_exchange_on c e ≡ true
    → Gives B G e g → length before ≤ left f → length (waiting_step B G c g e before) ≤ left (fetch_step B G c e f)
waits-step B (Call d k word block) g G c before f own gives h =
    let P : ℕ → Type 0 = λ j. is_granted word ≡ true → 1 ≤ length (answer B G j k).body → 1 ≤ g in
    waits-call B G c k word g (subst P (eqb-true d c own) gives) (is_granted word) refl
waits-step B (Rest d) g G c before f own gives h = waits-rest g before f gives h
waits-step B (Part d) g G c before f own gives h = omega arith
waits-step B (Bad d word) g G c before f own gives h = omega arith
waits-step B (Opened d i shared) g G c before f own gives h = absurd (cc)
waits-step B (Closed d) g G c before f own gives h = absurd (cc)
waits-step B (Reset i) g G c before f own gives h = absurd (cc)
waits-step B (Cut running) g G c before f own gives h = absurd (cc)
waits-step B (Up took) g G c before f own gives h = absurd (cc)
waits-step B (Note act w) g G c before f own gives h = absurd (cc)

by_ifs : (a b : Bool) (ws before : List ℕ) (fs f : Option Fetched) → (b ≡ true → length ws ≤ left fs) → length before ≤ left f
    → length (if a then [] else if b then ws else before) ≤ left (if a then None else if b then fs else f)
by_ifs true b ws before fs f step h = omega arith
by_ifs false true ws before fs f step h = step refl
by_ifs false false ws before fs f step h = h

waits : (B : Base) (R : Records) (c : ℕ) → Runs B R → length (rest B R c) ≤ left (fetched B (entries R) c)
unfolding rest
waits B [] c runs = omega arith
waits B (r ∷ R) c runs =
    let g : ℕ = given_length r.answer in
    let gives = Gives-turned B R r.act r.entry r.answer (refused (entries R) r.act) runs.1 in
    let before = waits B R c runs.0 in
    by_ifs (breaks c (entries R) r.entry) (is_exchange_on c r.entry) (waiting_step B (entries R) c g r.entry (rest B R c)) (rest B R c)
    (fetch_step B (entries R) c r.entry (fetched B (entries R) c)) (fetched B (entries R) c)
    (λ own. waits-step B r.entry g (entries R) c (rest B R c) (fetched B (entries R) c) own gives before) before

-- where one may come
may-fetch : (f : Option Fetched) → 1 ≤ left f → MayFetch f
may-fetch None h = absurd (let k : 1 ≤ 0 = h in omega arith)
may-fetch (Some x) h = let k : 1 ≤ x.size - (x.rests + 1) = h in omega arith

abbrev is_rest : Frame → Bool
is_rest (RestFrame piece w) = true
is_rest _ = false

no-rest_sized : (class most : ℕ) (k : CardCommand) → is_rest (frame_by (sized class k) most) ≡ false
no-rest_sized class most k = grind (arith, nat_tests)

no-rest_linked : (a : CardApdu) (chained : Option CardCommand) → is_rest (frame_by (linked chained a) a.most) ≡ false
no-rest_linked a chained = go (goes_on chained a.command) (no-rest_sized a.class a.most (extended chained a.command))
  where
    go : (b : Bool) → is_rest (frame_by (sized a.class (extended chained a.command)) a.most) ≡ false
        → is_rest (frame_by (if b then sized a.class (extended chained a.command) else RefusedBy 0x6883) a.most) ≡ false
    go true h = h
    go false h = refl

no-rest_fetched : (k : CardCommand) (most : ℕ) → is_rest (get_response k most []) ≡ false
no-rest_fetched k most = grind (arith, nat_tests)

no-rest : (x : Result CardApdu ℕ) (chained : Option CardCommand) → is_rest (frame_of x chained []) ≡ false
no-rest (Err w) chained = refl
no-rest (Ok a) chained = go (fetches a chained) (no-rest_fetched a.command a.most) (no-rest_linked a chained)
  where
    go : (b : Bool) → is_rest (get_response a.command a.most []) ≡ false → is_rest (frame_by (linked chained a) a.most) ≡ false
        → is_rest (if b then get_response a.command a.most [] else frame_by (linked chained a) a.most) ≡ false
    go true f l = f
    go false f l = l

-- where a piece is given, data waited
rests-of_frame : (B : Base) (R : Records) (c : ℕ) (bytes piece : List ℕ) (w : ℕ) → frame B R c bytes ≡ RestFrame piece w → Runs B R
    → MayFetch (fetched B (entries R) c)
unfolding frame
rests-of_frame B R c bytes piece w h runs = may-fetch (fetched B (entries R) c) (go (rest B R c) (waits B R c runs) h)
  where
    go : (ws : List ℕ) → length ws ≤ left (fetched B (entries R) c) → frame_of (apdu_spelled bytes) (chain R c) ws ≡ RestFrame piece w
        → 1 ≤ left (fetched B (entries R) c)
    go [] few k = absurd (let p = ap is_rest k in let q = no-rest (apdu_spelled bytes) (chain R c) in cc)
    go (x ∷ xs) few k = omega (arith, few)

-- an exchange that reaches the card
IsAllowed-exchanged : (B : Base) (R : Records) (c most : ℕ) (bytes : List ℕ) (f : Frame) (e : CardEntry) (a : CardAnswer)
    → frame B R c bytes ≡ f → on (entries R) ≡ true → is_open (entries R) c ≡ true → Runs B R
    → IsExchanged B (entries R) c f e a → IsAllowed B (entries R) e
IsAllowed-exchanged B R c most bytes (BadFrame w) e a h is_on opened runs t = rw t.0 (is_on, opened, rw h at (frame-sound B R c bytes))
IsAllowed-exchanged B R c most bytes PartFrame e a h is_on opened runs t = rw t.0 (is_on, opened)
IsAllowed-exchanged B R c most bytes (RestFrame piece w) e a h is_on opened runs t = rw t.0 (is_on, opened, rests-of_frame B R c bytes piece w h runs)
IsAllowed-exchanged B R c most bytes (WholeFrame k wanted) e a h is_on opened runs (inl t) = rw t.0 (is_on, opened, refl, refl)
IsAllowed-exchanged B R c most bytes (WholeFrame k wanted) e a h is_on opened runs (inr t) = t.1

pub IsAllowed-turned : (B : Base) (R : Records) (act : CardAct) (e : CardEntry) (a : CardAnswer) (o : Option Refusal) → refused (entries R) act ≡ o → Runs B R
    → IsTurnedBy o B R act e a → IsAllowed B (entries R) e
IsAllowed-turned B R act e a (Some w) h runs t = rw t.0 (noted (entries R) act w h)
IsAllowed-turned B R (Connect i shared) e a None h runs t =
    let p = none_first (not (on (entries R))) why.Off _ h in
    let q = none_first (is_locked (entries R) i shared) why.Locked _ p.1 in
    let r = none_first (is_full (entries R)) why.NoChannel _ q.1 in
    rw t.0 (not-true (on (entries R)) p.0, refl, not-of_false _ r.0, not-of_false _ q.0)
IsAllowed-turned B R (Disconnect c) e a None h runs t = rw t.0 (not-true (is_open (entries R) c) (none_first (not (is_open (entries R) c)) why.NoConnection _ h).0)
IsAllowed-turned B R (Exchange c known bytes) e a None h runs t =
    let p = none_first (not (is_open (entries R) c)) why.NoConnection _ h in
    let q = none_first (not (on (entries R))) why.Mute _ p.1 in
    IsAllowed-exchanged B R c 0 bytes (frame B R c bytes) e a refl (not-true (on (entries R)) q.0) (not-true (is_open (entries R) c) p.0) runs t
IsAllowed-turned B R (ResetSide i) e a None h runs t = rw t.0 (not-true (on (entries R)) (none_first (not (on (entries R))) why.Off _ h).0)
IsAllowed-turned B R CutPower e a None h runs t = rw t.0 (not-true (on (entries R)) (none_first (not (on (entries R))) why.Off _ h).0)
IsAllowed-turned B R PowerOn e a None h runs (t, m, is_up, told) = rw is_up (not-of_false _ (none_first (on (entries R)) why.On _ h).0, m)

-- every run's history is legal
pub IsLegal-runs : (B : Base) (R : Records) → Runs B R → IsLegal B (entries R)
IsLegal-runs B [] h = tt
IsLegal-runs B (r ∷ R) h = (IsLegal-runs B R h.0, IsAllowed-turned B R r.act r.entry r.answer (refused (entries R) r.act) refl h.0 h.1)

pub ruleset legality_laws = (IsLegal-runs)
