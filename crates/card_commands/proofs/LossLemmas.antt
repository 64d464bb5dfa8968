-- A command that lost power: of the two memories that its Broken allows, the one that stands is told rightly.
use Rattle.std.proofs.Common.{◌≡◌, ◌⊎◌, inl, inr, ℕ, ◌≤◌, ◌<◌, ◌+◌, ◌-◌, Bool, true, false, List, length, Option, Some, None, IfSome, IsTrue, refl, ap, sym, ◌∙◌, subst, arith, [], get_or-set_same}
use Rattle.std.proofs.lemmas.List.{set-get_or}
use Rattle.std.proofs.lemmas.Bool.Decides.{nat_tests}
use Rattle.std.proofs.lemmas.Slice.Eq.{bytes_eq-Decides}
use Rattle.std.specs.Prelude.{not, ◌&&◌, ◌||◌, ◌==◌, nat_lt, if◌then◌else◌, option_map, is_some, unwrap_or, slice_set}
use Rattle.std.specs.Str.{bytes_eq}
use Rattle.power_loss.specs.Due.{after_loss}
use Rattle.power_loss.specs.Power.{Power}
use Rattle.piv_model.specs.declared.kinds.RefId.{RefId}
use Rattle.piv_model.specs.declared.kinds.RefId.TheVariants.{Pin, Puk, GlobalPin}
use Rattle.piv_model.specs.declared.kinds.Took.TheVariants.{Nothing, Spent, Done}
use Rattle.piv_model.specs.Memory.{Memory, Reference, no_reference, has, reference, stored}
use Rattle.piv_model.specs.Changes.{change_reference, one_less, full, renewed, with_object}
use Rattle.piv_model.specs.Sound.{IsSound}
use Rattle.piv_model.specs.Stores.{StoreState}
use Rattle.piv_rules.specs.Asks.{Ask, Refused, Select, Get, Put, Logout, Query, Compare, Internal, AskChallenge, External, AskWitness, Mutual, Purpose, Verify, Change, Unblock}
use Rattle.piv_rules.specs.Answers.{differs}
use Rattle.piv_rules.specs.Effects.{after_match}
use Rattle.piv_rules.specs.Legal.{is_writer}
use Rattle.piv_rules.specs.StatusWords.{is_granted, is_mismatched}
use Rattle.piv_rules.specs.Memories.{is_unblock}
use Rattle.piv_rules.specs.Losses.{is_unblocking, IsFirstOf, IsTold}
use Rattle.card_commands.specs.declared.executed.Broken.{Broken}
use Rattle.card_commands.specs.declared.executed.Broken.TheVariants.{Spending, Filling, Putting}
use Rattle.card_commands.specs.Carried.{Breaks, last_lines_word}
use Rattle.card_commands.specs.Tells.{keeps_value, tells, IsApt}

-- ---- a reference after a change

changed-at : (r : RefId) (f : Reference → Reference) (m : Memory) → has m r ≡ true → reference (change_reference r f m) r ≡ f (reference m r)
changed-at Pin f m h = refl
changed-at Puk f m h = refl
changed-at GlobalPin f m h = go m.global h
  where
    go : (g : Option Reference) → is_some g ≡ true → unwrap_or (option_map f g) no_reference ≡ f (unwrap_or g no_reference)
    go None k = absurd (cc)
    go (Some x) k = refl

-- a change that leaves the reference leaves the memory
changed-same : (r : RefId) (f : Reference → Reference) (m : Memory) → has m r ≡ true → f (reference m r) ≡ reference m r → change_reference r f m ≡ m
changed-same Pin f m h e = ap (λ x. record m { pin = x }) e
changed-same Puk f m h e = ap (λ x. record m { puk = x }) e
changed-same GlobalPin f m h e = ap (λ g. record m { global = g }) (go m.global h e)
  where
    go : (g : Option Reference) → is_some g ≡ true → f (unwrap_or g no_reference) ≡ unwrap_or g no_reference → option_map f g ≡ g
    go None k l = absurd (cc)
    go (Some x) k l = ap (λ y. Some y) l

-- a match fills the counter of the compared reference
match-tries : (r : RefId) (purpose : Purpose) (m : Memory) → has m r ≡ true → (reference (after_match r purpose m) r).tries ≡ (reference m r).limit
match-tries r Verify m h = ap (λ (x : Reference). x.tries) (changed-at r full m h)
match-tries r (Change n) m h = ap (λ (x : Reference). x.tries) (changed-at r (renewed n) m h)
match-tries Pin (Unblock n) m h = refl
match-tries Puk (Unblock n) m h = refl
match-tries GlobalPin (Unblock n) m h = ap (λ (x : Reference). x.tries) (changed-at GlobalPin full m h)

spent-tries : (r : RefId) (m : Memory) → has m r ≡ true → (reference (change_reference r one_less m) r).tries ≡ (reference m r).tries - 1
spent-tries r m h = ap (λ (x : Reference). x.tries) (changed-at r one_less m h)

-- tries that are above none are not those after one is spent
apart-tries : (r : RefId) (p : List ℕ) (purpose : Purpose) (m : Memory) → has m r ≡ true → 0 < (reference m r).tries
    → IsFirstOf m (Compare r p purpose) Spent
apart-tries r p purpose m h some e =
    let t = ap (λ (x : Memory). (reference x r).tries) e in
    let s = spent-tries r m h in
    absurd (omega arith)

-- ---- Spending

told-spending : (r : RefId) (p : List ℕ) (purpose : Purpose) (tries : ℕ) (m now : Memory) → has m r ≡ true
    → tries ≡ (reference m r).tries → 0 < (reference m r).tries
    → (now ≡ m) ⊎ (now ≡ change_reference r one_less m)
    → IsTold (Compare r p purpose) (tells (Compare r p purpose) (Spending tries) now) m now
told-spending r p purpose tries m now h told some (inl old) =
    let is : ((reference now r).tries == tries) ≡ true = rw (old, told) (grind (arith, nat_tests)) in
    rw is (record { possible = refl; gives = old; first = tt })
told-spending r p purpose tries m now h told some (inr new) =
    let s = spent-tries r m h in
    let t : (reference now r).tries ≡ (reference m r).tries - 1 = rw new s in
    let is : ((reference now r).tries == tries) ≡ false = grind (arith, nat_tests) in
    rw is (record { possible = h; gives = new; first = apart-tries r p purpose m h some })

-- ---- Filling

-- a match that keeps the value and finds the counter full changes nothing
kept-match : (r : RefId) (p : List ℕ) (purpose : Purpose) (m : Memory) → has m r ≡ true → (reference m r).tries ≡ (reference m r).limit
    → bytes_eq p (reference m r).secret ≡ true → keeps_value p purpose ≡ true → after_match r purpose m ≡ m
kept-match r p Verify m h tries same keeps =
    changed-same r full m h (λ i. record (reference m r) { tries = sym tries i })
kept-match r p (Change n) m h tries same keeps =
    let is : p ≡ (reference m r).secret = (bytes_eq-Decides p (reference m r).secret).0 same in
    let new : p ≡ n = (bytes_eq-Decides p n).0 keeps in
    let value : n ≡ (reference m r).secret = sym new ∙ is in
    changed-same r (renewed n) m h (λ i. record (reference m r) { tries = sym tries i; secret = value i })
kept-match r p (Unblock n) m h tries same keeps = absurd (cc)

-- where it changes the value, the memory is another one
apart-match : (r : RefId) (p : List ℕ) (purpose : Purpose) (m : Memory) → has m r ≡ true
    → bytes_eq p (reference m r).secret ≡ true → keeps_value p purpose ≡ false → is_unblocking (Compare r p purpose) ≡ false
    → after_match r purpose m ≡ m → ⊥
apart-match r p Verify m h same keeps other e = absurd (cc)
apart-match r p (Unblock n) m h same keeps other e = absurd (cc)
apart-match r p (Change n) m h same keeps other e =
    let value : n ≡ (reference m r).secret = sym (ap (λ (x : Reference). x.secret) (changed-at r (renewed n) m h)) ∙ ap (λ (x : Memory). (reference x r).secret) e in
    let is : p ≡ (reference m r).secret = (bytes_eq-Decides p (reference m r).secret).0 same in
    let t : bytes_eq p n ≡ true = (bytes_eq-Decides p n).1 (is ∙ sym value) in
    absurd (let f : true ≡ false = sym t ∙ keeps in cc)

-- done, where the counter or the value shows it
first-done : (r : RefId) (p : List ℕ) (purpose : Purpose) (m : Memory) (full_before keeps : Bool) → has m r ≡ true
    → 0 < (reference m r).tries → (reference m r).tries ≤ (reference m r).limit → bytes_eq p (reference m r).secret ≡ true
    → ((reference m r).limit == (reference m r).tries) ≡ full_before → keeps_value p purpose ≡ keeps → (full_before && keeps) ≡ false
    → IsFirstOf m (Compare r p purpose) Done
first-done r p purpose m full_before keeps h some few same is_full is_kept either = (
  (λ other e. nothing full_before keeps is_full is_kept either other e),
  (λ possible e.
      let d = match-tries r purpose m h in
      let s = spent-tries r m h in
      let t = ap (λ (x : Memory). (reference x r).tries) e in
      absurd (omega arith)),
)
  where
    nothing : (f k : Bool) → ((reference m r).limit == (reference m r).tries) ≡ f → keeps_value p purpose ≡ k → (f && k) ≡ false
        → IsTrue (not (is_unblock purpose)) → after_match r purpose m ≡ m → ⊥
    nothing false k lower kept either other e =
        let d = match-tries r purpose m h in
        let t = ap (λ (x : Memory). (reference x r).tries) e in
        let l : (reference m r).limit ≡ (reference m r).tries = sym d ∙ t in
        absurd (let x : true ≡ false = sym (grind (arith, nat_tests)) ∙ lower in cc)
    nothing true false lower kept either other e = apart-match r p purpose m h same kept (flip (is_unblock purpose) other) e
      where
        flip : (b : Bool) → not b ≡ true → b ≡ false
        flip true x = absurd (cc)
        flip false x = refl
    nothing true true lower kept either other e = absurd (cc)

told-filling : (r : RefId) (p : List ℕ) (purpose : Purpose) (tries : ℕ) (m now : Memory) → has m r ≡ true
    → tries ≡ (reference m r).tries → 0 < (reference m r).tries → (reference m r).tries ≤ (reference m r).limit
    → bytes_eq p (reference m r).secret ≡ true
    → (now ≡ change_reference r one_less m) ⊎ (now ≡ after_match r purpose m)
    → IsTold (Compare r p purpose) (tells (Compare r p purpose) (Filling tries) now) m now
told-filling r p purpose tries m now h told some few same (inl spent) =
    let s = spent-tries r m h in
    let t : (reference now r).tries ≡ (reference m r).tries - 1 = rw spent s in
    let is : ((reference now r).tries + 1 == tries) ≡ true = grind (arith, nat_tests) in
    rw is (record { possible = h; gives = spent; first = apart-tries r p purpose m h some })
told-filling r p purpose tries m now h told some few same (inr done) =
    let d = match-tries r purpose m h in
    let t : (reference now r).tries ≡ (reference m r).limit = rw done d in
    let is : ((reference now r).tries + 1 == tries) ≡ false = grind (arith, nat_tests) in
    let test : ((reference now r).tries == tries) ≡ ((reference m r).limit == (reference m r).tries) = λ i. t i == told i in
    rw (is, test) (go ((reference m r).limit == (reference m r).tries) (keeps_value p purpose) refl refl)
  where
    go : (f k : Bool) → ((reference m r).limit == (reference m r).tries) ≡ f → keeps_value p purpose ≡ k
        → IsTold (Compare r p purpose) (if f && k then Nothing else Done) m now
    go true true is_full kept =
        let l : (reference m r).tries ≡ (reference m r).limit = grind (arith, nat_tests) in
        record { possible = refl; gives = done ∙ kept-match r p purpose m h l same kept; first = tt }
    go true false is_full kept = record { possible = same; gives = done; first = first-done r p purpose m true false h some few same is_full kept refl }
    go false k is_full kept = record { possible = same; gives = done; first = first-done r p purpose m false k h some few same is_full kept refl }

-- ---- Putting

told-putting : (id : ℕ) (v : List ℕ) (told : Bool) (m now : Memory) → length m.objects ≡ 33 → nat_lt id 33 ≡ true
    → told ≡ bytes_eq (stored m id) v
    → (now ≡ m) ⊎ (now ≡ with_object id v m)
    → IsTold (Put id v) (tells (Put id v) (Putting told) now) m now
told-putting id v told m now places small is which = go told (sym is) which
  where
    within : id < length m.objects
    within = rw places (grind (arith, nat_tests))

    there : stored (with_object id v m) id ≡ v
    there = get_or-set_same m.objects id v [] within

    unchanged : bytes_eq (stored m id) v ≡ true → with_object id v m ≡ m
    unchanged e =
        let x : stored m id ≡ v = (bytes_eq-Decides (stored m id) v).0 e in
        ap (λ (o : List (List ℕ)). record m { objects = o }) (ap (slice_set m.objects id) (sym x) ∙ set-get_or m.objects id [])

    another : bytes_eq (stored m id) v ≡ false → with_object id v m ≡ m → ⊥
    another e same =
        let x : stored m id ≡ v = ap (λ (y : Memory). stored y id) (sym same) ∙ there in
        let t : bytes_eq (stored m id) v ≡ true = (bytes_eq-Decides (stored m id) v).1 x in
        absurd (let f : true ≡ false = sym t ∙ e in cc)

    go : (b : Bool) → bytes_eq (stored m id) v ≡ b → (now ≡ m) ⊎ (now ≡ with_object id v m)
        → IsTold (Put id v) (if b || not (bytes_eq (stored now id) v) then Nothing else Done) m now
    go true e (inl old) = record { possible = refl; gives = old; first = tt }
    go true e (inr new) = record { possible = refl; gives = new ∙ unchanged e; first = tt }
    go false e (inl old) =
        let t : bytes_eq (stored now id) v ≡ false = rw old e in
        rw t (record { possible = refl; gives = old; first = tt })
    go false e (inr new) =
        let t : bytes_eq (stored now id) v ≡ true = (bytes_eq-Decides (stored now id) v).1 (rw new there) in
        rw t (record { possible = refl; gives = new; first = ((λ other. another e), (λ possible. absurd (cc))) })

-- ---- by the call that lost power

some-same : {A : Type 0} {x y : A} → Some x ≡ Some y → x ≡ y
some-same h = cc

limited : (m : Memory) (r : RefId) → IsSound m → has m r ≡ true → ((reference m r).tries ≤ (reference m r).limit) × ((reference m r).tries ≤ 15)
limited m r sound h = let l = sound.limits r h in (grind (arith, nat_tests), grind (arith, nat_tests))

not-blocked : (n : ℕ) → (n == 0) ≡ false → 0 < n
not-blocked n h = grind (arith, nat_tests)

-- 90 00 of a comparison
matched : (b d : Bool) (w : ℕ) → (if b then 0x6983 else if d then 0x63C0 + w else 0x9000) ≡ 0x9000 → w ≤ 15 → (b ≡ false) × (d ≡ false)
matched true d w h few = absurd (omega (arith, h))
matched false true w h few = absurd (omega arith)
matched false false w h few = (refl, refl)

-- a comparison that isn't blocked is answered 90 00 or 63 CX
spends-word : (d : Bool) (w : ℕ) → w ≤ 15 → (is_granted (if d then 0x63C0 + w else 0x9000) || is_mismatched (if d then 0x63C0 + w else 0x9000)) ≡ true
spends-word true w few = grind (arith, nat_tests)
spends-word false w few = refl

at-some : (P : Memory → Type 0) (o : Option Memory) (m : Memory) → o ≡ Some m → IfSome o P → P m
at-some P o m e h = let Q : Option Memory → Type 0 = λ x. IfSome x P in subst Q e h

which-is : (f g : Memory → Memory) (o n : Option Memory) (m now : Memory) → o ≡ Some m → n ≡ Some now
    → (n ≡ option_map f o) ⊎ (n ≡ option_map g o) → (now ≡ f m) ⊎ (now ≡ g m)
which-is f g o n m now before after (inl h) = inl (some-same (sym after ∙ h ∙ ap (option_map f) before))
which-is f g o n m now before after (inr h) = inr (some-same (sym after ∙ h ∙ ap (option_map g) before))

not-differs : (b : Bool) → not b ≡ false → b ≡ true
not-differs true h = refl
not-differs false h = absurd (cc)

-- it may be said
pub told-broken : (put_cost : ℕ → ℕ) (a : Ask) (broken : Broken) (old new : StoreState) (m now : Memory) → IsSound m → IsApt m a → old.mem ≡ Some m → new.mem ≡ Some now
    → Breaks put_cost a broken old new → IsTold a (tells a broken now) m now
told-broken put_cost (Compare r p purpose) (Spending tries) old new m now sound apt before after lost =
    told-spending r p purpose tries m now apt (at-some _ old.mem m before lost.tries) (not-blocked _ (at-some _ old.mem m before lost.cause))
    (which-is _ _ old.mem new.mem m now before after lost.leaves.left)
told-broken put_cost (Compare r p purpose) (Filling tries) old new m now sound apt before after lost =
    let few = limited m r sound apt in
    let word = at-some _ old.mem m before lost.cause in
    let w : (reference m r).tries - 1 ≤ 15 = let l = few.1 in omega arith in
    let lines = matched _ _ _ word w in
    told-filling r p purpose tries m now apt (at-some _ old.mem m before lost.tries) (not-blocked _ lines.0) few.0 (not-differs _ lines.1)
    (which-is _ _ old.mem new.mem m now before after lost.leaves.left)
told-broken put_cost (Put id v) (Putting same) old new m now sound apt before after lost =
    told-putting id v same m now sound.places apt (at-some _ old.mem m before lost.same)
    (which-is _ _ old.mem new.mem m now before after lost.leaves.left)
told-broken put_cost (Compare r p purpose) (Putting same) old new m now sound apt before after lost = absurd lost
told-broken put_cost (Put id v) (Spending tries) old new m now sound apt before after lost = absurd lost
told-broken put_cost (Put id v) (Filling tries) old new m now sound apt before after lost = absurd lost
told-broken put_cost (Refused w) broken old new m now sound apt before after lost = absurd lost
told-broken put_cost (Select x) broken old new m now sound apt before after lost = absurd lost
told-broken put_cost (Get id) broken old new m now sound apt before after lost = absurd lost
told-broken put_cost (Logout r) broken old new m now sound apt before after lost = absurd lost
told-broken put_cost (Query r) broken old new m now sound apt before after lost = absurd lost
told-broken put_cost (Internal x) broken old new m now sound apt before after lost = absurd lost
told-broken put_cost AskChallenge broken old new m now sound apt before after lost = absurd lost
told-broken put_cost (External x) broken old new m now sound apt before after lost = absurd lost
told-broken put_cost AskWitness broken old new m now sound apt before after lost = absurd lost
told-broken put_cost (Mutual w x) broken old new m now sound apt before after lost = absurd lost

-- only a command that writes, and that would be answered 90 00 or 63 CX, loses power
pub lost-word : (put_cost : ℕ → ℕ) (a : Ask) (broken : Broken) (old new : StoreState) (m : Memory) → IsSound m → IsApt m a → old.mem ≡ Some m
    → Breaks put_cost a broken old new
    → IsTrue (is_writer a) × IsTrue (is_granted (last_lines_word m a) || is_mismatched (last_lines_word m a))
lost-word put_cost (Compare r p purpose) (Spending tries) old new m sound apt before lost =
    let free = at-some _ old.mem m before lost.cause in
    let few = (limited m r sound apt).1 in
    (refl, rw free (spends-word (differs m (Compare r p purpose)) ((reference m r).tries - 1) (omega arith)))
lost-word put_cost (Compare r p purpose) (Filling tries) old new m sound apt before lost = (refl, rw (at-some _ old.mem m before lost.cause) refl)
lost-word put_cost (Put id v) (Putting same) old new m sound apt before lost = (refl, rw (at-some _ old.mem m before lost.cause) refl)
lost-word put_cost (Compare r p purpose) (Putting same) old new m sound apt before lost = absurd lost
lost-word put_cost (Put id v) (Spending tries) old new m sound apt before lost = absurd lost
lost-word put_cost (Put id v) (Filling tries) old new m sound apt before lost = absurd lost
lost-word put_cost (Refused w) broken old new m sound apt before lost = absurd lost
lost-word put_cost (Select x) broken old new m sound apt before lost = absurd lost
lost-word put_cost (Get id) broken old new m sound apt before lost = absurd lost
lost-word put_cost (Logout r) broken old new m sound apt before lost = absurd lost
lost-word put_cost (Query r) broken old new m sound apt before lost = absurd lost
lost-word put_cost (Internal x) broken old new m sound apt before lost = absurd lost
lost-word put_cost AskChallenge broken old new m sound apt before lost = absurd lost
lost-word put_cost (External x) broken old new m sound apt before lost = absurd lost
lost-word put_cost AskWitness broken old new m sound apt before lost = absurd lost
lost-word put_cost (Mutual w x) broken old new m sound apt before lost = absurd lost

-- a memory that was told is told afterwards
either-told : (f g : Memory → Memory) (o n : Option Memory) (m : Memory) → o ≡ Some m → (n ≡ option_map f o) ⊎ (n ≡ option_map g o) → (now : Memory) × (n ≡ Some now)
either-told f g o n m before (inl h) = (f m, h ∙ ap (option_map f) before)
either-told f g o n m before (inr h) = (g m, h ∙ ap (option_map g) before)

pub lost-told : (put_cost : ℕ → ℕ) (a : Ask) (broken : Broken) (old new : StoreState) (m : Memory) → old.mem ≡ Some m → Breaks put_cost a broken old new → (now : Memory) × (new.mem ≡ Some now)
lost-told put_cost (Compare r p purpose) (Spending tries) old new m before lost = either-told _ _ old.mem new.mem m before lost.leaves.left
lost-told put_cost (Compare r p purpose) (Filling tries) old new m before lost = either-told _ _ old.mem new.mem m before lost.leaves.left
lost-told put_cost (Put id v) (Putting same) old new m before lost = either-told _ _ old.mem new.mem m before lost.leaves.left
lost-told put_cost (Compare r p purpose) (Putting same) old new m before lost = absurd lost
lost-told put_cost (Put id v) (Spending tries) old new m before lost = absurd lost
lost-told put_cost (Put id v) (Filling tries) old new m before lost = absurd lost
lost-told put_cost (Refused w) broken old new m before lost = absurd lost
lost-told put_cost (Select x) broken old new m before lost = absurd lost
lost-told put_cost (Get id) broken old new m before lost = absurd lost
lost-told put_cost (Logout r) broken old new m before lost = absurd lost
lost-told put_cost (Query r) broken old new m before lost = absurd lost
lost-told put_cost (Internal x) broken old new m before lost = absurd lost
lost-told put_cost AskChallenge broken old new m before lost = absurd lost
lost-told put_cost (External x) broken old new m before lost = absurd lost
lost-told put_cost AskWitness broken old new m before lost = absurd lost
lost-told put_cost (Mutual w x) broken old new m before lost = absurd lost

-- the first loss that was due has come
pub lost-due : (put_cost : ℕ → ℕ) (a : Ask) (broken : Broken) (old new : StoreState) → Breaks put_cost a broken old new → new.power.due ≡ option_map after_loss old.power.due
lost-due put_cost (Compare r p purpose) (Spending tries) old new lost = ap (λ (p : Power). p.due) lost.leaves.power
lost-due put_cost (Compare r p purpose) (Filling tries) old new lost = ap (λ (p : Power). p.due) lost.leaves.power
lost-due put_cost (Put id v) (Putting same) old new lost = ap (λ (p : Power). p.due) lost.leaves.power
lost-due put_cost (Compare r p purpose) (Putting same) old new lost = absurd lost
lost-due put_cost (Put id v) (Spending tries) old new lost = absurd lost
lost-due put_cost (Put id v) (Filling tries) old new lost = absurd lost
lost-due put_cost (Refused w) broken old new lost = absurd lost
lost-due put_cost (Select x) broken old new lost = absurd lost
lost-due put_cost (Get id) broken old new lost = absurd lost
lost-due put_cost (Logout r) broken old new lost = absurd lost
lost-due put_cost (Query r) broken old new lost = absurd lost
lost-due put_cost (Internal x) broken old new lost = absurd lost
lost-due put_cost AskChallenge broken old new lost = absurd lost
lost-due put_cost (External x) broken old new lost = absurd lost
lost-due put_cost AskWitness broken old new lost = absurd lost
lost-due put_cost (Mutual w x) broken old new lost = absurd lost

pub ruleset recovery_laws = (told-broken, lost-word, lost-told, lost-due)
