-- What a loss of power leaves, and what may be said of it.
use Rattle.std.specs.Prelude.{◌||◌, ◌==◌, ◌⊎◌, option_map}
use Rattle.std.specs.Str.{bytes_eq}
use Rattle.std.proofs.Common.{◌≡◌, ℕ, Bool, true, false, List, [], ◌∷◌, Option, Some, None, refl, ap, sym, ◌∙◌, arith, inl, inr, eq-eqb, eqb-true, subst}
use Rattle.std.proofs.lemmas.Bool.Decides.{nat_tests}
use Rattle.std.proofs.lemmas.Slice.Eq.{bytes_eq-Decides}
use Rattle.piv_model.specs.declared.kinds.RefId.{RefId}
use Rattle.piv_model.specs.declared.kinds.Took.{Took}
use Rattle.piv_model.specs.declared.kinds.Took.TheVariants.{Nothing, Spent, Done}
use Rattle.piv_model.specs.Commands.{CardCommand}
use Rattle.piv_model.specs.Entries.{Past, Opened, Closed, Call, Part, Rest, Bad, Reset, Cut, Up, Note}
use Rattle.piv_model.specs.Memory.{Memory, Reference, CardKey, reference}
use Rattle.piv_model.specs.Base.{Base, profile}
use Rattle.piv_rules.specs.StatusWords.{is_granted, is_mismatched}
use Rattle.piv_rules.specs.Asks.{Ask, Put, Compare, Purpose, ask}
use Rattle.piv_rules.specs.Connections.{on}
use Rattle.piv_rules.specs.Effects.{memory_after}
use Rattle.piv_rules.specs.Memories.{running, mem}
use Rattle.piv_rules.specs.Answers.{Situation, situation_of, answer, answer_to, Reply}
use Rattle.piv_rules.specs.Losses.{can_come, MayBeSaid}
use Rattle.piv_rules.specs.Legal.{IsLegal, IsAllowed, is_writer}
use Rattle.piv_rules.specs.Turns.{called}
use Rattle.piv_rules.proofs.Memories.{mem-step}
use Rattle.card_laws.specs.LossLaws.{before_loss}
use Rattle.card_laws.proofs.LossLaws.{UpsTellTheMemory-law, OffLeavesTheMemory-law}
use Rattle.command_laws.proofs.Limits.{after-spent}
use Rattle.login_laws.specs.LoginLaws.{is_miss}
use Rattle.login_laws.proofs.Writers.{writer-answer}
use Rattle.login_laws.proofs.Tries.{after-nothing}
use Rattle.login_laws.proofs.Bools.{not-true, granted-word, or-last}
use Rattle.login_laws.proofs.Logins.{miss-is}
use Rattle.history_laws.specs.RecoveryLaws.{writes, WritersLosePower, IsOneTryLess, IsCarriedOut, RecoveryKeepsAPrefix, IdleLossesChangeNothing, CanBeSaid, WhatIsLeftCanBeSaid, TheFirstIsSaid}

-- ---- what is left

-- the command that the last loss cut short was allowed to lose power
pub lost-allowed : (B : Base) (H : Past) (r : ℕ × CardCommand) → IsLegal B H → on H ≡ false → running H ≡ Some r
    → IsAllowed B (before_loss H) (Cut (Some r))
lost-allowed B [] r legal off was = absurd (cc)
lost-allowed B (Cut x ∷ H) r legal off was = subst (λ o. IsAllowed B H (Cut o)) was legal.1
lost-allowed B (Closed c ∷ H) r legal off was = lost-allowed B H r legal.0 off was
lost-allowed B (Note a w ∷ H) r legal off was = lost-allowed B H r legal.0 off was
lost-allowed B (Opened c i shared ∷ H) r legal off was = absurd (let h : false ≡ true = sym off ∙ legal.1.0 in cc)
lost-allowed B (Call c k word block ∷ H) r legal off was = absurd (let h : false ≡ true = sym off ∙ legal.1.0 in cc)
lost-allowed B (Part c ∷ H) r legal off was = absurd (let h : false ≡ true = sym off ∙ legal.1.0 in cc)
lost-allowed B (Rest c ∷ H) r legal off was = absurd (let h : false ≡ true = sym off ∙ legal.1.0 in cc)
lost-allowed B (Bad c word ∷ H) r legal off was = absurd (let h : false ≡ true = sym off ∙ legal.1.0 in cc)
lost-allowed B (Reset i ∷ H) r legal off was = absurd (let h : false ≡ true = sym off ∙ legal.1 in cc)
lost-allowed B (Up t ∷ H) r legal off was = absurd (cc)

-- a command that can have been done was granted
compare-granted : (s : Situation) (r : RefId) (p : List ℕ) (purpose : Purpose) → bytes_eq p (reference s.memory r).secret ≡ true
    → (is_granted (answer_to s (Compare r p purpose)).word || is_mismatched (answer_to s (Compare r p purpose)).word) ≡ true
    → (answer_to s (Compare r p purpose)).word ≡ 0x9000
unfolding answer_to
compare-granted s r p purpose equal h = grind (arith, nat_tests)

pub put-granted : (s : Situation) (id : ℕ) (v : List ℕ)
    → (is_granted (answer_to s (Put id v)).word || is_mismatched (answer_to s (Put id v)).word) ≡ true
    → (answer_to s (Put id v)).word ≡ 0x9000
unfolding answer_to
put-granted s id v h = grind (arith, nat_tests)

done-granted : (s : Situation) (a : Ask) → can_come s.memory a Done ≡ true
    → (is_granted (answer_to s a).word || is_mismatched (answer_to s a).word) ≡ true → (answer_to s a).word ≡ 0x9000
done-granted s (Compare r p purpose) can h = compare-granted s r p purpose can h
done-granted s (Put id v) can h = put-granted s id v h
done-granted s a can h = absurd (cc)

-- the memory after its Call
called-mem : (B : Base) (G : Past) (c : ℕ) (k : CardCommand) → (answer B G c k).word ≡ 0x9000
    → mem B (called B G c k ∷ G) ≡ memory_after (ask (profile B) k) Done (mem B G)
called-mem B G c k granted = mem-step B G (called B G c k) ∙ rw granted refl

spent-less : (B : Base) (G : Past) (k : CardCommand) (a : Ask) (m : Memory) → ask (profile B) k ≡ a → can_come (mem B G) a Spent ≡ true
    → m ≡ memory_after a Spent (mem B G) → IsOneTryLess B G k m
spent-less B G k (Compare r p purpose) m asks can gives =
    record { compared = r; candidate = p; purpose = purpose; asks = asks; gives = gives ∙ after-spent r p purpose (mem B G) }
spent-less B G k a m asks can gives = absurd (cc)

left-by : (B : Base) (G : Past) (c : ℕ) (k : CardCommand) (t : Took) (m : Memory) → IsAllowed B G (Cut (Some (c, k)))
    → MayBeSaid (mem B G) (Some (ask (profile B) k)) t → m ≡ memory_after (ask (profile B) k) t (mem B G)
    → (m ≡ mem B G) ⊎ IsOneTryLess B G k m ⊎ IsCarriedOut B G c k m
left-by B G c k Nothing m allowed may gives = inl (gives ∙ after-nothing (ask (profile B) k) (mem B G))
left-by B G c k Spent m allowed may gives = inr (inl (spent-less B G k (ask (profile B) k) m refl may.0 gives))
left-by B G c k Done m allowed may gives =
    let e = ap (λ (x : Reply). x.word) (writer-answer B G c k allowed.2) in
    let granted = e ∙ done-granted (situation_of B G c) (ask (profile B) k) may.0
    (sym (ap (λ w. is_granted w || is_mismatched w) e) ∙ allowed.3) in
    inr (inr (record { granted = granted; gives = gives ∙ sym (called-mem B G c k granted) }))

pub RecoveryKeepsAPrefix-law : RecoveryKeepsAPrefix
RecoveryKeepsAPrefix-law B H t c k legal was =
    let off = not-true (on H) legal.1.0 in
    let same = OffLeavesTheMemory-law B H legal.0 off in
    let may : MayBeSaid (mem B H) (Some (ask (profile B) k)) t =
    subst (λ o. MayBeSaid (mem B H) (option_map (λ (x : ℕ × CardCommand). ask (profile B) x.1) o) t) was legal.1.1 in
    left-by B (before_loss H) c k t (mem B (Up t ∷ H)) (lost-allowed B H (c, k) legal.0 off was)
    (subst (λ m. MayBeSaid m (Some (ask (profile B) k)) t) same may)
    ((UpsTellTheMemory-law B H t).1 (c, k) was ∙ ap (memory_after (ask (profile B) k) t) same)

pub IdleLossesChangeNothing-law : IdleLossesChangeNothing
IdleLossesChangeNothing-law B H t legal was = (
  subst (λ o. MayBeSaid (mem B H) (option_map (λ (x : ℕ × CardCommand). ask (profile B) x.1) o) t) was legal.1.1,
  (UpsTellTheMemory-law B H t).0 was ∙ OffLeavesTheMemory-law B H legal.0 (not-true (on H) legal.1.0),
)

-- ---- equal memories

abbrev Either : {A : Type 0} → A → A → Type 0
Either x y = (x ≡ y) ⊎ ¬ (x ≡ y)

both-ways : {A C : Type 0} (x y : A) (u v : C) → ((x ≡ y) → u ≡ v) → (u ≡ v → x ≡ y) → Either x y → Either u v
both-ways x y u v to from (inl h) = inl (to h)
both-ways x y u v to from (inr h) = inr (λ e. h (from e))

-- two parts
parts : {A C D : Type 0} (x y : A) (u v : C) (s t : D) → (x ≡ y → u ≡ v → s ≡ t) → (s ≡ t → x ≡ y) → (s ≡ t → u ≡ v) → Either x y → Either u v
    → Either s t
parts x y u v s t to first last (inl h) (inl k) = inl (to h k)
parts x y u v s t to first last (inl h) (inr k) = inr (λ e. k (last e))
parts x y u v s t to first last (inr h) b = inr (λ e. h (first e))

numbers : (x y : ℕ) → Either x y
numbers x y = go (x == y) refl
  where
    go : (b : Bool) → (x == y) ≡ b → Either x y
    go true h = inl (eqb-true x y h)
    go false h = inr (λ e. let k = eq-eqb x y e in cc)

bytes : (xs ys : List ℕ) → Either xs ys
bytes xs ys = go (bytes_eq xs ys) refl
  where
    go : (b : Bool) → bytes_eq xs ys ≡ b → Either xs ys
    go true h = inl ((bytes_eq-Decides xs ys).0 h)
    go false h = inr (λ e. let k = (bytes_eq-Decides xs ys).1 e in cc)

lists : (xs ys : List (List ℕ)) → Either xs ys
lists [] [] = inl refl
lists [] (y ∷ ys) = inr (λ e. cc)
lists (x ∷ xs) [] = inr (λ e. cc)
lists (x ∷ xs) (y ∷ ys) = parts x y xs ys (x ∷ xs) (y ∷ ys) (λ h k. cc) (λ e. cc) (λ e. cc) (bytes x y) (lists xs ys)

references : (x y : Reference) → Either x y
references x y =
    parts {A = ℕ × ℕ} (x.limit, x.tries) (y.limit, y.tries) x.secret y.secret x y
    (λ h k j. record { limit = (h j).0; tries = (h j).1; secret = k j }) (λ e j. ((e j).limit, (e j).tries)) (λ e j. (e j).secret)
    (parts x.limit y.limit x.tries y.tries (x.limit, x.tries) (y.limit, y.tries) (λ h k j. (h j, k j)) (λ e j. (e j).0) (λ e j. (e j).1) (numbers x.limit y.limit) (numbers x.tries y.tries))
    (bytes x.secret y.secret)

globals : (x y : Option Reference) → Either x y
globals None None = inl refl
globals None (Some y) = inr (λ e. cc)
globals (Some x) None = inr (λ e. cc)
globals (Some x) (Some y) = both-ways x y (Some x) (Some y) (λ h. ap (λ z. Some z) h) (λ e. cc) (references x y)

keys : (x y : CardKey) → Either x y
keys x y =
    parts x.algorithm y.algorithm x.key y.key x y (λ h k j. record { algorithm = h j; key = k j }) (λ e j. (e j).algorithm) (λ e j. (e j).key)
    (numbers x.algorithm y.algorithm) (bytes x.key y.key)

abbrev Counters : Type 0
Counters = Reference × Reference × Option Reference

abbrev counters : Memory → Counters
counters m = (m.pin, m.puk, m.global)

abbrev Others : Type 0
Others = CardKey × CardKey × ℕ × List (List ℕ)

abbrev others : Memory → Others
others m = (m.admin, m.card_auth, m.budget, m.objects)

same-counters : (x y : Memory) → Either (counters x) (counters y)
same-counters x y =
    parts {A = Reference × Reference} (x.pin, x.puk) (y.pin, y.puk) x.global y.global (counters x) (counters y)
    (λ h k j. ((h j).0, (h j).1, k j)) (λ e j. ((e j).0, (e j).1)) (λ e j. (e j).2)
    (parts x.pin y.pin x.puk y.puk (x.pin, x.puk) (y.pin, y.puk) (λ h k j. (h j, k j)) (λ e j. (e j).0) (λ e j. (e j).1) (references x.pin y.pin) (references x.puk y.puk))
    (globals x.global y.global)

same-others : (x y : Memory) → Either (others x) (others y)
same-others x y =
    parts {A = CardKey × CardKey} {C = ℕ × List (List ℕ)} (x.admin, x.card_auth) (y.admin, y.card_auth) (x.budget, x.objects) (y.budget, y.objects) (others x) (others y)
    (λ h k j. ((h j).0, (h j).1, (k j).0, (k j).1)) (λ e j. ((e j).0, (e j).1)) (λ e j. ((e j).2, (e j).3))
    (parts x.admin y.admin x.card_auth y.card_auth (x.admin, x.card_auth) (y.admin, y.card_auth) (λ h k j. (h j, k j)) (λ e j. (e j).0) (λ e j. (e j).1) (keys x.admin y.admin) (keys x.card_auth y.card_auth))
    (parts x.budget y.budget x.objects y.objects (x.budget, x.objects) (y.budget, y.objects) (λ h k j. (h j, k j)) (λ e j. (e j).0) (λ e j. (e j).1) (numbers x.budget y.budget) (lists x.objects y.objects))

memories : (x y : Memory) → Either x y
memories x y =
    parts (counters x) (counters y) (others x) (others y) x y
    (λ h k j. record {
      pin = (h j).0;
      puk = (h j).1;
      global = (h j).2;
      admin = (k j).0;
      card_auth = (k j).1;
      budget = (k j).2;
      objects = (k j).3;
    }) (λ e j. counters (e j)) (λ e j. others (e j)) (same-counters x y) (same-others x y)

-- ---- what may be said

say-nothing : (a : Ask) (before now : Memory) → now ≡ before → CanBeSaid a before now
say-nothing a before now h = record { took = Nothing; may = (refl, tt); gives = h ∙ sym (after-nothing a before) }

say-spent : (a : Ask) (before now : Memory) → can_come before a Spent ≡ true → now ≡ memory_after a Spent before → CanBeSaid a before now
say-spent a before now can gives = go (memories (memory_after a Spent before) (memory_after a Nothing before))
  where
    go : Either (memory_after a Spent before) (memory_after a Nothing before) → CanBeSaid a before now
    go (inl h) = say-nothing a before now (gives ∙ h ∙ after-nothing a before)
    go (inr h) = record { took = Spent; may = (can, h); gives = gives }

say-done : (a : Ask) (before : Memory) → can_come before a Done ≡ true → CanBeSaid a before (memory_after a Done before)
say-done a before can =
    go (memories (memory_after a Done before) (memory_after a Nothing before)) (memories (memory_after a Done before) (memory_after a Spent before))
    (can_come before a Spent) refl
  where
    go : Either (memory_after a Done before) (memory_after a Nothing before) → Either (memory_after a Done before) (memory_after a Spent before)
        → (b : Bool) → can_come before a Spent ≡ b → CanBeSaid a before (memory_after a Done before)
    go (inl h) k b is = say-nothing a before _ (h ∙ after-nothing a before)
    go (inr h) (inl k) true is = say-spent a before _ is k
    go (inr h) (inr k) b is = record { took = Done; may = (can, ((λ u. h), (λ u. k))); gives = refl }
    go (inr h) (inl k) false is = record { took = Done; may = (can, ((λ u. h), (λ u. absurd (cc)))); gives = refl }

pub WhatIsLeftCanBeSaid-law : WhatIsLeftCanBeSaid
WhatIsLeftCanBeSaid-law a Nothing before can = say-nothing a before _ (after-nothing a before)
WhatIsLeftCanBeSaid-law a Spent before can = say-spent a before _ can refl
WhatIsLeftCanBeSaid-law a Done before can = say-done a before can

pub TheFirstIsSaid-law : TheFirstIsSaid
TheFirstIsSaid-law a Nothing m may = ((λ h u. refl), (λ can h e. absurd (apart (ap is_done e))))
  where
    is_done : Took → Bool
    is_done Done = true
    is_done t = false

    apart : ¬ (false ≡ true)
    apart h = cc
TheFirstIsSaid-law a Spent m may =
    ((λ h u. absurd (may.1 (h ∙ sym (after-nothing a m)))), (λ can h e. absurd (apart (ap is_done e))))
  where
    is_done : Took → Bool
    is_done Done = true
    is_done t = false

    apart : ¬ (false ≡ true)
    apart h = cc
TheFirstIsSaid-law a Done m may =
    ((λ h u. absurd (may.1.0 (rw u refl) (h ∙ sym (after-nothing a m)))), (λ can h e. may.1.1 can h))

-- ---- who loses power

writer-is : (a : Ask) → is_writer a ≡ writes a
writer-is (Compare r p purpose) = refl
writer-is (Put id v) = refl
writer-is a = refl

told-which : (word : ℕ) → (is_granted word || is_mismatched word) ≡ true → (word ≡ 0x9000) ⊎ (is_miss word ≡ true)
told-which word h = go (is_granted word) refl h
  where
    go : (b : Bool) → is_granted word ≡ b → (b || is_mismatched word) ≡ true → (word ≡ 0x9000) ⊎ (is_miss word ≡ true)
    go true is j = inl (granted-word word is)
    go false is j = inr (miss-is word ∙ j)

which-told : (word : ℕ) → (word ≡ 0x9000) ⊎ (is_miss word ≡ true) → (is_granted word || is_mismatched word) ≡ true
which-told word (inl h) = ap (λ w. is_granted w || is_mismatched w) h
which-told word (inr h) = or-last (is_granted word) (is_mismatched word) (sym (miss-is word) ∙ h)

pub WritersLosePower-law : WritersLosePower
WritersLosePower-law B G c k = (
  (λ a. record {
    powered = a.0;
    opened = a.1;
    writer = sym (writer-is (ask (profile B) k)) ∙ a.2;
    told = told-which (answer B G c k).word a.3;
  }),
  (λ w. (w.powered, w.opened, writer-is (ask (profile B) k) ∙ w.writer, which-told (answer B G c k).word w.told)),
)

pub ruleset recovery_laws = (WritersLosePower-law, RecoveryKeepsAPrefix-law, IdleLossesChangeNothing-law, WhatIsLeftCanBeSaid-law, TheFirstIsSaid-law)
