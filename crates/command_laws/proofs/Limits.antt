-- No reference is compared beyond its limit.
use Rattle.std.specs.Prelude.{if◌then◌else◌, IsTrue, ◌&&◌, option_map, unwrap_or}
use Rattle.std.proofs.Common.{◌≡◌, ℕ, suc, zero, ◌+◌, ◌-◌, ◌≤◌, Bool, true, false, List, [], ◌∷◌, Option, Some, None, refl, ap, arith, sym, ◌∙◌}
use Rattle.std.proofs.lemmas.Bool.Decides.{nat_tests}
use Rattle.piv_model.specs.declared.kinds.RefId.{RefId}
use Rattle.piv_model.specs.declared.kinds.RefId.TheVariants.{Pin, Puk, GlobalPin}
use Rattle.piv_model.specs.declared.kinds.Took.{Took}
use Rattle.piv_model.specs.declared.kinds.Took.TheVariants.{Nothing, Spent, Done}
use Rattle.piv_model.specs.Commands.{CardCommand}
use Rattle.piv_model.specs.Entries.{CardEntry, Past, Opened, Call, Up}
use Rattle.piv_model.specs.Base.{Base, Profile, profile, is_valid}
use Rattle.piv_model.specs.Sound.{is_limited, is_limited_if_any}
use Rattle.piv_model.specs.Memory.{has, Memory, Reference, reference, no_reference}
use Rattle.piv_model.specs.Changes.{change_reference, one_less}
use Rattle.piv_rules.specs.StatusWords.{is_granted, is_mismatched}
use Rattle.piv_rules.specs.Memories.{same_reference, fills, spends, tries, mem, running, spends_since, comparisons, is_call, reference_now, did_so, spent_by}
use Rattle.piv_rules.specs.Lookback.{count_after, some_entry}
use Rattle.piv_rules.specs.Asks.{Ask, Compare, Purpose, Verify, Change, Unblock, ask}
use Rattle.piv_rules.specs.Effects.{memory_after}
use Rattle.piv_rules.specs.Answers.{answer, answer_in, answer_to, Situation, situation_of, is_select, select_reply}
use Rattle.piv_rules.specs.Legal.{IsLegal, IsAllowed}
use Rattle.piv_rules.specs.Losses.{MayBeSaid}
use Rattle.piv_rules.proofs.Memories.{mem-step}
use Rattle.command_laws.specs.SpendLaws.{SpendsAreLimited, ComparisonsAreLimited}

-- a mismatch is answered only where a try was left
left-mismatch : (s : Situation) (r : RefId) (p : List ℕ) (purpose : Purpose)
    → is_mismatched (answer_to s (Compare r p purpose)).word ≡ true → 1 ≤ (reference s.memory r).tries
unfolding answer_to
left-mismatch s r p purpose h = grind (arith, nat_tests)

-- the tries of the memory are those of the history
pub tries-mem : (B : Base) (H : Past) (r : RefId) → (reference (mem B H) r).tries ≤ tries B H r
unfolding mem
tries-mem B H Pin = omega arith
tries-mem B H Puk = omega arith
tries-mem B H GlobalPin = go B.memory.global
  where
    go : (g : Option Reference) → (reference (record (mem B H) { global = option_map (λ x. reference_now B H GlobalPin) g }) GlobalPin).tries ≤ tries B H GlobalPin
    go None = omega arith
    go (Some x) = omega arith

pub same-reference : (r q : RefId) → same_reference r q ≡ true → r ≡ q
same-reference Pin Pin h = refl
same-reference Puk Puk h = refl
same-reference GlobalPin GlobalPin h = refl
same-reference Pin Puk h = absurd (cc)
same-reference Pin GlobalPin h = absurd (cc)
same-reference Puk Pin h = absurd (cc)
same-reference Puk GlobalPin h = absurd (cc)
same-reference GlobalPin Pin h = absurd (cc)
same-reference GlobalPin Puk h = absurd (cc)

-- a try is spent by a comparison alone
pub record IsComparison (r : RefId) (a : Ask) (t : Took) : Type 0 where
  pub candidate : List ℕ
  pub purpose : Purpose
  pub compares : a ≡ Compare r candidate purpose
  pub is_spent : t ≡ Spent

pub spent-comparison : (r : RefId) (a : Ask) (t : Took) → spent_by r a t ≡ true → IsComparison r a t
spent-comparison r (Compare q p purpose) Spent h =
    record { candidate = p; purpose = purpose; compares = ap (λ x. Compare x p purpose) (sym (same-reference r q h)); is_spent = refl }
spent-comparison r (Compare q p purpose) Nothing h = absurd (cc)
spent-comparison r (Compare q p purpose) Done h = absurd (cc)
spent-comparison r a t h = absurd (cc)

-- without a try to spend nothing changes
one_less-none : (r : RefId) (m : Memory) → (reference m r).tries ≡ 0 → change_reference r one_less m ≡ m
one_less-none Pin m h = ap (λ t. record m { pin = record m.pin { tries = t } }) (omega arith)
one_less-none Puk m h = ap (λ t. record m { puk = record m.puk { tries = t } }) (omega arith)
one_less-none GlobalPin m h = go m.global h
  where
    go : (g : Option Reference) → (reference (record m { global = g }) GlobalPin).tries ≡ 0
        → change_reference GlobalPin one_less (record m { global = g }) ≡ record m { global = g }
    go None e = refl
    go (Some x) e = ap (λ t. record m { global = Some (record x { tries = t }) }) (omega arith)

pub after-spent : (r : RefId) (p : List ℕ) (purpose : Purpose) (m : Memory) → memory_after (Compare r p purpose) Spent m ≡ change_reference r one_less m
after-spent r p Verify m = refl
after-spent r p (Change n) m = refl
after-spent r p (Unblock n) m = refl

after-nothing : (r : RefId) (p : List ℕ) (purpose : Purpose) (m : Memory) → memory_after (Compare r p purpose) Nothing m ≡ m
after-nothing r p Verify m = refl
after-nothing r p (Change n) m = refl
after-nothing r p (Unblock n) m = refl

-- the memory after an Up, where a comparison was running
mem-up : (B : Base) (H : Past) (t : Took) (x : ℕ × CardCommand) (a : Ask) → running H ≡ Some x → ask (profile B) x.1 ≡ a
    → mem B (Up t ∷ H) ≡ memory_after a t (mem B H)
mem-up B H t x a h e = mem-step B H (Up t) ∙ rw (h, e)

-- an entry that spends a try comes only where one is left
left-call : (B : Base) (H : Past) (c : ℕ) (k : CardCommand) (word : ℕ) (r : RefId) (p : List ℕ) (purpose : Purpose)
    → word ≡ (answer B H c k).word → is_mismatched word ≡ true → ask (profile B) k ≡ Compare r p purpose → 1 ≤ tries B H r
unfolding answer answer_in
left-call B H c k word r p purpose is differs asks = go (is_select k) is
  where
    go : (b : Bool) → word ≡ (if b then select_reply (situation_of B H c) (ask (profile B) k) else answer_to (situation_of B H c) (ask (profile B) k)).word → 1 ≤ tries B H r
    go true j = let e : word ≡ 0x9000 = rw asks at j in let f = ap is_mismatched e in absurd (cc)
    go false j =
        let e = rw asks at j in
        let m : is_mismatched (answer_to (situation_of B H c) (Compare r p purpose)).word ≡ true = sym (ap is_mismatched e) ∙ differs in
        let one = left-mismatch (situation_of B H c) r p purpose m in
        let le = tries-mem B H r in omega arith

left-up : (B : Base) (H : Past) (r : RefId) (a : Ask) → IsComparison r a Spent
    → ¬ (memory_after a Spent (mem B H) ≡ memory_after a Nothing (mem B H)) → (n : ℕ) → tries B H r ≡ n → 1 ≤ n
left-up B H r a k differs zero e =
    absurd (differs (ap (λ b. memory_after b Spent (mem B H)) k.compares ∙ after-spent r k.candidate k.purpose (mem B H)
    ∙ one_less-none r (mem B H) (let le = tries-mem B H r in omega arith)
    ∙ sym (ap (λ b. memory_after b Nothing (mem B H)) k.compares ∙ after-nothing r k.candidate k.purpose (mem B H))))
left-up B H r a k differs (suc n) e = omega arith

pub up-spends : (B : Base) (H : Past) (r : RefId) (a : Ask) (took : Took)
    → IsComparison r a took → MayBeSaid (mem B H) (Some a) took → 1 ≤ tries B H r
up-spends B H r a Spent k may = left-up B H r a k may.1 (tries B H r) refl
up-spends B H r a Nothing k may = let e = k.is_spent in absurd (cc)
up-spends B H r a Done k may = let e = k.is_spent in absurd (cc)

left-spends : (B : Base) (H : Past) (e : CardEntry) (r : RefId) → IsAllowed B H e → spends (profile B) r H e ≡ true → 1 ≤ tries B H r
left-spends B H (Call c k word block) r a h = go (is_granted word) (is_mismatched word) refl h
  where
    go : (g m : Bool) → is_mismatched word ≡ m → did_so (profile B) (spent_by r) (Some (k, if g then Done else if m then Spent else Nothing)) ≡ true → 1 ≤ tries B H r
    go true m e j = absurd (let p = spent-comparison r (ask (profile B) k) Done j in let q = p.is_spent in cc)
    go false true e j = let p = spent-comparison r (ask (profile B) k) Spent j in left-call B H c k word r p.candidate p.purpose a.2 e p.compares
    go false false e j = absurd (let p = spent-comparison r (ask (profile B) k) Nothing j in let q = p.is_spent in cc)
left-spends B H (Up took) r a h = go (running H) a.1 h
  where
    go : (o : Option (ℕ × CardCommand)) → MayBeSaid (mem B H) (option_map (λ x. ask (profile B) x.1) o) took
        → did_so (profile B) (spent_by r) (option_map (λ x. (x.1, took)) o) ≡ true → 1 ≤ tries B H r
    go None may j = absurd (cc)
    go (Some x) may j = up-spends B H r (ask (profile B) x.1) took (spent-comparison r (ask (profile B) x.1) took j) may
left-spends B H (Opened c i shared) r a h = absurd (cc)
left-spends B H e r a h = absurd (cc)

-- no more tries are spent than there were after the last filling
spent-le : (B : Base) (H : Past) (r : RefId) → IsLegal B H
    → count_after (fills (profile B) r) (spends (profile B) r) H ≤ (if some_entry (fills (profile B) r) H then (reference B.memory r).limit else (reference B.memory r).tries)
unfolding tries
spent-le B [] r l = omega arith
spent-le B (e ∷ H) r l = go (fills (profile B) r H e) (spends (profile B) r H e) refl (spent-le B H r l.0)
  where
    go : (f s : Bool) → spends (profile B) r H e ≡ s
        → count_after (fills (profile B) r) (spends (profile B) r) H ≤ (if some_entry (fills (profile B) r) H then (reference B.memory r).limit else (reference B.memory r).tries)
        → (if f then 0 else if s then count_after (fills (profile B) r) (spends (profile B) r) H + 1 else count_after (fills (profile B) r) (spends (profile B) r) H)
        ≤ (if (if f then true else some_entry (fills (profile B) r) H) then (reference B.memory r).limit else (reference B.memory r).tries)
    go true s k ih = omega arith
    go false true k ih = let left = left-spends B H e r l.1 k in omega arith
    go false false k ih = ih

pub SpendsAreLimited-law : SpendsAreLimited
SpendsAreLimited-law B H r legal start = go (some_entry (fills (profile B) r) H) (spent-le B H r legal)
  where
    go : (b : Bool) → spends_since B H r ≤ (if b then (reference B.memory r).limit else (reference B.memory r).tries)
        → spends_since B H r ≤ (reference B.memory r).limit
    go true h = h
    go false h = omega arith

-- the Calls that spend are some of the entries that do
calls-le : (m : Profile) (r : RefId) (H : Past)
    → count_after (fills m r) (λ G e. is_call e && spends m r G e) H ≤ count_after (fills m r) (spends m r) H
calls-le m r [] = omega arith
calls-le m r (e ∷ H) = go (fills m r H e) (is_call e) (spends m r H e) (calls-le m r H)
  where
    go : (f c s : Bool) → count_after (fills m r) (λ G d. is_call d && spends m r G d) H ≤ count_after (fills m r) (spends m r) H
        → (if f then 0 else if c && s then count_after (fills m r) (λ G d. is_call d && spends m r G d) H + 1
        else count_after (fills m r) (λ G d. is_call d && spends m r G d) H)
        ≤ (if f then 0 else if s then count_after (fills m r) (spends m r) H + 1 else count_after (fills m r) (spends m r) H)
    go true c s h = omega arith
    go false true true h = omega arith
    go false true false h = h
    go false false true h = omega arith
    go false false false h = h

pub ComparisonsAreLimited-law : ComparisonsAreLimited
unfolding comparisons
ComparisonsAreLimited-law B H r legal start = go (has B.memory r) (calls-le (profile B) r H) (SpendsAreLimited-law B H r legal start)
  where
    go : (b : Bool) → count_after (fills (profile B) r) (λ G e. is_call e && spends (profile B) r G e) H ≤ spends_since B H r
        → spends_since B H r ≤ (reference B.memory r).limit
        → (if b then count_after (fills (profile B) r) (λ G e. is_call e && spends (profile B) r G e) H else 0) ≤ (reference B.memory r).limit
    go true h k = omega arith
    go false h k = omega arith

-- ---- few tries

limited-few : (x : Reference) → is_limited x ≡ true → (x.limit ≤ 15) × (x.tries ≤ 15)
limited-few x h = grind (arith, nat_tests)

all-true : (a b c d e : Bool) → (a && b && c && d && e) ≡ true → (a ≡ true) × (b ≡ true) × (c ≡ true)
all-true true true true d e h = (refl, refl, refl)
all-true false b c d e h = absurd (cc)
all-true true false c d e h = absurd (cc)
all-true true true false d e h = absurd (cc)

few-global : (g : Option Reference) → is_limited_if_any g ≡ true → ((unwrap_or g no_reference).limit ≤ 15) × ((unwrap_or g no_reference).tries ≤ 15)
few-global None h = (omega arith, omega arith)
few-global (Some x) h = limited-few x h

few-base : (B : Base) (r : RefId) → IsTrue (is_valid B) → ((reference B.memory r).limit ≤ 15) × ((reference B.memory r).tries ≤ 15)
unfolding is_valid
few-base B Pin h = limited-few B.memory.pin (all-true _ _ _ _ _ h).0
few-base B Puk h = limited-few B.memory.puk (all-true (is_limited B.memory.pin) _ _ _ _ h).1
few-base B GlobalPin h = few-global B.memory.global (all-true (is_limited B.memory.pin) (is_limited B.memory.puk) _ _ _ h).2

-- a reference of a card has at most 15 tries
pub few-tries : (B : Base) (H : Past) → IsTrue (is_valid B) → (r : RefId) → (reference (mem B H) r).tries ≤ 15
unfolding tries
few-tries B H valid r = go (some_entry (fills (profile B) r) H) (few-base B r valid) (tries-mem B H r)
  where
    go : (b : Bool) → ((reference B.memory r).limit ≤ 15) × ((reference B.memory r).tries ≤ 15)
        → (reference (mem B H) r).tries ≤ (if b then (reference B.memory r).limit else (reference B.memory r).tries) - spends_since B H r
        → (reference (mem B H) r).tries ≤ 15
    go true few h = let l = few.0 in omega arith
    go false few h = let l = few.1 in omega arith

pub ruleset limit_laws = (SpendsAreLimited-law, ComparisonsAreLimited-law)
