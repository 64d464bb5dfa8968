-- The tries of a reference over a history.
use Rattle.std.specs.Prelude.{if◌then◌else◌, IsTrue, ◌&&◌, ◌||◌, ◌⊎◌, option_map}
use Rattle.std.specs.Str.{bytes_eq}
use Rattle.std.proofs.Common.{◌≡◌, ℕ, ◌+◌, ◌-◌, ◌≤◌, Bool, true, false, List, [], ◌∷◌, Option, Some, None, refl, ap, arith, sym, ◌∙◌, inl, inr}
use Rattle.std.proofs.lemmas.Bool.Decides.{nat_tests}
use Rattle.piv_model.specs.declared.kinds.RefId.{RefId}
use Rattle.piv_model.specs.declared.kinds.RefId.TheVariants.{Pin, Puk, GlobalPin}
use Rattle.piv_model.specs.declared.kinds.Took.{Took}
use Rattle.piv_model.specs.declared.kinds.Took.TheVariants.{Nothing, Spent, Done}
use Rattle.piv_model.specs.Commands.{CardCommand}
use Rattle.piv_model.specs.Entries.{CardEntry, Past, Opened, Closed, Call, Part, Rest, Bad, Reset, Cut, Up, Note}
use Rattle.piv_model.specs.Base.{Base, profile, is_valid}
use Rattle.piv_model.specs.Memory.{Memory, reference}
use Rattle.piv_rules.specs.StatusWords.{is_granted, is_mismatched}
use Rattle.piv_rules.specs.Effects.{memory_after, took_by}
use Rattle.piv_rules.specs.Memories.{same_reference, fills, spends, tries, mem, running, spends_since, tries_at_first, did_so, spent_by, filled_by, is_unblock}
use Rattle.piv_rules.specs.Lookback.{some_entry}
use Rattle.piv_rules.specs.Asks.{Ask, Compare, Purpose, Verify, Change, Unblock, ask}
use Rattle.piv_rules.specs.Answers.{answer, answer_to, Situation, situation_of, is_select, Reply}
use Rattle.piv_rules.specs.Legal.{IsLegal, IsAllowed}
use Rattle.piv_rules.specs.Losses.{MayBeSaid}
use Rattle.piv_rules.proofs.Steps.{tries-step}
use Rattle.command_laws.proofs.Limits.{few-tries, tries-mem, same-reference, spent-comparison, up-spends}
use Rattle.command_laws.proofs.WordLaws.{CompareWords-law}
use Rattle.login_laws.specs.TriesLaws.{TriesAddUp, TriesAreWithin, IsMatch, IsMatched, OnlyMatchesRaise, MissesTakeOne, MatchesFill, UnblockingsFillThePin, UpsTellTheTries, concerns, in_flight_concerns, MissesLeaveOthers, OthersLeaveTheTries, SpendsHadATry, LossesHadATry}
use Rattle.login_laws.proofs.Logins.{miss-is}
use Rattle.login_laws.proofs.Asking.{compare-has}
use Rattle.login_laws.proofs.Writers.{other-command, asked-answer}
use Rattle.login_laws.proofs.Bools.{granted-word, or-last}

-- ---- answers to comparisons

pub compare-answer : (B : Base) (H : Past) (c : ℕ) (k : CardCommand) (r : RefId) (p : List ℕ) (purpose : Purpose)
    → ask (profile B) k ≡ Compare r p purpose → (is_select k ≡ false) × (answer B H c k ≡ answer_to (situation_of B H c) (Compare r p purpose))
compare-answer B H c k r p purpose asks = (other-command (profile B) k _ asks refl, asked-answer B H c k _ asks refl)

-- a comparison is made only where a try was left
left-compared : (s : Situation) (r : RefId) (p : List ℕ) (purpose : Purpose)
    → (is_granted (answer_to s (Compare r p purpose)).word || is_mismatched (answer_to s (Compare r p purpose)).word) ≡ true
    → 1 ≤ (reference s.memory r).tries
unfolding answer_to
left-compared s r p purpose h = grind (arith, nat_tests)

-- and granted where the candidate is the secret
pub granted-equal : (s : Situation) (r : RefId) (p : List ℕ) (purpose : Purpose) → (reference s.memory r).tries ≤ 15
    → is_granted (answer_to s (Compare r p purpose)).word ≡ true → bytes_eq p (reference s.memory r).secret ≡ true
unfolding answer_to
granted-equal s r p purpose few h = grind (arith, nat_tests)

-- ---- spends

pub after-nothing : (a : Ask) (m : Memory) → memory_after a Nothing m ≡ m
after-nothing (Compare r p Verify) m = refl
after-nothing (Compare r p (Change n)) m = refl
after-nothing (Compare r p (Unblock n)) m = refl
after-nothing a m = refl

left-call : (B : Base) (H : Past) (c : ℕ) (k : CardCommand) (word : ℕ) (r : RefId) (p : List ℕ) (purpose : Purpose)
    → word ≡ (answer B H c k).word → (is_granted word || is_mismatched word) ≡ true → ask (profile B) k ≡ Compare r p purpose → 1 ≤ tries B H r
left-call B H c k word r p purpose is made asks =
    let e = ap (λ (x : Reply). x.word) (compare-answer B H c k r p purpose asks).1 in
    let j : word ≡ (answer_to (situation_of B H c) (Compare r p purpose)).word = is ∙ e in
    let one = left-compared (situation_of B H c) r p purpose (sym (ap (λ w. is_granted w || is_mismatched w) j) ∙ made) in
    let le = tries-mem B H r in omega arith

pub SpendsHadATry-law : SpendsHadATry
SpendsHadATry-law B H (Call c k word block) r a h = go (is_granted word) (is_mismatched word) refl h
  where
    go : (g m : Bool) → is_mismatched word ≡ m → did_so (profile B) (spent_by r) (Some (k, if g then Done else if m then Spent else Nothing)) ≡ true → 1 ≤ tries B H r
    go true m e j = absurd (let p = spent-comparison r (ask (profile B) k) Done j in let q = p.is_spent in cc)
    go false true e j =
        let p = spent-comparison r (ask (profile B) k) Spent j in
        left-call B H c k word r p.candidate p.purpose a.2 (or-last (is_granted word) _ e) p.compares
    go false false e j = absurd (let p = spent-comparison r (ask (profile B) k) Nothing j in let q = p.is_spent in cc)
SpendsHadATry-law B H (Up took) r a h = go (running H) a.1 h
  where
    go : (o : Option (ℕ × CardCommand)) → MayBeSaid (mem B H) (option_map (λ x. ask (profile B) x.1) o) took
        → did_so (profile B) (spent_by r) (option_map (λ x. (x.1, took)) o) ≡ true → 1 ≤ tries B H r
    go None may j = absurd (cc)
    go (Some x) may j = up-spends B H r (ask (profile B) x.1) took (spent-comparison r (ask (profile B) x.1) took j) may
SpendsHadATry-law B H (Opened c i shared) r a h = absurd (cc)
SpendsHadATry-law B H e r a h = absurd (cc)

pub LossesHadATry-law : LossesHadATry
LossesHadATry-law B H c k r p purpose asks a = left-call B H c k _ r p purpose refl a.3 asks

-- ---- sums

-- no more tries are spent than there were after the last filling
spent-within : (B : Base) (H : Past) (r : RefId) → IsLegal B H → spends_since B H r ≤ tries_at_first B H r
unfolding tries
spent-within B [] r l = omega arith
spent-within B (e ∷ H) r l = go (fills (profile B) r H e) (spends (profile B) r H e) refl (spent-within B H r l.0)
  where
    go : (f s : Bool) → spends (profile B) r H e ≡ s → spends_since B H r ≤ tries_at_first B H r
        → (if f then 0 else if s then spends_since B H r + 1 else spends_since B H r)
        ≤ (if (if f then true else some_entry (fills (profile B) r) H) then (reference B.memory r).limit else (reference B.memory r).tries)
    go true s k ih = omega arith
    go false true k ih = let left = SpendsHadATry-law B H e r l.1 k in omega arith
    go false false k ih = ih

pub TriesAddUp-law : TriesAddUp
unfolding tries
TriesAddUp-law B H r legal = let le = spent-within B H r legal in omega arith

pub TriesAreWithin-law : TriesAreWithin
unfolding tries
TriesAreWithin-law B H r start = go (some_entry (fills (profile B) r) H)
  where
    go : (b : Bool) → (if b then (reference B.memory r).limit else (reference B.memory r).tries) - spends_since B H r ≤ (reference B.memory r).limit
    go true = omega arith
    go false = omega arith

-- ---- fillings

record IsFilling (r : RefId) (a : Ask) (t : Took) : Type 0 where
  compared : RefId
  candidate : List ℕ
  purpose : Purpose
  compares : a ≡ Compare compared candidate purpose
  is_done : t ≡ Done
  fills : (compared ≡ r) ⊎ ((is_unblock purpose ≡ true) × (r ≡ Pin))

filled-which : (r s : RefId) (u : Bool) → (same_reference r s || (u && same_reference r Pin)) ≡ true → (s ≡ r) ⊎ ((u ≡ true) × (r ≡ Pin))
filled-which r s u h = go (same_reference r s) u (same_reference r Pin) refl refl h
  where
    go : (a b d : Bool) → same_reference r s ≡ a → same_reference r Pin ≡ d → (a || (b && d)) ≡ true → (s ≡ r) ⊎ ((b ≡ true) × (r ≡ Pin))
    go true b d e f j = inl (sym (same-reference r s e))
    go false true true e f j = inr (refl, same-reference r Pin f)
    go false true false e f j = absurd (cc)
    go false false d e f j = absurd (cc)

filled-comparison : (r : RefId) (a : Ask) (t : Took) → filled_by r a t ≡ true → IsFilling r a t
filled-comparison r (Compare s p purpose) Done h =
    record { compared = s; candidate = p; purpose = purpose; compares = refl; is_done = refl; fills = filled-which r s (is_unblock purpose) h }
filled-comparison r (Compare s p purpose) Nothing h = absurd (cc)
filled-comparison r (Compare s p purpose) Spent h = absurd (cc)
filled-comparison r a t h = absurd (cc)

is-match : (B : Base) (H : Past) (r : RefId) (k : CardCommand) (t : Took) (f : IsFilling r (ask (profile B) k) t)
    → bytes_eq f.candidate (reference (mem B H) f.compared).secret ≡ true → IsMatch B H r k
is-match B H r k t f equal = record {
  compared = f.compared;
  candidate = f.candidate;
  purpose = f.purpose;
  asks = f.compares;
  equal = equal;
  fills = f.fills;
}

matched : (B : Base) (H : Past) (e : CardEntry) (r : RefId) → IsTrue (is_valid B) → IsAllowed B H e → fills (profile B) r H e ≡ true
    → IsMatched B H r e
matched B H (Call c k word block) r valid a h = go (is_granted word) (is_mismatched word) refl h
  where
    go : (g m : Bool) → is_granted word ≡ g → did_so (profile B) (filled_by r) (Some (k, if g then Done else if m then Spent else Nothing)) ≡ true
        → IsMatched B H r (Call c k word block)
    go true m e j =
        let f = filled-comparison r (ask (profile B) k) Done j in
        let q = ap (λ (x : Reply). x.word) (compare-answer B H c k f.compared f.candidate f.purpose f.compares).1 in (
          granted-word word e,
          is-match B H r k Done f (granted-equal (situation_of B H c) f.compared f.candidate f.purpose
              (few-tries B H valid f.compared) (sym (ap is_granted (a.2 ∙ q)) ∙ e)),
        )
    go false true e j = absurd (let p = filled-comparison r (ask (profile B) k) Spent j in let q = p.is_done in cc)
    go false false e j = absurd (let p = filled-comparison r (ask (profile B) k) Nothing j in let q = p.is_done in cc)
matched B H (Up took) r valid a h = go (running H) refl a.1 h
  where
    may : (a : Ask) (s : RefId) (p : List ℕ) (purpose : Purpose) → a ≡ Compare s p purpose → MayBeSaid (mem B H) (Some a) Done
        → bytes_eq p (reference (mem B H) s).secret ≡ true
    may a s p purpose e m = (rw e at m).0

    done : (t : Took) (a : Ask) (s : RefId) (p : List ℕ) (purpose : Purpose) → t ≡ Done → a ≡ Compare s p purpose
        → MayBeSaid (mem B H) (Some a) t → bytes_eq p (reference (mem B H) s).secret ≡ true
    done Done a s p purpose e f m = may a s p purpose f m
    done Nothing a s p purpose e f m = absurd (cc)
    done Spent a s p purpose e f m = absurd (cc)

    go : (o : Option (ℕ × CardCommand)) → running H ≡ o → MayBeSaid (mem B H) (option_map (λ x. ask (profile B) x.1) o) took
        → did_so (profile B) (filled_by r) (option_map (λ x. (x.1, took)) o) ≡ true → IsMatched B H r (Up took)
    go None is may j = absurd (cc)
    go (Some x) is may j =
        let f = filled-comparison r (ask (profile B) x.1) took j in (
          f.is_done,
          record {
            sender = x.0;
            command = x.1;
            was = is;
            match = is-match B H r x.1 took f
                (done took (ask (profile B) x.1) f.compared f.candidate f.purpose f.is_done f.compares may);
          },
        )
matched B H (Opened c i shared) r valid a h = absurd (cc)
matched B H e r valid a h = absurd (cc)

pub OnlyMatchesRaise-law : OnlyMatchesRaise
OnlyMatchesRaise-law B H e r valid a more =
    go (fills (profile B) r H e) (spends (profile B) r H e) refl (tries-step B H e r)
  where
    go : (f s : Bool) → fills (profile B) r H e ≡ f
        → tries B (e ∷ H) r ≡ (if f then (reference B.memory r).limit else if s then tries B H r - 1 else tries B H r) → IsMatched B H r e
    go true s is step = matched B H e r valid a is
    go false true is step = absurd (omega arith)
    go false false is step = absurd (omega arith)

-- ---- one command

same-same : (r : RefId) → same_reference r r ≡ true
same-same Pin = refl
same-same Puk = refl
same-same GlobalPin = refl

miss-ungranted : (word : ℕ) → is_mismatched word ≡ true → is_granted word ≡ false
miss-ungranted word h = grind (arith, nat_tests)

pub MissesTakeOne-law : MissesTakeOne
MissesTakeOne-law B H c k word block r p purpose valid a asks miss =
    let differs : is_mismatched word ≡ true = sym (miss-is word) ∙ miss in
    let one = left-call B H c k word r p purpose a.2 (or-last (is_granted word) _ differs) asks in
    let step : tries B (Call c k word block ∷ H) r ≡ tries B H r - 1 =
    tries-step B H (Call c k word block) r ∙ rw (miss-ungranted word differs, differs, asks, same-same r) refl in
    let reply = CompareWords-law B H c r p purpose k valid (compare-has B k r p purpose asks) ((compare-answer B H c k r p purpose asks).0, asks) in
    let told : word ≡ 0x63C0 + (tries B H r - 1) = a.2 ∙ reply.left (sym (ap is_mismatched a.2) ∙ differs) in
    (omega arith, omega arith)

pub MatchesFill-law : MatchesFill
MatchesFill-law B H c k block r p purpose asks = tries-step B H (Call c k 0x9000 block) r ∙ rw (asks, same-same r) refl

unblock-pin : (r : RefId) → (same_reference Pin r || true) ≡ true
unblock-pin Pin = refl
unblock-pin Puk = refl
unblock-pin GlobalPin = refl

pub UnblockingsFillThePin-law : UnblockingsFillThePin
UnblockingsFillThePin-law B H c k block r p n asks = tries-step B H (Call c k 0x9000 block) Pin ∙ rw (asks, unblock-pin r) refl

pub UpsTellTheTries-law : UpsTellTheTries
UpsTellTheTries-law B H c k r p purpose was asks = (
  tries-step B H (Up Nothing) r ∙ rw (was, asks) refl,
  tries-step B H (Up Spent) r ∙ rw (was, asks, same-same r) refl,
  tries-step B H (Up Done) r ∙ rw (was, asks, same-same r) refl,
)

or-none : (a b : Bool) → (a || b) ≡ false → a ≡ false
or-none false b h = refl
or-none true b h = absurd (cc)

pub MissesLeaveOthers-law : MissesLeaveOthers
MissesLeaveOthers-law B H c k word block r s p purpose asks other miss =
    let differs : is_mismatched word ≡ true = sym (miss-is word) ∙ miss in
    tries-step B H (Call c k word block) r ∙ rw (miss-ungranted word differs, differs, asks, other) refl

-- what doesn't concern a reference neither fills nor spends it
quiet : (r : RefId) (a : Ask) (t : Took) → concerns r a ≡ false → (filled_by r a t ≡ false) × (spent_by r a t ≡ false)
quiet r (Compare s p purpose) Done h = (h, refl)
quiet r (Compare s p purpose) Spent h = (refl, or-none (same_reference r s) _ h)
quiet r (Compare s p purpose) Nothing h = (refl, refl)
quiet r a t h = (refl, refl)

quiet-step : (B : Base) (H : Past) (r : RefId) (a : Ask) (t : Took) → concerns r a ≡ false
    → (if filled_by r a t then (reference B.memory r).limit else if spent_by r a t then tries B H r - 1 else tries B H r) ≡ tries B H r
quiet-step B H r a t h = let q = quiet r a t h in rw (q.0, q.1) refl

pub OthersLeaveTheTries-law : OthersLeaveTheTries
OthersLeaveTheTries-law B H (Call c k word block) r h =
    tries-step B H (Call c k word block) r ∙ quiet-step B H r (ask (profile B) k) (took_by word) h
OthersLeaveTheTries-law B H (Up t) r h = tries-step B H (Up t) r ∙ go (running H) h
  where
    go : (o : Option (ℕ × CardCommand)) → in_flight_concerns B r o ≡ false
        → (if did_so (profile B) (filled_by r) (option_map (λ x. (x.1, t)) o) then (reference B.memory r).limit
        else if did_so (profile B) (spent_by r) (option_map (λ x. (x.1, t)) o) then tries B H r - 1 else tries B H r) ≡ tries B H r
    go None j = refl
    go (Some x) j = quiet-step B H r (ask (profile B) x.1) t j
OthersLeaveTheTries-law B H (Opened c i shared) r h = tries-step B H _ r
OthersLeaveTheTries-law B H (Closed c) r h = tries-step B H _ r
OthersLeaveTheTries-law B H (Part c) r h = tries-step B H _ r
OthersLeaveTheTries-law B H (Rest c) r h = tries-step B H _ r
OthersLeaveTheTries-law B H (Bad c word) r h = tries-step B H _ r
OthersLeaveTheTries-law B H (Reset i) r h = tries-step B H _ r
OthersLeaveTheTries-law B H (Cut x) r h = tries-step B H _ r
OthersLeaveTheTries-law B H (Note a w) r h = tries-step B H _ r

pub ruleset tries_laws = (TriesAddUp-law, TriesAreWithin-law, OnlyMatchesRaise-law, MissesTakeOne-law, MatchesFill-law, UnblockingsFillThePin-law, UpsTellTheTries-law, MissesLeaveOthers-law, OthersLeaveTheTries-law, SpendsHadATry-law, LossesHadATry-law)
