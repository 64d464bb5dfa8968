-- The comparisons without a match, after one entry more.
use Rattle.std.specs.Prelude.{min, ◌&&◌, option_map, if◌then◌else◌}
use Rattle.std.proofs.Common.{◌≡◌, ◌≤◌, ◌+◌, ℕ, Bool, true, false, [], ◌∷◌, Option, Some, None, refl, sym, ◌∙◌, arith}
use Rattle.std.proofs.lemmas.Bool.Decides.{nat_tests}
use Rattle.piv_model.specs.declared.kinds.RefId.{RefId}
use Rattle.piv_model.specs.declared.kinds.Took.{Took}
use Rattle.piv_model.specs.declared.kinds.Took.TheVariants.{Nothing, Spent, Done}
use Rattle.piv_model.specs.Base.{Base, profile}
use Rattle.piv_model.specs.Commands.{CardCommand}
use Rattle.piv_model.specs.Entries.{CardEntry, Past, Call, Up}
use Rattle.piv_model.specs.Memory.{Memory, Reference, has, reference}
use Rattle.piv_model.specs.Sound.{IsSound, is_limited}
use Rattle.piv_rules.specs.Asks.{Ask, Refused, Select, Get, Put, Logout, Query, Compare, Internal, AskChallenge, External, AskWitness, Mutual, ask}
use Rattle.piv_rules.specs.Effects.{took_by}
use Rattle.piv_rules.specs.Legal.{IsLegal}
use Rattle.piv_rules.specs.Lookback.{count_after}
use Rattle.piv_rules.specs.Memories.{did, did_so, running, fills, spends, filled_by, spent_by, same_reference, is_call, comparisons, spends_since}
use Rattle.command_laws.proofs.Limits.{SpendsAreLimited-law, ComparisonsAreLimited-law}
use Rattle.card_cell.specs.declared.compared.Comparison.{Comparison}
use Rattle.card_cell.specs.declared.tally.Tally.{Tally}
use Rattle.card_cell.specs.Counts.{comparison_of, comparison_running, after_call, after_up}
use Rattle.card_cell.specs.Tally.{count_in, AreCounted}

-- ---- one reference

-- an entry that did nothing to the memory
pub same-count : (B : Base) (H : Past) (e : CardEntry) (r : RefId) → is_call e ≡ false → did H e ≡ None → comparisons B H r ≡ comparisons B (e ∷ H) r
unfolding comparisons
same-count B H e r calls none =
    (λ j. if has B.memory r then (if did_so (profile B) (filled_by r) (sym none j) then 0
    else if sym calls j && did_so (profile B) (spent_by r) (sym none j) then count_after (fills (profile B) r) (λ G d. is_call d && spends (profile B) r G d) H + 1
    else count_after (fills (profile B) r) (λ G d. is_call d && spends (profile B) r G d) H) else 0)

few-more : (b : Bool) (x : ℕ) → x ≤ 254 → (if b then min (x + 1) 255 else x) ≡ (if b then x + 1 else x)
few-more true x few = omega arith
few-more false x few = refl

called : (r : RefId) (a : Ask) (t : Took) (x : ℕ) → x ≤ 254
    → after_call r (comparison_of a) t x ≡ (if filled_by r a t then 0 else if true && spent_by r a t then x + 1 else x)
called r (Compare s p purpose) Nothing x few = refl
called r (Compare s p purpose) Spent x few = few-more (same_reference r s) x few
called r (Compare s p purpose) Done x few = refl
called r (Refused w) t x few = refl
called r (Select a) t x few = refl
called r (Get id) t x few = refl
called r (Put id v) t x few = refl
called r (Logout s) t x few = refl
called r (Query s) t x few = refl
called r (Internal y) t x few = refl
called r AskChallenge t x few = refl
called r (External y) t x few = refl
called r AskWitness t x few = refl
called r (Mutual w y) t x few = refl

came-up : (r : RefId) (a : Ask) (t : Took) (x : ℕ)
    → after_up r (comparison_of a) t x ≡ (if filled_by r a t then 0 else if false && spent_by r a t then x + 1 else x)
came-up r (Compare s p purpose) Nothing x = refl
came-up r (Compare s p purpose) Spent x = refl
came-up r (Compare s p purpose) Done x = refl
came-up r (Refused w) t x = refl
came-up r (Select a) t x = refl
came-up r (Get id) t x = refl
came-up r (Put id v) t x = refl
came-up r (Logout s) t x = refl
came-up r (Query s) t x = refl
came-up r (Internal y) t x = refl
came-up r AskChallenge t x = refl
came-up r (External y) t x = refl
came-up r AskWitness t x = refl
came-up r (Mutual w y) t x = refl

call-count : (B : Base) (H : Past) (c : ℕ) (k : CardCommand) (word : ℕ) (block : Option _) (r : RefId) → has B.memory r ≡ true → comparisons B H r ≤ 254
    → after_call r (comparison_of (ask (profile B) k)) (took_by word) (comparisons B H r) ≡ comparisons B (Call c k word block ∷ H) r
unfolding comparisons
call-count B H c k word block r has_it few = go (has B.memory r) has_it few
  where
    x : ℕ
    x = count_after (fills (profile B) r) (λ G d. is_call d && spends (profile B) r G d) H

    go : (h : Bool) → h ≡ true
        → (if h then count_after (fills (profile B) r) (λ G d. is_call d && spends (profile B) r G d) H else 0) ≤ 254
        → after_call r (comparison_of (ask (profile B) k)) (took_by word) (if h then count_after (fills (profile B) r) (λ G d. is_call d && spends (profile B) r G d) H else 0)
        ≡ (if h then (if filled_by r (ask (profile B) k) (took_by word) then 0 else if true && spent_by r (ask (profile B) k) (took_by word)
        then count_after (fills (profile B) r) (λ G d. is_call d && spends (profile B) r G d) H + 1
        else count_after (fills (profile B) r) (λ G d. is_call d && spends (profile B) r G d) H) else 0)
    go true e few = called r (ask (profile B) k) (took_by word) (count_after (fills (profile B) r) (λ G d. is_call d && spends (profile B) r G d) H) few
    go false e few = absurd (cc)

up-count : (B : Base) (H : Past) (t : Took) (r : RefId) → has B.memory r ≡ true
    → after_up r (comparison_running (profile B) (running H)) t (comparisons B H r) ≡ comparisons B (Up t ∷ H) r
unfolding comparisons
up-count B H t r has_it = go (has B.memory r) has_it (running H)
  where
    go : (h : Bool) → h ≡ true → (o : Option (ℕ × CardCommand))
        → after_up r (comparison_running (profile B) o) t (if h then count_after (fills (profile B) r) (λ G d. is_call d && spends (profile B) r G d) H else 0)
        ≡ (if h then (if did_so (profile B) (filled_by r) (option_map (λ q. (q.1, t)) o) then 0
        else if false && did_so (profile B) (spent_by r) (option_map (λ q. (q.1, t)) o)
        then count_after (fills (profile B) r) (λ G d. is_call d && spends (profile B) r G d) H + 1
        else count_after (fills (profile B) r) (λ G d. is_call d && spends (profile B) r G d) H) else 0)
    go true e None = refl
    go true e (Some q) = came-up r (ask (profile B) q.1) t (count_after (fills (profile B) r) (λ G d. is_call d && spends (profile B) r G d) H)
    go false e o = absurd (cc)

-- ---- a base that a card can have

pub sound-limited : (m : Memory) (r : RefId) → IsSound m → has m r ≡ true → ((reference m r).tries ≤ (reference m r).limit) × ((reference m r).limit ≤ 15)
sound-limited m r sound has_it = limited (reference m r) (sound.limits r has_it)
  where
    limited : (x : Reference) → is_limited x ≡ true → (x.tries ≤ x.limit) × (x.limit ≤ 15)
    limited x h = grind (arith, nat_tests)

pub few-comparisons : (B : Base) (H : Past) (r : RefId) → IsSound B.memory → IsLegal B H → has B.memory r ≡ true
    → (comparisons B H r ≤ (reference B.memory r).limit) × (comparisons B H r ≤ 254)
few-comparisons B H r sound legal has_it =
    let s = sound-limited B.memory r sound has_it in
    let low = s.0 in
    let few = s.1 in
    let l = ComparisonsAreLimited-law B H r legal low in
    (l, omega arith)

-- ---- all of them

pub counted-same : (B : Base) (H : Past) (e : CardEntry) (old new : Tally) → AreCounted B H old → new ≡ old → is_call e ≡ false → did H e ≡ None
    → AreCounted B (e ∷ H) new
counted-same B H e old new counted same calls none =
    λ r h. (λ j. count_in (same j) r) ∙ counted r h ∙ same-count B H e r calls none

pub counted-call : (B : Base) (H : Past) (c : ℕ) (k : CardCommand) (word : ℕ) (block : Option _) (cmp : Option Comparison) (took : Took) (old new : Tally)
    → IsSound B.memory → IsLegal B H → AreCounted B H old
    → ((r : RefId) → count_in new r ≡ after_call r cmp took (count_in old r)) → cmp ≡ comparison_of (ask (profile B) k) → took ≡ took_by word
    → AreCounted B (Call c k word block ∷ H) new
counted-call B H c k word block cmp took old new sound legal counted goes is came =
    λ r h. goes r ∙ (λ j. after_call r (is j) (came j) (counted r h j)) ∙ call-count B H c k word block r h (few-comparisons B H r sound legal h).1

pub counted-up : (B : Base) (H : Past) (t : Took) (cmp : Option Comparison) (old new : Tally) → AreCounted B H old
    → ((r : RefId) → count_in new r ≡ after_up r cmp t (count_in old r)) → cmp ≡ comparison_running (profile B) (running H)
    → AreCounted B (Up t ∷ H) new
counted-up B H t cmp old new counted goes is =
    λ r h. goes r ∙ (λ j. after_up r (is j) t (counted r h j)) ∙ up-count B H t r h

-- ---- at the beginning, and what is answered

pub no-count : (B : Base) (r : RefId) → 0 ≡ comparisons B [] r
unfolding comparisons
no-count B r = go (has B.memory r)
  where
    go : (b : Bool) → ◌≡◌ {A = ℕ} 0 (if b then 0 else 0)
    go true = refl
    go false = refl

pub absent-count : (B : Base) (H : Past) (r : RefId) → has B.memory r ≡ false → 0 ≡ comparisons B H r
unfolding comparisons
absent-count B H r lacks = (λ j. if sym lacks j then count_after (fills (profile B) r) (λ G d. is_call d && spends (profile B) r G d) H else 0)

pub most-comparisons : (B : Base) (H : Past) (r : RefId) → IsSound B.memory → IsLegal B H → comparisons B H r ≤ (reference B.memory r).limit
most-comparisons B H r sound legal = go (has B.memory r) refl
  where
    go : (b : Bool) → has B.memory r ≡ b → comparisons B H r ≤ (reference B.memory r).limit
    go true h = (few-comparisons B H r sound legal h).0
    go false h = let z = absent-count B H r h in omega arith

pub most-spends : (B : Base) (H : Past) (r : RefId) → IsSound B.memory → IsLegal B H → has B.memory r ≡ true → spends_since B H r ≤ (reference B.memory r).limit
most-spends B H r sound legal h = SpendsAreLimited-law B H r legal (sound-limited B.memory r sound h).0
