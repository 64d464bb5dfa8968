-- Power, epochs, and what can happen on a card that is off.
use Rattle.std.specs.Prelude.{◌==◌, not, ◌&&◌, ◌↔◌, cond, option_map}
use Rattle.std.proofs.Common.{◌≡◌, ◌≤◌, ℕ, ◌+◌, Bool, true, false, [], ◌∷◌, ◌++◌, Option, Some, None, refl, ap, sym, ◌∙◌, arith, unwrap_or, eqb-true, subst}
use Rattle.std.proofs.lemmas.List.Recursion.{is_count_by}
use Rattle.piv_model.specs.declared.kinds.Interface.{Interface}
use Rattle.piv_model.specs.declared.kinds.Interface.TheVariants.{Contact, Contactless}
use Rattle.piv_model.specs.Entries.{CardEntry, Past, Opened, Closed, Call, Part, Rest, Bad, Reset, Cut, Up, Note}
use Rattle.piv_rules.specs.Lookback.{last_of, none_since}
use Rattle.piv_rules.specs.Connections.{on, power_after, is_open, side, epoch, is_epoch_end, same_side, opens, breaks}
use Rattle.login_laws.proofs.Bools.{and-first, and-last, not-true}
use Rattle.login_laws.proofs.Lasting.{said, Agrees, lasts-exactly}
use Rattle.connection_laws.specs.PowerLaws.{loses_power, switches_on, OffSinceALoss, OffCardsDoNothing, OpenOnesExchange, EpochsTellBreaks}

-- ---- off

-- the power, turned round
off_after : Past → CardEntry → Option Bool
off_after G e = option_map not (power_after G e)

turned : (o : Option Bool) (b d : Bool) → not b ≡ d → not (unwrap_or o b) ≡ unwrap_or (option_map not o) d
turned None b d h = h
turned (Some x) b d h = refl

off-is : (H : Past) → not (on H) ≡ last_of off_after false H
unfolding off_after
off-is [] = refl
off-is (e ∷ H) = turned (power_after H e) (on H) (last_of off_after false H) (off-is H)

off-said : (H : Past) (e : CardEntry) → off_after H e ≡ said (loses_power e) (switches_on e)
unfolding off_after
off-said H (Cut r) = refl
off-said H (Up t) = refl
off-said H (Opened c i shared) = refl
off-said H (Closed c) = refl
off-said H (Call c k word block) = refl
off-said H (Part c) = refl
off-said H (Rest c) = refl
off-said H (Bad c word) = refl
off-said H (Reset i) = refl
off-said H (Note a w) = refl

agrees : (H : Past) → Agrees off_after loses_power (λ G e. switches_on e) H
agrees [] = tt
agrees (e ∷ H) = (agrees H, off-said H e)

not-off : (b : Bool) → b ≡ false → not b ≡ true
not-off true h = absurd (cc)
not-off false h = refl

pub OffSinceALoss-law : OffSinceALoss
OffSinceALoss-law H =
    let l = lasts-exactly off_after loses_power (λ G e. switches_on e) H (agrees H) in
    ((λ off. l.0 (sym (off-is H) ∙ not-off (on H) off)), (λ x. not-true (on H) (off-is H ∙ l.1 x)))

-- ---- what may happen

clash : (b : Bool) (A : Type 0) → b ≡ true → b ≡ false → A
clash b A h k = absurd (cc)

pub OffCardsDoNothing-law : OffCardsDoNothing
OffCardsDoNothing-law B H (Closed c) allowed off = refl
OffCardsDoNothing-law B H (Up t) allowed off = refl
OffCardsDoNothing-law B H (Note a w) allowed off = refl
OffCardsDoNothing-law B H (Opened c i shared) allowed off = clash (on H) _ allowed.0 off
OffCardsDoNothing-law B H (Call c k word block) allowed off = clash (on H) _ allowed.0 off
OffCardsDoNothing-law B H (Part c) allowed off = clash (on H) _ allowed.0 off
OffCardsDoNothing-law B H (Rest c) allowed off = clash (on H) _ allowed.0 off
OffCardsDoNothing-law B H (Bad c word) allowed off = clash (on H) _ allowed.0 off
OffCardsDoNothing-law B H (Reset i) allowed off = clash (on H) _ allowed off
OffCardsDoNothing-law B H (Cut None) allowed off = clash (on H) _ allowed off
OffCardsDoNothing-law B H (Cut (Some r)) allowed off = clash (on H) _ allowed.0 off

own : (H : Past) (c d : ℕ) → is_open H d ≡ true → (d == c) ≡ true → is_open H c ≡ true
own H c d opened is = subst (λ (n : ℕ). is_open H n ≡ true) (eqb-true d c is) opened

pub OpenOnesExchange-law : OpenOnesExchange
OpenOnesExchange-law B H (Call d k word block) c allowed is = own H c d allowed.1 is
OpenOnesExchange-law B H (Part d) c allowed is = own H c d allowed.1 is
OpenOnesExchange-law B H (Rest d) c allowed is = own H c d allowed.1 is
OpenOnesExchange-law B H (Bad d word) c allowed is = own H c d allowed.1 is
OpenOnesExchange-law B H (Opened d i shared) c allowed is = absurd (cc)
OpenOnesExchange-law B H (Closed d) c allowed is = absurd (cc)
OpenOnesExchange-law B H (Reset i) c allowed is = absurd (cc)
OpenOnesExchange-law B H (Cut r) c allowed is = absurd (cc)
OpenOnesExchange-law B H (Up t) c allowed is = absurd (cc)
OpenOnesExchange-law B H (Note a w) c allowed is = absurd (cc)

-- ---- epochs

-- the epoch, entry by entry
rises : Interface → Past → ℕ
rises i [] = 0
rises i (e ∷ H) = cond (is_epoch_end i e) (1 + rises i H) (rises i H)

rises-are : (i : Interface) (H : Past) → rises i H ≡ epoch H i
unfolding rises
rises-are i H = is_count_by (rises i) (is_epoch_end i) refl (λ e G. refl) H

same-side-turned : (i j : Interface) → same_side i j ≡ same_side j i
same-side-turned Contact Contact = refl
same-side-turned Contact Contactless = refl
same-side-turned Contactless Contact = refl
same-side-turned Contactless Contactless = refl

-- an entry that doesn't open c ends the epoch of its side exactly where it breaks c
ends-breaks : (H : Past) (c : ℕ) (e : CardEntry) → opens c H e ≡ false → is_epoch_end (side H c) e ≡ breaks c H e
ends-breaks H c (Opened d i shared) h = sym h
ends-breaks H c (Reset i) h = same-side-turned (side H c) i
ends-breaks H c (Cut r) h = refl
ends-breaks H c (Closed d) h = refl
ends-breaks H c (Call d k word block) h = refl
ends-breaks H c (Part d) h = refl
ends-breaks H c (Rest d) h = refl
ends-breaks H c (Bad d word) h = refl
ends-breaks H c (Up t) h = refl
ends-breaks H c (Note a w) h = refl

side-more : (H : Past) (c : ℕ) (e : CardEntry) → opens c H e ≡ false → side (e ∷ H) c ≡ side H c
side-more H c (Opened d i shared) h = rw h refl
side-more H c (Closed d) h = refl
side-more H c (Call d k word block) h = refl
side-more H c (Part d) h = refl
side-more H c (Rest d) h = refl
side-more H c (Bad d word) h = refl
side-more H c (Reset i) h = refl
side-more H c (Cut r) h = refl
side-more H c (Up t) h = refl
side-more H c (Note a w) h = refl

side-stays : (L H : Past) (c : ℕ) → none_since (opens c) L H ≡ true → side (L ++ H) c ≡ side H c
side-stays [] H c h = refl
side-stays (e ∷ L) H c h =
    side-more (L ++ H) c e (not-true _ (and-first (not (opens c (L ++ H) e)) _ h))
    ∙ side-stays L H c (and-last (not (opens c (L ++ H) e)) _ h)

rises-up : (i : Interface) (L H : Past) → rises i H ≤ rises i (L ++ H)
unfolding rises
rises-up i [] H = omega arith
rises-up i (e ∷ L) H = go (is_epoch_end i e) (rises-up i L H)
  where
    go : (b : Bool) → rises i H ≤ rises i (L ++ H) → rises i H ≤ cond b (1 + rises i (L ++ H)) (rises i (L ++ H))
    go true h = omega arith
    go false h = h

broken : (L H : Past) (c : ℕ) → none_since (opens c) L H ≡ true
    → (rises (side H c) (L ++ H) ≡ rises (side H c) H) ↔ (none_since (breaks c) L H ≡ true)
unfolding rises
broken [] H c h = ((λ e. refl), (λ e. refl))
broken (e ∷ L) H c h =
    go (breaks c (L ++ H) e)
    (ap (λ i. is_epoch_end i e) (sym (side-stays L H c (and-last (not (opens c (L ++ H) e)) _ h)))
    ∙ ends-breaks (L ++ H) c e (not-true _ (and-first (not (opens c (L ++ H) e)) _ h)))
    (broken L H c (and-last (not (opens c (L ++ H) e)) _ h)) (rises-up (side H c) L H)
  where
    go : (b : Bool) → is_epoch_end (side H c) e ≡ b
        → ((rises (side H c) (L ++ H) ≡ rises (side H c) H) ↔ (none_since (breaks c) L H ≡ true))
        → rises (side H c) H ≤ rises (side H c) (L ++ H)
        → (cond (is_epoch_end (side H c) e) (1 + rises (side H c) (L ++ H)) (rises (side H c) (L ++ H)) ≡ rises (side H c) H)
        ↔ ((not b && none_since (breaks c) L H) ≡ true)
    go true is ih up = rw is ((λ k. absurd (omega arith)), (λ k. absurd (cc)))
    go false is ih up = rw is ih

pub EpochsTellBreaks-law : EpochsTellBreaks
EpochsTellBreaks-law L H c h =
    let b = broken L H c h in
    let now = rises-are (side H c) (L ++ H) in
    let then_ = rises-are (side H c) H in
    ((λ e. b.0 (now ∙ e ∙ sym then_)), (λ e. sym now ∙ b.1 e ∙ then_))

pub ruleset power_laws = (OffSinceALoss-law, OffCardsDoNothing-law, OpenOnesExchange-law, EpochsTellBreaks-law)
