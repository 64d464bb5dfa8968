-- Power, epochs, and what can happen on a card that is off or on a connection that isn't open (this project's own).
use Rattle.std.specs.Prelude.{◌≡◌, ◌↔◌, ℕ, Bool, true, false, ◌++◌}
use Rattle.piv_model.specs.Entries.{CardEntry, Past, Closed, Cut, Up, Note}
use Rattle.piv_model.specs.Base.{Base}
use Rattle.piv_rules.specs.Connections.{on, is_open, side, epoch, opens, breaks, is_exchange_on}
use Rattle.piv_rules.specs.Legal.{IsAllowed}
use Rattle.piv_rules.specs.Lookback.{none_since}
use Rattle.login_laws.specs.Lasts.{Lasts}

abbrev pub loses_power : CardEntry → Bool
loses_power (Cut r) = true
loses_power _ = false

abbrev pub switches_on : CardEntry → Bool
switches_on (Up t) = true
switches_on _ = false

-- a card is off exactly where its power was lost, and wasn't switched on since
abbrev pub OffSinceALoss : Type 0
OffSinceALoss = (H : Past) → (on H ≡ false) ↔ Lasts loses_power (λ G e. switches_on e) H

-- on a card that is off a connection may be closed, an act refused, and the power switched on; nothing else
abbrev pub may_be_off : CardEntry → Bool
may_be_off (Closed c) = true
may_be_off (Up t) = true
may_be_off (Note a w) = true
may_be_off _ = false

abbrev pub OffCardsDoNothing : Type 0
OffCardsDoNothing = (B : Base) (H : Past) (e : CardEntry) → IsAllowed B H e → on H ≡ false → may_be_off e ≡ true

-- only an open connection exchanges anything
abbrev pub OpenOnesExchange : Type 0
OpenOnesExchange = (B : Base) (H : Past) (e : CardEntry) (c : ℕ) → IsAllowed B H e → is_exchange_on c e ≡ true → is_open H c ≡ true

-- the epoch of its side tells whether a connection was broken: it is as before exactly where no break came since
abbrev pub EpochsTellBreaks : Type 0
EpochsTellBreaks = (L H : Past) (c : ℕ) → none_since (opens c) L H ≡ true
    → (epoch (L ++ H) (side H c) ≡ epoch H (side H c)) ↔ (none_since (breaks c) L H ≡ true)
