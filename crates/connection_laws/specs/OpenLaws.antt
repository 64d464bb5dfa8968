-- The connections of a card: their numbers, how many are open, and which are alone (this project's own).
use Rattle.std.specs.Prelude.{◌≡◌, ◌↔◌, ◌≤◌, ℕ, ◌+◌, Bool, true, not, ◌||◌, ◌∷◌, ◌++◌, length}
use Rattle.piv_model.specs.declared.kinds.Interface.{Interface}
use Rattle.piv_model.specs.Entries.{CardEntry, Past, Opened, Closed}
use Rattle.piv_model.specs.Base.{Base}
use Rattle.piv_rules.specs.Connections.{is_open, side, is_exclusive, opens, closes, is_exchange_on}
use Rattle.piv_rules.specs.Legal.{IsLegal, opened_count, open_ones}
use Rattle.piv_rules.specs.Lookback.{none_since}
use Rattle.card_laws.specs.NumberLaws.{is_listed}

-- c was opened on its side, shared or not, and wasn't closed since
pub record WasOpened (H : Past) (c : ℕ) : Type 0 where
  pub since : Past
  pub interface : Interface
  pub shared : Bool
  pub before : Past
  pub whole : H ≡ since ++ Opened c interface shared ∷ before
  pub unclosed : none_since (closes c) since (Opened c interface shared ∷ before) ≡ true
  pub side : side H c ≡ interface
  pub exclusive : is_exclusive H c ≡ not shared

abbrev pub OpenWereOpened : Type 0
OpenWereOpened = (B : Base) (H : Past) (c : ℕ) → IsLegal B H → (is_open H c ≡ true) ↔ WasOpened H c

-- c is among the open ones exactly where it is open
abbrev pub OpenAreListed : Type 0
OpenAreListed = (B : Base) (H : Past) (c : ℕ) → IsLegal B H → is_listed (open_ones H) c ≡ is_open H c

abbrev pub AtMostSixteenAreOpen : Type 0
AtMostSixteenAreOpen = (B : Base) (H : Past) → IsLegal B H → length (open_ones H) ≤ 16

-- an exclusive connection is the only one that is open on its interface
abbrev pub ExclusiveAreAlone : Type 0
ExclusiveAreAlone = (B : Base) (H : Past) (c d : ℕ) → IsLegal B H → is_open H c ≡ true → is_open H d ≡ true
    → side H c ≡ side H d → is_exclusive H c ≡ true → c ≡ d

-- the k-th connection has number k, and no later one has it again
abbrev pub NumbersAreUsedOnce : Type 0
NumbersAreUsedOnce = (B : Base) (L G : Past) (c : ℕ) (i : Interface) (shared : Bool) → IsLegal B (L ++ Opened c i shared ∷ G)
    → (c ≡ opened_count G + 1) × (none_since (opens c) L (Opened c i shared ∷ G) ≡ true)

-- an entry of c, but for a break
abbrev pub is_entry_of : ℕ → Past → CardEntry → Bool
is_entry_of c G e = opens c G e || closes c G e || is_exchange_on c e

-- a connection that was closed does nothing more
abbrev pub ClosedAreClosed : Type 0
ClosedAreClosed = (B : Base) (L G : Past) (c : ℕ) → IsLegal B (L ++ Closed c ∷ G) → none_since (is_entry_of c) L (Closed c ∷ G) ≡ true
