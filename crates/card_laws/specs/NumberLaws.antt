-- The numbers of connections (this project's own).
use Rattle.std.specs.Prelude.{◌≡◌, ◌≤◌, ◌<◌, ℕ, ◌==◌, Bool, true, false, List, [], ◌∷◌, length}
use Rattle.std.specs.List.{list_any}
use Rattle.piv_model.specs.Entries.{Past}
use Rattle.piv_model.specs.Base.{Base}
use Rattle.piv_rules.specs.Connections.{is_open, opens, closes}
use Rattle.piv_rules.specs.Lookback.{some_entry}
use Rattle.piv_rules.specs.Legal.{IsLegal, opened_count, open_ones}

-- c was never opened and never closed
abbrev pub IsUnused : Past → ℕ → Type 0
IsUnused H c = (some_entry (opens c) H ≡ false) × (some_entry (closes c) H ≡ false)

-- a number above those that were opened is unused
abbrev pub HigherAreUnused : Type 0
HigherAreUnused = (B : Base) (H : Past) (c : ℕ) → IsLegal B H → opened_count H < c → IsUnused H c

-- an open connection has one of the numbers from 1 to the count of those opened
abbrev pub OpenAreCounted : Type 0
OpenAreCounted = (B : Base) (H : Past) (c : ℕ) → IsLegal B H → is_open H c ≡ true → (1 ≤ c) × (c ≤ opened_count H)

-- no number stands twice in a list
abbrev pub is_listed : List ℕ → ℕ → Bool
is_listed cs c = list_any (λ d. d == c) cs

abbrev pub AreDistinct : List ℕ → Type 0
AreDistinct [] = Unit {0}
AreDistinct (c ∷ cs) = (is_listed cs c ≡ false) × AreDistinct cs

-- as many are open as any list has that holds each of them once
abbrev pub OpenAreAsListed : Type 0
OpenAreAsListed = (B : Base) (H : Past) (cs : List ℕ) → IsLegal B H → AreDistinct cs
    → ((c : ℕ) → is_open H c ≡ is_listed cs c) → length (open_ones H) ≡ length cs
