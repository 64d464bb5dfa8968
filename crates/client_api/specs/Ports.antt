-- What a port stands for: its own records, each with its card and its place, the newest first (this project's own).
use Rattle.std.specs.Prelude.{◌≡◌, ℕ, ◌<◌, ◌==◌, List, [], ◌∷◌, length, MatchOption, if◌then◌else◌}
use Rattle.piv_rules.specs.Acts.{CardAct, CardAnswer, CardRecord, Records}
use Rattle.card_acts.specs.Acts.{Heard}

-- a record of a card, and its place among all records of that card
pub record Own : Type 0 where
  pub card : ℕ
  pub place : ℕ
  pub did : CardRecord

abbrev pub Log : Type 0
Log = List Own

-- the records of one card
abbrev pub records_of : ℕ → Log → Records
records_of card [] = []
records_of card (o ∷ log) = if o.card == card then o.did ∷ records_of card log else records_of card log

-- the place is above all earlier ones of that card
abbrev pub IsAbove : ℕ → ℕ → Log → Type 0
IsAbove card place [] = Unit {0}
IsAbove card place (o ∷ log) = (o.card ≡ card → o.place < place) × IsAbove card place log

-- one own record more, of this act and this answer on this card
pub record Grew (now : Log → Type 0) (log : Log) (card : ℕ) (act : CardAct) (told : CardAnswer) (own : Own) : Type 0 where
  pub on_card : own.card ≡ card
  pub made : own.did.act ≡ act
  pub got : own.did.answer ≡ told
  pub above : IsAbove card own.place log
  pub stands : now (own ∷ log)

-- what a port stands for after a turn; Full adds nothing
abbrev pub TurnedPort : (Log → Type 0) → Log → ℕ → CardAct → Heard → Type 0
TurnedPort now log card act heard = MatchOption heard (now log) (λ told. (own : Own) × Grew now log card act told own)

-- each own record's place is below what was seen of its card
abbrev pub AreSeen : (ℕ → ℕ) → Log → Type 0
AreSeen seen [] = Unit {0}
AreSeen seen (o ∷ log) = (o.place < seen o.card) × AreSeen seen log

-- What an owner of cards says of its log: each own record's place is the number of its card's records before it,
abbrev pub ArePlaces : Log → Type 0
ArePlaces [] = Unit {0}
ArePlaces (o ∷ log) = ArePlaces log × (o.place ≡ length (records_of o.card log))

-- and its card is one of so many
abbrev pub AreInside : ℕ → Log → Type 0
AreInside cards [] = Unit {0}
AreInside cards (o ∷ log) = AreInside cards log × (o.card < cards)
