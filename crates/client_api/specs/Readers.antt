-- Readers and cards by their names (this project's own).
use Rattle.std.specs.Prelude.{ℕ, ◌<◌, List, [], ◌∷◌, Option, Some, None, if◌then◌else◌}
use Rattle.std.specs.List.{AllByRecursion}
use Rattle.std.specs.Str.{bytes_eq}
use Rattle.piv_model.specs.declared.kinds.Interface.{Interface}

-- a reader: its name, its card, and the interface of the card that it is for
pub record NamedReader : Type 0 where
  pub name : List ℕ
  pub card : ℕ
  pub interface : Interface

-- a card and its name
pub record NamedCard : Type 0 where
  pub name : List ℕ
  pub card : ℕ

pub record Names : Type 0 where
  pub readers : List NamedReader
  pub cards : List NamedCard

-- the card and the interface of a reader
abbrev pub reader_of : List NamedReader → List ℕ → Option (ℕ × Interface)
reader_of [] name = None
reader_of (r ∷ readers) name = if bytes_eq r.name name then Some (r.card, r.interface) else reader_of readers name

-- the readers' cards are below this number
abbrev pub AreReadersOn : ℕ → List NamedReader → Type 0
AreReadersOn cards readers = AllByRecursion (λ r. r.card < cards) readers

abbrev pub card_of : List NamedCard → List ℕ → Option ℕ
card_of [] name = None
card_of (c ∷ cards) name = if bytes_eq c.name name then Some c.card else card_of cards name
