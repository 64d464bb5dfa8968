-- The readers and the cards of a scene by their names (this project's own).
use Rattle.std.specs.Prelude.{ℕ, ◌+◌, List, [], ◌∷◌, ◌++◌, Option, Some, None, IsSome}
use Rattle.piv_model.specs.declared.kinds.Interface.{Interface}
use Rattle.piv_model.specs.declared.kinds.Interface.TheVariants.{Contact, Contactless}
use Rattle.script_line.specs.declared.line.Line.{Line}
use Rattle.script_line.specs.declared.line.Line.TheVariants.{Reset, Cut, Power}
use Rattle.client_api.specs.Readers.{NamedReader, NamedCard, Names, reader_of, card_of}
use Rattle.scene_cards.specs.CardValues.{CardValue}

-- the reader of an interface of a card, if it has one
abbrev pub reader_if : ℕ → Interface → Option (List ℕ) → List NamedReader
reader_if card side None = []
reader_if card side (Some name) = record { name = name; card = card; interface = side } ∷ []

abbrev pub readers_at : ℕ → CardValue → List NamedReader
readers_at card c = reader_if card Contact c.contact ++ reader_if card Contactless c.contactless

-- those of the cards from a place on
abbrev pub readers_from : ℕ → List CardValue → List NamedReader
readers_from n [] = []
readers_from n (c ∷ cards) = readers_at n c ++ readers_from (n + 1) cards

abbrev pub cards_from : ℕ → List CardValue → List NamedCard
cards_from n [] = []
cards_from n (c ∷ cards) = record { name = c.name; card = n } ∷ cards_from (n + 1) cards

-- the names of a scene's cards and of their readers
unfoldable pub names_of : List CardValue → Names
names_of cards = record { readers = readers_from 0 cards; cards = cards_from 0 cards }

-- a line that resets a reader, or cuts a card's power or puts it on, names one that there is
abbrev pub IsNamed : Names → Line → Type 0
IsNamed names (Reset reader) = IsSome (reader_of names.readers reader)
IsNamed names (Cut card) = IsSome (card_of names.cards card)
IsNamed names (Power card) = IsSome (card_of names.cards card)
IsNamed names _ = Unit {0}
