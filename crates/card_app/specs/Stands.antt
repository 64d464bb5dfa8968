-- What a card means to its callers, and what it stands for.
use Rattle.std.specs.Prelude.{◌+◌, ℕ, Bool, is_some, Option, option_map, IsTrue}
use Rattle.piv_model.specs.declared.store.Store.{Ghosts}
use Rattle.piv_model.specs.Base.{Base}
use Rattle.piv_model.specs.Stores.{StoreState}
use Rattle.piv_rules.specs.Acts.{Records}
use Rattle.card_laws.specs.StandsFor.{Attached, CardState, StandsFor}
use Rattle.piv_chaining.specs.Chains.{held_by}
use Rattle.card_app.specs.declared.card.Card.{Card}
use Rattle.card_app.specs.Flights.{told_of}
use Rattle.card_app.specs.Held.{held_in, taken_in}
use Rattle.card_app.specs.Kept.{attached_in, AreApart}

abbrev pub store_of : {S T : Type 0} {meaning : Ghosts S T} → Card S T meaning → S
store_of card = card.store

-- what its store tells
abbrev pub store_state : {S T : Type 0} {meaning : Ghosts S T} → Card S T meaning → StoreState
store_state {meaning = meaning} card = meaning.state card.store

-- its power, its memory, the command in flight, and what it will say of that, but not its connections
abbrev pub state_of : {S T : Type 0} {meaning : Ghosts S T} → Card S T meaning → CardState
state_of {meaning = meaning} card = record {
  on = (meaning.state card.store).power.on;
  memory = (meaning.state card.store).mem;
  running = option_map (λ f. (f.c, card.lost.command)) card.flight;
  took = told_of card.flight card.lost.command (meaning.state card.store).mem;
}

-- the connection with this number
abbrev pub attached_to : {S T : Type 0} {meaning : Ghosts S T} → Card S T meaning → ℕ → Option Attached
attached_to card = attached_in card.slots.items

abbrev pub is_attached : {S T : Type 0} {meaning : Ghosts S T} → Card S T meaning → ℕ → Bool
is_attached card c = is_some (attached_to card c)

abbrev pub IsAttached : {S T : Type 0} {meaning : Ghosts S T} → Card S T meaning → ℕ → Type 0
IsAttached card c = IsTrue (is_attached card c)

-- how many connections it has
abbrev pub attached_count : {S T : Type 0} {meaning : Ghosts S T} → Card S T meaning → ℕ
attached_count card = taken_in card.slots.items

-- the bytes of open chains that it holds
abbrev pub held_card : {S T : Type 0} {meaning : Ghosts S T} → Card S T meaning → ℕ
held_card card = held_in card.slots.items + held_by card.lost

-- the card stands for the base and the records
pub record CardStandsFor {S T : Type 0} {meaning : Ghosts S T} (card : Card S T meaning) (B : Base) (R : Records) : Type 0 where
  pub apart : AreApart card.slots.items
  pub stands : StandsFor B R (state_of card) (attached_to card)
