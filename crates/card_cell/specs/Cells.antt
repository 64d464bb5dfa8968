-- What a cell stands for (this project's own).
use Rattle.std.specs.Prelude.{◌≡◌, ◌<◌, ℕ, Bool, true, false, List, ◌∷◌, length, is_some, Some, None}
use Rattle.piv_model.specs.declared.store.Store.{Ghosts}
use Rattle.piv_model.specs.declared.kinds.Interface.{Interface}
use Rattle.piv_model.specs.declared.history.ActKind.{ActKind}
use Rattle.piv_model.specs.declared.history.Refusal.{Refusal}
use Rattle.piv_model.specs.Base.{Base}
use Rattle.piv_model.specs.Entries.{Past, Note}
use Rattle.piv_model.specs.Sound.{IsSound}
use Rattle.piv_model.specs.Stores.{StoreState}
use Rattle.piv_rules.specs.Acts.{CardAct, CardAnswer, Mute, CardRecord, Records, entries}
use Rattle.piv_rules.specs.Connections.{epoch}
use Rattle.piv_rules.specs.RandomBlocks.{draws_count}
use Rattle.challenge_blocks.specs.Next.{IsNext}
use Rattle.card_app.specs.Plans.{DueFollows, GoesOn}
use Rattle.card_app.specs.Stands.{CardStandsFor, store_state}
use Rattle.card_acts.specs.Acts.{Heard}
use Rattle.card_cell.specs.declared.cell.CardCell.{CardCell}
use Rattle.card_cell.specs.Epochs.{epoch_in}
use Rattle.card_cell.specs.Exchanged.{latest}
use Rattle.card_cell.specs.Losses.{is_loss, IsCounted}
use Rattle.card_cell.specs.Opened.{AreThoseOf}
use Rattle.card_cell.specs.Tally.{AreCounted}

-- its history, the newest entry first, and the number of its turns
abbrev pub history_of : {S T : Type 0} {meaning : Ghosts S T} → CardCell S T meaning → Past
history_of cell = cell.history.past

abbrev pub turns_of : {S T : Type 0} {meaning : Ghosts S T} → CardCell S T meaning → ℕ
turns_of cell = cell.turns

-- the store of its card, and what that tells
abbrev pub store_of : {S T : Type 0} {meaning : Ghosts S T} → CardCell S T meaning → S
store_of cell = cell.card.store

abbrev pub store_in : {S T : Type 0} {meaning : Ghosts S T} → CardCell S T meaning → StoreState
store_in cell = store_state cell.card

-- a turn is left
abbrev pub HasTurn : {S T : Type 0} {meaning : Ghosts S T} → CardCell S T meaning → Type 0
HasTurn cell = length cell.history.past < cell.turns

-- the cell stands for the base, which is one that a card can have, and the records
pub record CellStandsFor {S T : Type 0} {meaning : Ghosts S T} (cell : CardCell S T meaning) (B : Base) (R : Records) : Type 0 where
  pub card : CardStandsFor cell.card B R
  pub past : cell.history.past ≡ entries R
  pub epochs : (i : Interface) → epoch_in cell.epochs i ≡ epoch (entries R) i
  pub connections : AreThoseOf (entries R) cell.connections
  pub blocks : IsNext B.random (draws_count (entries R)) cell.blocks
  pub sound : IsSound B.memory
  pub global : cell.has_global ≡ is_some B.memory.global
  pub compared : AreCounted B (entries R) cell.tally

-- the record of an act that got this answer: its entry is the newest
abbrev pub turned_as : {S T : Type 0} {meaning : Ghosts S T} → CardAct → CardCell S T meaning → CardAnswer → CardRecord
turned_as act new answer = record { act = act; entry = latest (history_of new); answer = answer }

-- the records after an act; there is none more where all turns are used
abbrev pub followed : {S T : Type 0} {meaning : Ghosts S T} → CardAct → CardCell S T meaning → Heard → Records → Records
followed act new None R = R
followed act new (Some answer) R = turned_as act new answer ∷ R

abbrev pub answers_mute : CardAnswer → Bool
answers_mute (Mute told) = true
answers_mute _ = false

-- One turn: an act was answered.
pub record TurnsOnce {S T : Type 0} {meaning : Ghosts S T} (put_cost : ℕ → ℕ) (old new : CardCell S T meaning) (act : CardAct) (answer : CardAnswer) : Type 0 where
  pub turns : turns_of new ≡ turns_of old
  -- one entry more
  pub past : history_of new ≡ latest (history_of new) ∷ history_of old
  -- the losses rose exactly where a command lost power
  pub counted : IsCounted (is_loss (latest (history_of new))) (store_in old) (store_in new)
  -- a card that was on is mute only where a command lost power
  pub mute : answers_mute answer ≡ true → (store_in old).power.on ≡ true → is_loss (latest (history_of new)) ≡ true
  -- one record more, by the rules of a turn
  pub stands : (B : Base) (R : Records) → CellStandsFor old B R → CellStandsFor new B (turned_as act new answer ∷ R)
  -- a command loses power exactly where a loss is due within its writes, and other entries leave what is due
  pub due : (B : Base) (R : Records) → CellStandsFor old B R
      → DueFollows put_cost B (entries R) (latest (history_of new)) (store_in old) (store_in new)
  -- each plan of losses of the cell is its plan afterwards
  pub plan : (B : Base) (R : Records) (L : List ℕ) → CellStandsFor old B R
      → GoesOn put_cost B L (entries R) (latest (history_of new)) (store_in old) (store_in new)

-- a note was added, and nothing else changed
pub record IsNotedOnly {S T : Type 0} {meaning : Ghosts S T} (act : ActKind) (why : Refusal) (old new : CardCell S T meaning) : Type 0 where
  pub past : new.history.past ≡ Note act why ∷ old.history.past
  pub card : new.card ≡ old.card
  pub turns : new.turns ≡ old.turns
  pub epochs : new.epochs ≡ old.epochs
  pub connections : new.connections ≡ old.connections
  pub blocks : new.blocks ≡ old.blocks
  pub global : new.has_global ≡ old.has_global
  pub tally : new.tally ≡ old.tally
