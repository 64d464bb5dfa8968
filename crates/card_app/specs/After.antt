-- What stands after a call of a card, once what it lent has ended.
use Rattle.std.specs.Prelude.{◌≡◌, ◌≤◌, ◌+◌, ◌∷◌, ℕ, true, false, not, List, Some, is_some}
use Rattle.piv_model.specs.declared.store.Store.{Ghosts}
use Rattle.piv_model.specs.Base.{Base}
use Rattle.piv_model.specs.Entries.{CardEntry}
use Rattle.piv_model.specs.Written.{command_length}
use Rattle.piv_rules.specs.Acts.{CardRecord, Records, entries}
use Rattle.piv_rules.specs.Connections.{epoch, side}
use Rattle.piv_rules.specs.RandomBlocks.{next_block}
use Rattle.card_laws.specs.StandsFor.{Attached}
use Rattle.card_app.specs.declared.card.Card.{Card}
use Rattle.card_app.specs.declared.card.Outcome.{Outcome}
use Rattle.card_app.specs.Exchanges.{frame_on}
use Rattle.card_app.specs.Outcomes.{entry_by, exchange_by, muted, is_mute, IsFramed, LeavesOf}
use Rattle.card_app.specs.Plans.{DueFollows, GoesOn}
use Rattle.card_app.specs.Stands.{CardStandsFor, store_state, state_of, attached_to, is_attached, attached_count, held_card}

-- the epoch of a connection's interface
abbrev pub epoch_at : Records → ℕ → ℕ
epoch_at R c = epoch (entries R) (side (entries R) c)

-- the entry and the record of an exchange on a card that was on
abbrev pub entry_left : {S T : Type 0} {meaning : Ghosts S T} → Card S T meaning → ℕ → List ℕ → Outcome → CardEntry
entry_left new c block result = entry_by c block (state_of new).running result

abbrev pub record_left : {S T : Type 0} {meaning : Ghosts S T} → Card S T meaning → Records → ℕ → ℕ → List ℕ → List ℕ → Outcome → CardRecord
record_left new R c known bytes block result =
    exchange_by c known bytes block (state_of new).running (epoch_at R c) result

-- An exchange of these bytes on connection c, with this block: on a card that was on.
pub record IsExchangedOn {S T : Type 0} {meaning : Ghosts S T} (put_cost : ℕ → ℕ) (old new : Card S T meaning) (c : ℕ) (bytes block : List ℕ) (result : Outcome) : Type 0 where
  -- one record more, by an epoch that isn't stale and the card's next block
  pub stands : (B : Base) (R : Records) (known : ℕ) → CardStandsFor old B R → epoch_at R c ≤ known
      → block ≡ next_block B (entries R) → CardStandsFor new B (record_left new R c known bytes block result ∷ R)
  -- a command loses power exactly where a loss is due within its writes
  pub due : (B : Base) (R : Records) → CardStandsFor old B R → block ≡ next_block B (entries R)
      → DueFollows put_cost B (entries R) (entry_left new c block result) (store_state old) (store_state new)
  pub plan : (B : Base) (R : Records) (L : List ℕ) → CardStandsFor old B R → block ≡ next_block B (entries R)
      → GoesOn put_cost B L (entries R) (entry_left new c block result) (store_state old) (store_state new)
  -- over every store, also one that tells nothing
  pub framed : (x : Attached) → attached_to old c ≡ Some x → IsFramed (frame_on bytes x) c (state_of new).running result
  pub store : LeavesOf result (store_state old) (store_state new)
  pub flight : is_some (state_of new).running ≡ is_mute result
  pub held : command_length (entry_left new c block result) + held_card new ≤ held_card old + 255

-- an exchange on a card that is on or off
pub record IsExchanged {S T : Type 0} {meaning : Ghosts S T} (put_cost : ℕ → ℕ) (old new : Card S T meaning) (c : ℕ) (bytes block : List ℕ) (result : Outcome) : Type 0 where
  pub on : (store_state old).power.on ≡ true → IsExchangedOn put_cost old new c bytes block result
  -- a card that is off is mute, and untouched
  pub off : (store_state old).power.on ≡ false → new ≡ old
  pub muted : (B : Base) (R : Records) (known : ℕ) → (store_state old).power.on ≡ false → CardStandsFor old B R
      → CardStandsFor new B (muted c known bytes (epoch_at R c) ∷ R)
  -- mute exactly where the power is off afterwards
  pub mute : is_mute result ≡ not (store_state new).power.on
  pub numbers : (d : ℕ) → is_attached new d ≡ is_attached old d
  pub count : attached_count new ≡ attached_count old
