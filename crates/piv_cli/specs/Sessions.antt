-- What is kept between the lines of an input, and what they leave.
use Rattle.std.specs.Prelude.{◌≡◌, ◌≤◌, ℕ, List, [], ◌∷◌, ◌++◌, Bool, true, false, Some, if◌then◌else◌}
use Rattle.hex.specs.Hex.{encode_upper}
use Rattle.power_loss.specs.Told.{Rose}
use Rattle.piv_model.specs.declared.store.Store.{Ghosts}
use Rattle.piv_model.specs.Stores.{StoreState}
use Rattle.piv_model.specs.Base.{Base}
use Rattle.piv_rules.specs.Acts.{Exchange, CardRecord, Records, entries}
use Rattle.piv_rules.specs.Connections.{on}
use Rattle.piv_rules.specs.RandomBlocks.{draws_count}
use Rattle.challenge_blocks.specs.declared.blocks.Blocks.{Blocks}
use Rattle.challenge_blocks.specs.Next.{IsNext}
use Rattle.card_app.specs.declared.card.Card.{Card}
use Rattle.card_app.specs.After.{epoch_at}
use Rattle.card_app.specs.Left.{Left}
use Rattle.card_app.specs.Stands.{CardStandsFor, store_state}
use Rattle.piv_cli.specs.Lines.{Line, Garbled, Command, LineWrites, AreLines, spelled}

-- the card stands for these records, after which no epoch of connection 1 is stale, and the next block is the card's
pub record IsAfter {S T : Type 0} {meaning : Ghosts S T} (card : Card S T meaning) (blocks : Blocks) (B : Base) (R : Records) : Type 0 where
  pub stands : CardStandsFor card B R
  pub fresh : on (entries R) ≡ true → epoch_at R 1 ≤ 0
  pub next : IsNext B.random (draws_count (entries R)) blocks

-- a store under a card that nobody switches on: it loses power once at most, its losses rise with that, and afterwards it
-- is left alone
pub record LosesOnce (old new : StoreState) : Type 0 where
  pub kept : new.power.on ≡ true → (old.power.on ≡ true) × (new.power.losses ≡ old.power.losses)
  pub lost : old.power.on ≡ true → new.power.on ≡ false → Rose old.power.losses new.power.losses
  pub off : old.power.on ≡ false → new ≡ old

-- a store that says that it won't lose power
pub record IsSteady (s : StoreState) : Type 0 where
  pub on : s.power.on ≡ true
  pub due : s.power.due ≡ Some []

-- an exchange of these bytes was answered, or the card was mute
pub record Replies {S T : Type 0} {meaning : Ghosts S T} (B : Base) (R : Records) (bytes : List ℕ)
    (old card : Card S T meaning) (blocks : Blocks) (replied : Bool) (reply : List ℕ) : Type 0 where
  pub made : CardRecord
  pub act : made.act ≡ Exchange 1 0 bytes
  pub stands : IsAfter card blocks B (made ∷ R)
  pub spelled : spelled made.answer ≡ (if replied then encode_upper reply else 45 ∷ [])
  pub steady : IsSteady (store_state old) → IsSteady (store_state card)

-- the line was answered
pub record Answers {S T : Type 0} {meaning : Ghosts S T} (B : Base) (R : Records) (line : Line)
    (old card : Card S T meaning) (blocks : Blocks) (out out_now : List ℕ) : Type 0 where
  pub first : List ℕ
  pub after : Records
  pub writes : LineWrites B R line first after
  pub stands : IsAfter card blocks B after
  pub written : out_now ≡ out ++ first
  pub steady : IsSteady (store_state old) → IsSteady (store_state card)

-- all lines of an input were answered
pub record AreAnswered {S T : Type 0} {meaning : Ghosts S T} (B : Base) (input : List ℕ)
    (old card : Card S T meaning) (out : List ℕ) : Type 0 where
  pub records : Records
  pub lines : AreLines B input out records
  pub stands : CardStandsFor card B records
  pub steady : IsSteady (store_state old) → IsSteady (store_state card)

-- they were answered, and the store has what they left of the memory
pub record LinesLeave (B : Base) (input out : List ℕ) (old store : StoreState) : Type 0 where
  pub records : Records
  pub lines : AreLines B input out records
  pub left : Left B records (λ m. store.mem ≡ Some m)
  pub steady : IsSteady old → IsSteady store

-- what is left of a line, after it was decoded
abbrev pub line_of : Bool → List ℕ → Line
line_of good bytes = if good then Command bytes else Garbled
