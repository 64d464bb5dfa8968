-- The passes of a client, and what a turn at one of its cards does to them (this project's own).
use Rattle.std.specs.Prelude.{◌≡◌, ℕ, ◌≤◌, ◌==◌, true, List, [], ◌∷◌, ◌++◌, length, map, Option, Some, None, option_map, slice_get, slice_set, if◌then◌else◌}
use Rattle.turnstile.specs.Records.{Rises}
use Rattle.turnstile.specs.Known.{Gate, Known, after_turn}
use Rattle.turnstile_rows.specs.Rows.{ArePassesOf}
use Rattle.piv_model.specs.Base.{Base}
use Rattle.piv_model.specs.Entries.{CardEntry}
use Rattle.piv_rules.specs.Acts.{CardAct, CardAnswer, CardRecord}
use Rattle.card_acts.specs.Acts.{Heard, is_answer_to}
use Rattle.client_api.specs.Ports.{Log, AreInside, AreSeen}
use Rattle.card_cell.specs.declared.base.CellBase.{CellBase}
use Rattle.card_cell.specs.Holds.{base_of}

-- the turnstile of a card, and what a pass of it knows
abbrev pub CellGate : Type 0
CellGate = Gate CellBase

abbrev pub CellPass : Type 0
CellPass = Known CellBase CardRecord

-- the passes are these, but for what they have seen and own
pub record IsStill (old new : CellPass) : Type 0 where
  pub same : new ≡ record old { seen = new.seen; own = new.own }

pub record AreStill (old new : List CellPass) : Type 0 where
  pub many : length new ≡ length old
  pub each : (k : ℕ) (before after : CellPass)
      → slice_get old k ≡ Some before → slice_get new k ≡ Some after → IsStill before after

-- a client of these turnstiles, made of these passes
pub record IsClient (gates : List CellGate) (first : List CellPass) (turnstiles : List CellGate) (passes : List CellPass) : Type 0 where
  pub gates_are : turnstiles ≡ gates
  pub own : ArePassesOf gates passes
  pub still : AreStill first passes

abbrev pub bases_at : List CellGate → List Base
bases_at gates = map (λ gate. base_of gate.base.start) gates

abbrev pub turns_of : Option CellGate → ℕ
turns_of None = 0
turns_of (Some gate) = gate.base.turns

abbrev pub turns_at : List CellGate → ℕ → ℕ
turns_at gates k = turns_of (slice_get gates k)

abbrev pub seen_of : Option CellPass → ℕ
seen_of None = 0
seen_of (Some pass) = pass.seen

abbrev pub seen_at : List CellPass → ℕ → ℕ
seen_at passes k = seen_of (slice_get passes k)

-- ---- own records

-- those of a card with their places, in their order
abbrev pub owns_of : ℕ → Log → List (ℕ × CardRecord)
owns_of card [] = []
owns_of card (o ∷ log) = if o.card == card then owns_of card log ++ (o.place, o.did) ∷ [] else owns_of card log

-- the own records of each card are those of its pass, which has seen them
pub record StandsOwn (passes : List CellPass) (log : Log) : Type 0 where
  pub own : (k : ℕ) (pass : CellPass) → slice_get passes k ≡ Some pass → pass.own ≡ owns_of k log
  pub inside : AreInside (length passes) log
  pub seen : AreSeen (seen_at passes) log

-- ---- a turn

abbrev pub recorded : CardAct → CardEntry → CardAnswer → CardRecord
recorded act entry told = record { act = act; entry = entry; answer = told }

-- One turn at a card found so many records, among them all that its pass had seen. The pass has the record of the act
-- and its answer at the end of these; Full made none, and comes only where all turns were used
pub record TurnedAt (gates : List CellGate) (card : ℕ) (act : CardAct) (heard : Heard) (old new : List CellPass) : Type 0 where
  pub gate : CellGate
  pub pass : CellPass
  pub found : ℕ
  pub entry : CardEntry
  pub gate_is : slice_get gates card ≡ Some gate
  pub pass_is : slice_get old card ≡ Some pass
  pub seen : pass.seen ≤ found
  pub rises : Rises pass.seen pass.own
  pub answers : is_answer_to act heard ≡ true
  pub full : heard ≡ None → found ≡ gate.base.turns
  pub knows : new ≡ slice_set old card (after_turn pass found (option_map (recorded act entry) heard))
