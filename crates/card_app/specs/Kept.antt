-- What is kept of the connections, as the rules see it.
use Rattle.std.specs.Prelude.{◌≡◌, ◌<◌, ◌≤◌, length, slice_index_or, ℕ, zero, suc, Bool, true, false, ◌==◌, List, [], ◌∷◌, Option, Some, None, is_none, option_map, if◌then◌else◌}
use Rattle.std.specs.List.{list_any}
use Rattle.card_laws.specs.StandsFor.{Attached}
use Rattle.piv_chaining.specs.Chains.{Chain, chain_of, held_by}
use Rattle.piv_chaining.specs.Waiting.{Waiting}
use Rattle.card_commands.specs.Connections.{channel_of}
use Rattle.card_app.specs.declared.slot.Connection.{Connection}
use Rattle.card_app.specs.declared.slot.Slot.{Slot}

abbrev pub attached_as : Chain → Waiting → Connection → Attached
attached_as joiner pieces x = record {
  side = x.interface;
  channel = channel_of x.conn;
  chain = chain_of joiner;
  rest = pieces.waiting;
}

-- a slot has the connection of this number
abbrev pub is_numbered : ℕ → Option Connection → Bool
is_numbered c None = false
is_numbered c (Some x) = x.c == c

abbrev pub is_at : Slot → ℕ → Bool
is_at s c = is_numbered c s.connection

abbrev pub slot_attached : Slot → Option Attached
slot_attached s = option_map (attached_as s.joiner s.pieces) s.connection

-- the connection with this number
abbrev pub attached_in : List Slot → ℕ → Option Attached
attached_in [] c = None
attached_in (s ∷ ss) c = if is_at s c then slot_attached s else attached_in ss c

abbrev pub is_among : List Slot → ℕ → Bool
is_among ss c = list_any (λ s. is_at s c) ss

-- no number stands in two slots
abbrev pub AreApart : List Slot → Type 0
AreApart [] = Unit {0}
AreApart (s ∷ ss) = ((c : ℕ) → is_at s c ≡ true → is_among ss c ≡ false) × AreApart ss

abbrev pub is_free : Slot → Bool
is_free s = is_none s.connection

-- what happened to each slot: its number stands, and its connection became this
pub record BecameBy (h : Attached → Attached) (s t : Slot) : Type 0 where
  pub attached : slot_attached t ≡ option_map h (slot_attached s)
  pub numbered : (c : ℕ) → is_at t c ≡ is_at s c
  pub held : held_by t.joiner ≤ held_by s.joiner

abbrev pub EachBecameBy : (Attached → Attached) → List Slot → List Slot → Type 0
EachBecameBy h old new =
    (length new ≡ length old)
    × ((k : ℕ) (d : Slot) → k < length old → BecameBy h (slice_index_or old k d) (slice_index_or new k d))

-- the slot at a place has this number
abbrev pub IsPlaced : List Slot → ℕ → ℕ → Type 0
IsPlaced [] i c = ⊥
IsPlaced (s ∷ ss) zero c = is_at s c ≡ true
IsPlaced (s ∷ ss) (suc i) c = IsPlaced ss i c

abbrev pub AreFree : List Slot → Type 0
AreFree [] = Unit {0}
AreFree (s ∷ ss) = (s.connection ≡ None) × AreFree ss
