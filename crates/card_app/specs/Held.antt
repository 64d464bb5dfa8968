-- The bytes of open chains that are held, and how many slots have a connection.
use Rattle.std.specs.Prelude.{◌+◌, ◌≤◌, ℕ, List, [], ◌∷◌, length, Option, Some, None}
use Rattle.piv_model.specs.Commands.{CardCommand}
use Rattle.piv_chaining.specs.Chains.{Chain, held_by}
use Rattle.card_app.specs.declared.exchanging.Exchanged.{Exchanged}
use Rattle.card_app.specs.declared.exchanging.Exchanged.TheVariants as made
use Rattle.card_app.specs.declared.slot.Connection.{Connection}
use Rattle.card_app.specs.declared.slot.Slot.{Slot}

abbrev pub held_in : List Slot → ℕ
held_in [] = 0
held_in (s ∷ ss) = held_by s.joiner + held_in ss

-- the bytes of the command that an exchange executes
abbrev pub taken : Exchanged → CardCommand → ℕ
taken (made.Call done last) k = length k.body
taken (made.Lost broken) k = length k.body
taken _ k = 0

-- what was held, and the data of one APDU, is what is held and executed at most
abbrev pub KeepsHeld : Exchanged → Chain → Chain → Type 0
KeepsHeld e old new = taken e new.command + held_by new ≤ held_by old + 255

abbrev pub weight : Option Connection → ℕ
weight None = 0
weight (Some x) = 1

-- how many slots have a connection
abbrev pub taken_in : List Slot → ℕ
taken_in [] = 0
taken_in (s ∷ ss) = weight s.connection + taken_in ss
