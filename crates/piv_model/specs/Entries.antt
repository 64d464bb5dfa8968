-- A card's history as plain data: what the card was asked, and what was seen of it (this project's own).
use Rattle.std.specs.Prelude.{ℕ, Bool, List, ◌∷◌, Option, option_map}
use Rattle.piv_model.specs.declared.kinds.Interface.{Interface}
use Rattle.piv_model.specs.declared.kinds.Took.{Took}
use Rattle.piv_model.specs.declared.history.ActKind.{ActKind}
use Rattle.piv_model.specs.declared.history.Refusal.{Refusal}
use Rattle.piv_model.specs.declared.history.Entry.{Entry}
use Rattle.piv_model.specs.declared.history.Entry.TheVariants as lent
use Rattle.piv_model.specs.Commands.{CardCommand, command_of}

-- an entry of a card's history. Numbers of connections, status words and bytes are numbers. A Call has its
-- command, its status word and the random block that it bears; a Cut has the command that lost power, with the
-- connection that sent it.
pub data CardEntry : Type 0 where
  Opened : ℕ → Interface → Bool → CardEntry
  Closed : ℕ → CardEntry
  Call : ℕ → CardCommand → ℕ → Option (List ℕ) → CardEntry
  Part : ℕ → CardEntry
  Rest : ℕ → CardEntry
  Bad : ℕ → ℕ → CardEntry
  Reset : Interface → CardEntry
  Cut : Option (ℕ × CardCommand) → CardEntry
  Up : Took → CardEntry
  Note : ActKind → Refusal → CardEntry

-- a history, the newest entry first
abbrev pub Past : Type 0
Past = List CardEntry

infixl 5 ◌▸◌
-- a history and the entry that follows it
pattern abbrev pub ◌▸◌ : {A : Type 0} → List A → A → List A
H ▸ e = e ∷ H

-- what a lent entry says
abbrev pub entry_of : Entry → CardEntry
entry_of (lent.Opened c interface shared) = Opened c interface shared
entry_of (lent.Closed c) = Closed c
entry_of (lent.Call c command sw block) = Call c (command_of command) sw block
entry_of (lent.Part c) = Part c
entry_of (lent.Rest c) = Rest c
entry_of (lent.Bad c sw) = Bad c sw
entry_of (lent.Reset interface) = Reset interface
entry_of (lent.Cut running) = Cut (option_map (λ r. (r.0, command_of r.1)) running)
entry_of (lent.Up took) = Up took
entry_of (lent.Note act answer) = Note act answer
