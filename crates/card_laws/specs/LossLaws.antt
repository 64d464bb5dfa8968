-- What a loss of power and the next power-up make of the memory (this project's own).
use Rattle.std.specs.Prelude.{◌≡◌, ℕ, ◌-◌, false, [], ◌∷◌, Option, Some, None, length}
use Rattle.piv_model.specs.declared.kinds.Took.{Took}
use Rattle.piv_model.specs.declared.kinds.Took.TheVariants.{Nothing}
use Rattle.piv_model.specs.Commands.{CardCommand}
use Rattle.piv_model.specs.Entries.{Past, ◌▸◌, Cut, Up}
use Rattle.piv_model.specs.Memory.{Memory}
use Rattle.piv_model.specs.Base.{Base, profile}
use Rattle.piv_rules.specs.Asks.{ask}
use Rattle.piv_rules.specs.Connections.{on}
use Rattle.piv_rules.specs.Memories.{running, mem}
use Rattle.piv_rules.specs.Effects.{memory_after}
use Rattle.piv_rules.specs.Legal.{IsLegal}
use Rattle.piv_rules.specs.Losses.{MayTake, IsTold}

-- a loss of power leaves the memory, and an Up makes of it what it tells of the command in flight
abbrev pub CutsLeaveTheMemory : Type 0
CutsLeaveTheMemory = (B : Base) (H : Past) (r : Option (ℕ × CardCommand)) → mem B (H ▸ Cut r) ≡ mem B H

abbrev pub UpsTellTheMemory : Type 0
UpsTellTheMemory = (B : Base) (H : Past) (t : Took)
    → (running H ≡ None → mem B (H ▸ Up t) ≡ mem B H)
    × ((r : ℕ × CardCommand) → running H ≡ Some r → mem B (H ▸ Up t) ≡ memory_after (ask (profile B) r.1) t (mem B H))

-- something may always be said
abbrev pub NothingMayBeTaken : Type 0
NothingMayBeTaken = (B : Base) (H : Past) → MayTake B H Nothing

-- what is told of a command, by its memory, may be said after the loss
abbrev pub ToldMayBeTaken : Type 0
ToldMayBeTaken = (B : Base) (G : Past) (c : ℕ) (k : CardCommand) (t : Took) (now : Memory)
    → IsTold (ask (profile B) k) t (mem B G) now
    → MayTake B (G ▸ Cut (Some (c, k))) t × (now ≡ mem B (G ▸ Cut (Some (c, k)) ▸ Up t))

-- the memory of a card that is off is the one before the loss
abbrev pub before_loss : Past → Past
before_loss [] = []
before_loss (Cut command ∷ G) = G
before_loss (e ∷ G) = before_loss G

abbrev pub OffLeavesTheMemory : Type 0
OffLeavesTheMemory = (B : Base) (H : Past) → IsLegal B H → on H ≡ false → mem B H ≡ mem B (before_loss H)

-- the memory of a card without a history is the base's
abbrev pub StartsWithTheBase : Type 0
StartsWithTheBase = (B : Base) → length B.memory.objects ≡ 33 → mem B [] ≡ B.memory
