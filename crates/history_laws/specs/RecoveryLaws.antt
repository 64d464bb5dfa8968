-- What a loss of power leaves, and what may be said of it (this project's own).
use Rattle.std.specs.Prelude.{◌≡◌, ◌≢◌, ◌⊎◌, ◌↔◌, ℕ, Bool, true, false, List, Some, None, IsTrue}
use Rattle.piv_model.specs.declared.kinds.RefId.{RefId}
use Rattle.piv_model.specs.declared.kinds.Took.{Took}
use Rattle.piv_model.specs.declared.kinds.Took.TheVariants.{Nothing, Spent, Done}
use Rattle.piv_model.specs.Commands.{CardCommand}
use Rattle.piv_model.specs.Changes.{change_reference, one_less}
use Rattle.piv_model.specs.Entries.{Past, ◌▸◌, Cut, Up}
use Rattle.piv_model.specs.Memory.{Memory}
use Rattle.piv_model.specs.Base.{Base, profile}
use Rattle.piv_rules.specs.Asks.{Ask, Put, Compare, Purpose, ask}
use Rattle.piv_rules.specs.Connections.{on, is_open}
use Rattle.piv_rules.specs.Effects.{memory_after}
use Rattle.piv_rules.specs.Memories.{running, mem}
use Rattle.piv_rules.specs.Answers.{answer}
use Rattle.piv_rules.specs.Losses.{can_come, is_unblocking, MayBeSaid}
use Rattle.piv_rules.specs.Legal.{IsLegal, IsAllowed}
use Rattle.piv_rules.specs.Turns.{called}
use Rattle.card_laws.specs.LossLaws.{before_loss}
use Rattle.login_laws.specs.LoginLaws.{is_miss}

-- one try less of the reference that the command compares
pub record IsOneTryLess (B : Base) (G : Past) (k : CardCommand) (m : Memory) : Type 0 where
  pub compared : RefId
  pub candidate : List ℕ
  pub purpose : Purpose
  pub asks : ask (profile B) k ≡ Compare compared candidate purpose
  pub gives : m ≡ change_reference compared one_less (mem B G)

-- the memory after the command, which is granted
pub record IsCarriedOut (B : Base) (G : Past) (c : ℕ) (k : CardCommand) (m : Memory) : Type 0 where
  pub granted : (answer B G c k).word ≡ 0x9000
  pub gives : m ≡ mem B (G ▸ called B G c k)

-- a comparison and a put alone write
abbrev pub writes : Ask → Bool
writes (Compare r p purpose) = true
writes (Put id v) = true
writes _ = false

-- a command of an open connection writes, and is granted or misses
pub record IsWriting (B : Base) (G : Past) (c : ℕ) (k : CardCommand) : Type 0 where
  pub powered : on G ≡ true
  pub opened : is_open G c ≡ true
  pub writer : writes (ask (profile B) k) ≡ true
  pub told : ((answer B G c k).word ≡ 0x9000) ⊎ (is_miss (answer B G c k).word ≡ true)

-- exactly such a command can lose power
abbrev pub WritersLosePower : Type 0
WritersLosePower = (B : Base) (G : Past) (c : ℕ) (k : CardCommand) → IsAllowed B G (Cut (Some (c, k))) ↔ IsWriting B G c k

-- when the power comes back after a loss in a command, the memory is the one before the command, that with one try less of
-- the reference that it compares, or the one after it
abbrev pub RecoveryKeepsAPrefix : Type 0
RecoveryKeepsAPrefix = (B : Base) (H : Past) (t : Took) (c : ℕ) (k : CardCommand)
    → IsLegal B (H ▸ Up t) → running H ≡ Some (c, k)
    → (mem B (H ▸ Up t) ≡ mem B (before_loss H)) ⊎ IsOneTryLess B (before_loss H) k (mem B (H ▸ Up t))
    ⊎ IsCarriedOut B (before_loss H) c k (mem B (H ▸ Up t))

-- after a loss without a command it is the one before the loss
abbrev pub IdleLossesChangeNothing : Type 0
IdleLossesChangeNothing = (B : Base) (H : Past) (t : Took) → IsLegal B (H ▸ Up t) → running H ≡ None
    → (t ≡ Nothing) × (mem B (H ▸ Up t) ≡ mem B (before_loss H))

-- something may be said of a command that asks this, and means this memory
pub record CanBeSaid (a : Ask) (before now : Memory) : Type 0 where
  pub took : Took
  pub may : MayBeSaid before (Some a) took
  pub gives : now ≡ memory_after a took before

-- whatever a command can have done, something may be said that means the memory that it left
abbrev pub WhatIsLeftCanBeSaid : Type 0
WhatIsLeftCanBeSaid = (a : Ask) (t : Took) (before : Memory) → IsTrue (can_come before a t) → CanBeSaid a before (memory_after a t before)

-- nothing is said to be done where nothing shows, but for an unblocking, and a try is said to be spent before a match is
abbrev pub TheFirstIsSaid : Type 0
TheFirstIsSaid = (a : Ask) (t : Took) (m : Memory) → MayBeSaid m (Some a) t
    → (memory_after a t m ≡ m → is_unblocking a ≡ false → t ≡ Nothing)
    × (IsTrue (can_come m a Spent) → memory_after a t m ≡ memory_after a Spent m → t ≢ Done)
