-- What is said of a command that lost power is decided by the call that lost it and by the memory that stands: its tries,
-- or whether an object has a value (this project's own).
use Rattle.std.specs.Prelude.{◌≡◌, ℕ, ◌||◌, Some, IsTrue}
use Rattle.piv_model.specs.Memory.{Memory}
use Rattle.piv_model.specs.Sound.{IsSound}
use Rattle.piv_model.specs.Stores.{StoreState}
use Rattle.piv_rules.specs.Asks.{Ask}
use Rattle.piv_rules.specs.Legal.{is_writer}
use Rattle.piv_rules.specs.Losses.{IsTold}
use Rattle.piv_rules.specs.StatusWords.{is_granted, is_mismatched}
use Rattle.card_commands.specs.declared.executed.Broken.{Broken}
use Rattle.card_commands.specs.Carried.{Breaks, last_lines_word}
use Rattle.card_commands.specs.Tells.{tells, IsApt}

-- it lost power over a sound memory, and another one stands
pub record IsLoss (put_cost : ℕ → ℕ) (a : Ask) (broken : Broken) (old new : StoreState) (before now : Memory) : Type 0 where
  pub sound : IsSound before
  pub apt : IsApt before a
  pub was : old.mem ≡ Some before
  pub stands : new.mem ≡ Some now
  pub breaks : Breaks put_cost a broken old new

-- what is said was possible, gives the memory that stands, and is the first that does; an unblocking may be called done
-- also where nothing shows
abbrev pub LossesAreTold : Type 0
LossesAreTold = (put_cost : ℕ → ℕ) (a : Ask) (broken : Broken) (old new : StoreState) (before now : Memory)
    → IsLoss put_cost a broken old new before now → IsTold a (tells a broken now) before now

-- a comparison or a put, which would have been answered 90 00 or 63 CX
abbrev pub OnlyWritesAreLost : Type 0
OnlyWritesAreLost = (put_cost : ℕ → ℕ) (a : Ask) (broken : Broken) (old new : StoreState) (before now : Memory)
    → IsLoss put_cost a broken old new before now → IsTrue (is_writer a)
    × IsTrue (is_granted (last_lines_word before a) || is_mismatched (last_lines_word before a))
