-- What is said of a command that lost power, by the call that lost it and the memory that stands (this project's own).
use Rattle.std.specs.Prelude.{ℕ, ◌+◌, Bool, true, false, not, ◌&&◌, ◌||◌, ◌==◌, List, nat_lt, IsTrue, if◌then◌else◌}
use Rattle.std.specs.Str.{bytes_eq}
use Rattle.piv_model.specs.declared.kinds.Took.{Took}
use Rattle.piv_model.specs.declared.kinds.Took.TheVariants.{Nothing, Spent, Done}
use Rattle.piv_model.specs.Memory.{Memory, has, reference, stored}
use Rattle.piv_rules.specs.Asks.{Ask, Put, Compare, Purpose, Verify, Change, Unblock}
use Rattle.card_commands.specs.declared.executed.Broken.{Broken}
use Rattle.card_commands.specs.declared.executed.Broken.TheVariants.{Spending, Filling, Putting}

-- a match leaves the value that it compares
abbrev pub keeps_value : List ℕ → Purpose → Bool
keeps_value p Verify = true
keeps_value p (Change n) = bytes_eq p n
keeps_value p (Unblock n) = false

-- how far the command came
abbrev pub tells : Ask → Broken → Memory → Took
tells (Compare r p purpose) (Spending tries) m = if (reference m r).tries == tries then Nothing else Spent
tells (Compare r p purpose) (Filling tries) m =
    if (reference m r).tries + 1 == tries then Spent
    else if ((reference m r).tries == tries) && keeps_value p purpose then Nothing
    else Done
tells (Put id v) (Putting same) m = if same || not (bytes_eq (stored m id) v) then Nothing else Done
tells _ _ m = Nothing

-- the reference that is compared is one that the card has, and the place is one of the 33
abbrev pub IsApt : Memory → Ask → Type 0
IsApt m (Compare r p purpose) = IsTrue (has m r)
IsApt m (Put id v) = IsTrue (nat_lt id 33)
IsApt m _ = Unit {0}
