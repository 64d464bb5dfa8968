-- What an entry does to the number of comparisons without a match since the counter was filled (this project's own).
use Rattle.std.specs.Prelude.{ℕ, ◌+◌, min, Bool, ◌&&◌, ◌||◌, Option, Some, None, if◌then◌else◌}
use Rattle.piv_model.specs.declared.kinds.RefId.{RefId}
use Rattle.piv_model.specs.declared.kinds.RefId.TheVariants.{Pin}
use Rattle.piv_model.specs.declared.kinds.Took.{Took}
use Rattle.piv_model.specs.declared.kinds.Took.TheVariants.{Spent, Done}
use Rattle.piv_model.specs.Commands.{CardCommand}
use Rattle.piv_model.specs.Base.{Profile}
use Rattle.piv_rules.specs.Asks.{Ask, Compare, ask}
use Rattle.piv_rules.specs.Memories.{same_reference, is_unblock}
use Rattle.card_cell.specs.declared.compared.Comparison.{Comparison}

-- the comparison that is asked
abbrev pub comparison_of : Ask → Option Comparison
comparison_of (Compare r p purpose) = Some (record { reference = r; unblocks = is_unblock purpose })
comparison_of _ = None

-- that of a command in flight
abbrev pub comparison_running : Profile → Option (ℕ × CardCommand) → Option Comparison
comparison_running m None = None
comparison_running m (Some r) = comparison_of (ask m r.1)

-- a match fills the counter of this reference
abbrev pub fills_counter : RefId → Comparison → Bool
fills_counter r k = same_reference r k.reference || (k.unblocks && same_reference r Pin)

-- after a Call that came so far, in 8 bits; and after an Up
abbrev pub after_call : RefId → Option Comparison → Took → ℕ → ℕ
after_call r (Some k) Done n = if fills_counter r k then 0 else n
after_call r (Some k) Spent n = if same_reference r k.reference then min (n + 1) 255 else n
after_call r _ _ n = n

abbrev pub after_up : RefId → Option Comparison → Took → ℕ → ℕ
after_up r (Some k) Done n = if fills_counter r k then 0 else n
after_up r _ _ n = n
