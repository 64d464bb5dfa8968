-- What a command does to the memory, by how far it came (SP 800-73-4 part 2, VERIFY, CHANGE REFERENCE DATA, RESET RETRY
-- COUNTER and PUT DATA; how far a command comes that loses power is this project's own).
use Rattle.std.specs.Prelude.{ℕ, Option, Some, None, if◌then◌else◌}
use Rattle.piv_model.specs.declared.kinds.RefId.{RefId}
use Rattle.piv_model.specs.declared.kinds.RefId.TheVariants.{Pin}
use Rattle.piv_model.specs.declared.kinds.Took.{Took}
use Rattle.piv_model.specs.declared.kinds.Took.TheVariants.{Nothing, Spent, Done}
use Rattle.piv_model.specs.Commands.{CardCommand}
use Rattle.piv_model.specs.Memory.{Memory}
use Rattle.piv_model.specs.Changes.{change_reference, full, renewed, one_less, with_object}
use Rattle.piv_model.specs.Base.{Profile}
use Rattle.piv_rules.specs.StatusWords.{is_granted, is_mismatched}
use Rattle.piv_rules.specs.Asks.{Ask, Put, Compare, Purpose, Verify, Change, Unblock, ask}

-- the memory after a match: the counter is full; a change gives the new value, an unblocking the new PIN
abbrev pub after_match : RefId → Purpose → Memory → Memory
after_match r Verify m = change_reference r full m
after_match r (Change n) m = change_reference r (renewed n) m
after_match r (Unblock n) m = change_reference Pin (renewed n) (change_reference r full m)

-- the memory after a command that came so far
abbrev pub memory_after : Ask → Took → Memory → Memory
memory_after (Compare r p purpose) Done m = after_match r purpose m
memory_after (Compare r p purpose) Spent m = change_reference r one_less m
memory_after (Put id v) Done m = with_object id v m
memory_after _ _ m = m

abbrev pub memory_by : Profile → Option (CardCommand × Took) → Memory → Memory
memory_by p None m = m
memory_by p (Some d) m = memory_after (ask p d.0) d.1 m

-- how far a command came that is answered this word: 90 00 did it, 63 CX spent a try
abbrev pub took_by : ℕ → Took
took_by word = if is_granted word then Done else if is_mismatched word then Spent else Nothing
