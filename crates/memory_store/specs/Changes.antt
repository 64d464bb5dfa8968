-- What a change makes of a memory, and when it may be made.
use Rattle.std.specs.Prelude.{ℕ, Bool, true, ◌&&◌, List, [], is_some}
use Rattle.piv_model.specs.Forms.{is_pin, is_secret}
use Rattle.piv_model.specs.Memory.{Memory, fits}
use Rattle.piv_model.specs.Changes.{change_reference, one_less, full, renewed, unblocked, with_object}
use Rattle.piv_model.specs.Sound.{may_stand}
use Rattle.memory_store.specs.declared.memory.Change.{Change}
use Rattle.memory_store.specs.declared.memory.Change.TheVariants.{Spend, Restore, Renew, Unblock, Put}

abbrev pub changed_by : Change → Memory → Memory
changed_by (Spend r) m = change_reference r one_less m
changed_by (Restore r) m = change_reference r full m
changed_by (Renew r secret) m = change_reference r (renewed secret.now) m
changed_by (Unblock pin) m = unblocked pin.now m
changed_by (Put place value) m = with_object place value.now m

-- the bytes that it puts in place
abbrev pub bytes_put : Change → List ℕ
bytes_put (Put place value) = value.now
bytes_put _ = []

-- its new values have their forms, and room
abbrev pub may_be_made : Change → Memory → Bool
may_be_made (Spend r) m = true
may_be_made (Restore r) m = true
may_be_made (Renew r secret) m = is_secret r secret.now
may_be_made (Unblock pin) m = is_pin pin.now
may_be_made (Put place value) m = fits m value.now && may_stand (is_some m.global) place value.now
