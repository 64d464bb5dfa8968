-- How a memory changes (SP 800-73-4 part 1, retry counters; part 2, VERIFY, CHANGE REFERENCE DATA, RESET RETRY COUNTER
-- and PUT DATA).
use Rattle.std.specs.Prelude.{ℕ, ◌-◌, List, option_map, slice_set}
use Rattle.piv_model.specs.declared.kinds.RefId.{RefId}
use Rattle.piv_model.specs.declared.kinds.RefId.TheVariants.{Pin, Puk, GlobalPin}
use Rattle.piv_model.specs.Memory.{Memory, Reference}

-- a counter filled, a secret renewed, one try less
abbrev pub full : Reference → Reference
full x = record x { tries = x.limit }

abbrev pub renewed : List ℕ → Reference → Reference
renewed n x = record { limit = x.limit; tries = x.limit; secret = n }

abbrev pub one_less : Reference → Reference
one_less x = record x { tries = x.tries - 1 }

abbrev pub change_reference : RefId → (Reference → Reference) → Memory → Memory
change_reference Pin f m = record m { pin = f m.pin }
change_reference Puk f m = record m { puk = f m.puk }
change_reference GlobalPin f m = record m { global = option_map f m.global }

-- a new PIN, and both counters full
abbrev pub unblocked : List ℕ → Memory → Memory
unblocked n m = change_reference Pin (renewed n) (change_reference Puk full m)

-- the object of a place is this value, or absent where it is empty
abbrev pub with_object : ℕ → List ℕ → Memory → Memory
with_object place v m = record m { objects = slice_set m.objects place v }
