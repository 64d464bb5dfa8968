-- What a card may say of the command that lost power (this project's own).
use Rattle.std.specs.Prelude.{◌≡◌, Bool, true, false, not, Option, Some, None, IsTrue, option_map}
use Rattle.std.specs.Str.{bytes_eq}
use Rattle.piv_model.specs.declared.kinds.Took.{Took}
use Rattle.piv_model.specs.declared.kinds.Took.TheVariants.{Nothing, Spent, Done}
use Rattle.piv_model.specs.Entries.{Past}
use Rattle.piv_model.specs.Memory.{Memory, has, reference}
use Rattle.piv_model.specs.Base.{Base, profile}
use Rattle.piv_rules.specs.Asks.{Ask, Put, Compare, ask}
use Rattle.piv_rules.specs.Effects.{memory_after}
use Rattle.piv_rules.specs.Memories.{running, is_unblock, mem}

-- how far a command can have come over a memory: not at all always, a try spent where it compares, all of it where it
-- puts an object or its candidate is the secret
abbrev pub can_come : Memory → Ask → Took → Bool
can_come m a Nothing = true
can_come m (Compare r p purpose) Spent = has m r
can_come m (Compare r p purpose) Done = bytes_eq p (reference m r).secret
can_come m (Put id v) Done = true
can_come m _ _ = false

abbrev pub is_unblocking : Ask → Bool
is_unblocking (Compare r p purpose) = is_unblock purpose
is_unblocking _ = false

-- no earlier one of Nothing, Spent, Done that is possible gives the same memory. Done of an unblocking may be said
-- also of the memory of Nothing, since no call tells the old PIN.
abbrev pub IsFirstOf : Memory → Ask → Took → Type 0
IsFirstOf m a Nothing = Unit {0}
IsFirstOf m a Spent = ¬ (memory_after a Spent m ≡ memory_after a Nothing m)
IsFirstOf m a Done =
    (IsTrue (not (is_unblocking a)) → ¬ (memory_after a Done m ≡ memory_after a Nothing m))
    × (IsTrue (can_come m a Spent) → ¬ (memory_after a Done m ≡ memory_after a Spent m))

-- what may be said of a command that lost power over this memory; without a command nothing was done
abbrev pub MayBeSaid : Memory → Option Ask → Took → Type 0
MayBeSaid m None t = t ≡ Nothing
MayBeSaid m (Some a) t = IsTrue (can_come m a t) × IsFirstOf m a t

-- what the command asks that the last loss of power had running
abbrev pub asked_running : Base → Past → Option Ask
asked_running B H = option_map (λ r. ask (profile B) r.1) (running H)

-- what a card may say when its power is switched on after H, which ends off: its memory is still the one before the loss
abbrev pub MayTake : Base → Past → Took → Type 0
MayTake B H t = MayBeSaid (mem B H) (asked_running B H) t

-- this may be said of a command that asks this, the memory before it being `before` and after it `now`
pub record IsTold (a : Ask) (t : Took) (before now : Memory) : Type 0 where
  pub possible : IsTrue (can_come before a t)
  pub gives : now ≡ memory_after a t before
  pub first : IsFirstOf before a t
