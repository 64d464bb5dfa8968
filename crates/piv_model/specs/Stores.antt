-- What a store means to those that stand on it, and what its calls do (this project's own).
use Rattle.std.specs.Prelude.{◌≡◌, ◌⊎◌, ℕ, Bool, true, false, List, Result, Ok, Err, IfSome}
use Rattle.std.specs.declared.option.Option.{Option}
use Rattle.std.specs.Option.{option_map}
use Rattle.power_loss.specs.Due.{is_due}
use Rattle.power_loss.specs.Power.{Power, power_after, LostIn}
use Rattle.piv_model.specs.declared.store.PutFault.{PutFault}
use Rattle.piv_model.specs.declared.store.PutFault.TheVariants.{Lost, TooLarge}
use Rattle.piv_model.specs.Memory.{Memory}
use Rattle.piv_model.specs.Changes.{with_object}

pub record StoreState : Type 0 where
  -- the memory, where the device tells its bytes
  pub mem : Option Memory
  pub power : Power

-- after a call of n writes, none of them lost, that changes the memory so
abbrev pub changed : ℕ → (Memory → Memory) → StoreState → StoreState
changed n change s = record s { mem = option_map change s.mem; power = power_after n s.power }

-- the old memory, or what the change makes of it
abbrev pub IsEither : (Memory → Memory) → Option Memory → Option Memory → Type 0
IsEither change old new = (new ≡ old) ⊎ (new ≡ option_map change old)

-- after such a call that lost power
abbrev pub CutShort : ℕ → (Memory → Memory) → StoreState → StoreState → Type 0
CutShort n change old new = LostIn n (IsEither change old.mem new.mem) old.power new.power

-- what a put of n writes leaves, by its answer
abbrev pub Puts : {T : Type 0} → ℕ → ℕ → List ℕ → Result T PutFault → StoreState → StoreState → Type 0
Puts n place v (Ok x) old new = new ≡ changed n (with_object place v) old
Puts n place v (Err Lost) old new = CutShort n (with_object place v) old new
Puts n place v (Err TooLarge) old new = new ≡ old

-- a value is too large exactly where it has no room
abbrev pub AnswersRoom : {T : Type 0} → Bool → Result T PutFault → Type 0
AnswersRoom room (Ok x) = room ≡ true
AnswersRoom room (Err Lost) = room ≡ true
AnswersRoom room (Err TooLarge) = room ≡ false

-- a put that isn't too large is lost exactly where one of its n writes is due, if that is told
abbrev pub LostAsDue : {T : Type 0} → ℕ → Option (List ℕ) → Result T PutFault → Type 0
LostAsDue n due (Ok x) = IfSome due (λ due. is_due n due ≡ false)
LostAsDue n due (Err Lost) = IfSome due (λ due. is_due n due ≡ true)
LostAsDue n due (Err TooLarge) = Unit {0}
