-- What an exchange makes of a connection and of the store, before any history is known (ISO/IEC 7816-4, chaining and GET
-- RESPONSE; SP 800-73-4 part 2).
use Rattle.std.specs.Prelude.{◌≡◌, ℕ, Bool, true, false, List, [], length, drop, Some, None, IfSome, Ok, if◌then◌else◌}
use Rattle.power_loss.specs.Due.{is_due}
use Rattle.power_loss.specs.Told.{Rose}
use Rattle.piv_model.specs.ApduForms.{apdu_spelled}
use Rattle.piv_model.specs.Commands.{CardCommand, CardApdu}
use Rattle.piv_model.specs.Memory.{Memory}
use Rattle.piv_model.specs.Stores.{StoreState}
use Rattle.piv_rules.specs.Acts.{Replied}
use Rattle.piv_rules.specs.Frames.{Frame, BadFrame, PartFrame, RestFrame, WholeFrame, frame_of}
use Rattle.piv_rules.specs.Plans.{cost_of}
use Rattle.piv_rules.specs.StatusWords.{is_granted}
use Rattle.piv_rules.specs.Turns.{cut_reply}
use Rattle.card_laws.specs.ConnectionSteps.{after_part, after_rest, after_bad}
use Rattle.card_laws.specs.StandsFor.{Attached}
use Rattle.piv_chaining.specs.Waiting.{Waiting}
use Rattle.card_commands.specs.declared.executed.Broken.{Broken}
use Rattle.card_commands.specs.declared.executed.Executed.{Executed}
use Rattle.card_commands.specs.Executes.{asked, replied, IsAnswered, IsBroken, KeepsPower, TellsAlike}
use Rattle.card_app.specs.declared.exchanging.Exchanged.{Exchanged}
use Rattle.card_app.specs.declared.exchanging.Exchanged.TheVariants as made
use Rattle.card_app.specs.declared.slot.Connection.{Connection}
use Rattle.card_app.specs.declared.slot.Slot.{Slot}
use Rattle.card_app.specs.Kept.{attached_as}

abbrev pub frame_on : List ℕ → Attached → Frame
frame_on bytes x = frame_of (apdu_spelled bytes) x.chain x.rest

pub record IsPart (bytes : List ℕ) (x y : Attached) (old new : StoreState) : Type 0 where
  pub apdu : CardApdu
  pub read : apdu_spelled bytes ≡ Ok apdu
  pub frame : frame_on bytes x ≡ PartFrame
  pub connection : y ≡ after_part apdu.command x
  pub store : new ≡ old

pub record IsRest (bytes piece : List ℕ) (last : ℕ) (x y : Attached) (old new : StoreState) : Type 0 where
  pub frame : frame_on bytes x ≡ RestFrame piece last
  pub connection : y ≡ after_rest (length piece) x
  pub store : new ≡ old

pub record IsBad (bytes : List ℕ) (word : ℕ) (x y : Attached) (old new : StoreState) : Type 0 where
  pub frame : frame_on bytes x ≡ BadFrame word
  pub connection : y ≡ after_bad x
  pub store : new ≡ old

-- what is left of a connection after a call, but for what the command made of it
pub record IsLeft (word : ℕ) (body piece : List ℕ) (x y : Attached) : Type 0 where
  pub side : y.side ≡ x.side
  pub chain : y.chain ≡ None
  pub rest : y.rest ≡ (if is_granted word then drop (length piece) body else [])

pub record IsCall (put_cost : ℕ → ℕ) (bytes block : List ℕ) (done : Executed) (last : ℕ) (k : CardCommand) (piece : List ℕ) (x y : Attached) (old new : StoreState) : Type 0 where
  pub most : ℕ
  pub body : List ℕ
  pub frame : frame_on bytes x ≡ WholeFrame k most
  pub reply : cut_reply (record { word = done.sw; body = body }) most ≡ Replied piece last
  pub left : IsLeft done.sw body piece x y
  pub answered : (m : Memory) → old.mem ≡ Some m
      → IsAnswered put_cost (asked m k) (replied m x.side block x.channel k) block done body x.channel y.channel old new
  pub due : (m : Memory) → old.mem ≡ Some m
      → IfSome old.power.due (λ due. is_due (cost_of put_cost (asked m k) done.sw) due ≡ false)

pub record IsLost (put_cost : ℕ → ℕ) (bytes block : List ℕ) (broken : Broken) (k : CardCommand) (x : Attached) (old new : StoreState) : Type 0 where
  pub most : ℕ
  pub frame : frame_on bytes x ≡ WholeFrame k most
  pub off : new.power.on ≡ false
  pub broke : (m : Memory) → old.mem ≡ Some m
      → IsBroken put_cost (asked m k) (replied m x.side block x.channel k) m broken old new
  pub due : (m : Memory) → old.mem ≡ Some m → IfSome old.power.due
      (λ due. is_due (cost_of put_cost (asked m k) (replied m x.side block x.channel k).word) due ≡ true)

-- by what it came to; a command that was executed is k
abbrev pub IsMade : (ℕ → ℕ) → List ℕ → List ℕ → Exchanged → CardCommand → List ℕ → Attached → Attached → StoreState → StoreState → Type 0
IsMade put_cost bytes block made.Part k piece x y old new = IsPart bytes x y old new
IsMade put_cost bytes block (made.Rest last) k piece x y old new = IsRest bytes piece last x y old new
IsMade put_cost bytes block (made.Bad word) k piece x y old new = IsBad bytes word x y old new
IsMade put_cost bytes block (made.Call done last) k piece x y old new = IsCall put_cost bytes block done last k piece x y old new
IsMade put_cost bytes block (made.Lost broken) k piece x y old new = IsLost put_cost bytes block broken k x old new

-- a GET RESPONSE
abbrev pub IsFetched : Frame → Exchanged → Waiting → Waiting → Type 0
IsFetched (BadFrame w) (made.Bad word) old new = (w ≡ word) × (new.waiting ≡ [])
IsFetched (RestFrame piece w) (made.Rest last) old new =
    (w ≡ last) × (piece ≡ new.piece) × (new.waiting ≡ drop (length new.piece) old.waiting)
IsFetched _ _ old new = ⊥

-- the first piece of a reply
pub record IsFirst (word most last : ℕ) (old new : Waiting) : Type 0 where
  pub reply : cut_reply (record { word = word; body = old.waiting }) most ≡ Replied new.piece last
  pub left : new.waiting ≡ (if is_granted word then drop (length new.piece) old.waiting else [])

-- a whole command was executed
abbrev pub IsCarried : (ℕ → ℕ) → List ℕ → ℕ → Exchanged → CardCommand → Attached → Attached → Waiting → StoreState → StoreState → Type 0
IsCarried put_cost block most (made.Call done last) k x y pieces old new =
    (body : List ℕ)
    × (cut_reply (record { word = done.sw; body = body }) most ≡ Replied pieces.piece last)
    × (y.side ≡ x.side) × (y.rest ≡ (if is_granted done.sw then drop (length pieces.piece) body else []))
    × ((m : Memory) → old.mem ≡ Some m
    → IsAnswered put_cost (asked m k) (replied m x.side block x.channel k) block done body x.channel y.channel old new)
    × ((m : Memory) → old.mem ≡ Some m
    → IfSome old.power.due (λ due. is_due (cost_of put_cost (asked m k) done.sw) due ≡ false))
IsCarried put_cost block most (made.Lost broken) k x y pieces old new =
    (new.power.on ≡ false)
    × ((m : Memory) → old.mem ≡ Some m
    → IsBroken put_cost (asked m k) (replied m x.side block x.channel k) m broken old new)
    × ((m : Memory) → old.mem ≡ Some m → IfSome old.power.due
    (λ due. is_due (cost_of put_cost (asked m k) (replied m x.side block x.channel k).word) due ≡ true))
IsCarried put_cost block most _ k x y pieces old new = ⊥

-- the same in a slot that has a connection
abbrev pub IsMadeAt : (ℕ → ℕ) → List ℕ → List ℕ → Exchanged → Slot → Slot → StoreState → StoreState → Type 0
IsMadeAt put_cost bytes block e old new so sn = (x : Connection) → old.connection ≡ Some x
    → (y : Connection) × (new.connection ≡ Some y) × (y.c ≡ x.c) × (y.interface ≡ x.interface)
    × IsMade put_cost bytes block e new.joiner.command new.pieces.piece
    (attached_as old.joiner old.pieces x) (attached_as new.joiner new.pieces y) so sn

-- the power afterwards
abbrev pub leaves_on : Exchanged → Bool
leaves_on (made.Lost broken) = false
leaves_on _ = true

-- The store afterwards, whatever it tells. A loss leaves it off, with more losses; a call makes writes, none of which was
-- lost; a part, a rest and a refusal leave it as it was.
pub record IsCutOff (old new : StoreState) : Type 0 where
  pub off : new.power.on ≡ false
  pub rose : Rose old.power.losses new.power.losses
  pub span : new.power.span ≡ old.power.span
  pub told : TellsAlike old new

pub record IsKeptOn (old new : StoreState) : Type 0 where
  pub power : KeepsPower old.power new.power
  pub told : TellsAlike old new

abbrev pub LeavesStore : Exchanged → StoreState → StoreState → Type 0
LeavesStore (made.Lost broken) old new = IsCutOff old new
LeavesStore (made.Call done last) old new = IsKeptOn old new
LeavesStore _ old new = new ≡ old
