-- What a card stands for after one record more: a law for each act (this project's own).
use Rattle.std.specs.Prelude.{◌≡◌, ℕ, ◌+◌, ◌≤◌, Bool, true, false, List, Option, Some, None, option_map}
use Rattle.piv_model.specs.declared.kinds.Interface.{Interface}
use Rattle.piv_model.specs.declared.kinds.Took.TheVariants.{Nothing}
use Rattle.piv_model.specs.declared.history.Refusal.{Refusal}
use Rattle.piv_model.specs.Commands.{CardCommand}
use Rattle.piv_model.specs.ApduForms.{apdu_spelled}
use Rattle.piv_model.specs.Entries.{CardEntry, ◌▸◌, Opened, Closed, Reset, Cut, Up, Note}
use Rattle.piv_model.specs.Base.{Base}
use Rattle.piv_rules.specs.Connections.{is_open, epoch, is_exchange_on}
use Rattle.piv_rules.specs.Memories.{mem}
use Rattle.piv_rules.specs.Losses.{MayTake}
use Rattle.piv_rules.specs.Legal.{opened_count, is_full, is_locked}
use Rattle.piv_rules.specs.Acts.{CardAct, Connect, Disconnect, Exchange, ResetSide, CutPower, PowerOn, CardAnswer, Connected, Disconnected, WasReset, WasCut, IsUp, CardRecord, Records, entries}
use Rattle.piv_rules.specs.Frames.{Frame, frame_of}
use Rattle.piv_rules.specs.Turns.{IsTurned, IsExchanged, refused, kind_of, answer_of, epoch_told}
use Rattle.card_laws.specs.StandsFor.{Attached, attached_of, CardState, StandsFor}
use Rattle.card_laws.specs.ConnectionSteps.{fresh_on, with_at, after_reset, after_cut}

-- the record of an act that is refused
abbrev pub noted_as : Records → CardAct → Refusal → CardRecord
noted_as R act w = record {
  act = act;
  entry = Note (kind_of act) w;
  answer = answer_of (epoch_told (entries R) act) w;
}

-- the record of a connection that is opened: its number is the next one
abbrev pub opened_as : Records → Interface → Bool → CardRecord
opened_as R i shared = record {
  act = Connect i shared;
  entry = Opened (opened_count (entries R) + 1) i shared;
  answer = Connected (opened_count (entries R) + 1) (epoch (entries R) i);
}

abbrev pub StandsOpened : Type 0
StandsOpened = (B : Base) (R : Records) (card : CardState) (attached after : ℕ → Option Attached) (i : Interface) (shared : Bool)
    → StandsFor B R card attached → card.on ≡ true
    → is_locked (entries R) i shared ≡ false → is_full (entries R) ≡ false
    → ((d : ℕ) → after d ≡ with_at (opened_count (entries R) + 1) (Some (fresh_on i)) attached d)
    → StandsFor B (R ▸ opened_as R i shared) card after

-- a connection is closed, also where the card is off
abbrev pub StandsClosed : Type 0
StandsClosed = (B : Base) (R : Records) (card : CardState) (attached after : ℕ → Option Attached) (c : ℕ) (x : Attached)
    → StandsFor B R card attached → attached c ≡ Some x → ((d : ℕ) → after d ≡ with_at c None attached d)
    → StandsFor B (R ▸ record { act = Disconnect c; entry = Closed c; answer = Disconnected }) card after

-- an act is refused
abbrev pub StandsNoted : Type 0
StandsNoted = (B : Base) (R : Records) (card : CardState) (attached : ℕ → Option Attached) (act : CardAct) (w : Refusal)
    → StandsFor B R card attached → refused (entries R) act ≡ Some w → StandsFor B (R ▸ noted_as R act w) card attached

-- an interface is reset
abbrev pub StandsReset : Type 0
StandsReset = (B : Base) (R : Records) (card : CardState) (attached after : ℕ → Option Attached) (i : Interface)
    → StandsFor B R card attached → card.on ≡ true → ((d : ℕ) → after d ≡ option_map (after_reset i) (attached d))
    → StandsFor B (R ▸ record { act = ResetSide i; entry = Reset i; answer = WasReset }) card after

-- power is cut between two commands
abbrev pub StandsCut : Type 0
StandsCut = (B : Base) (R : Records) (card new : CardState) (attached after : ℕ → Option Attached)
    → StandsFor B R card attached → card.on ≡ true
    → new ≡ record card { on = false; running = None; took = Nothing }
    → ((d : ℕ) → after d ≡ option_map after_cut (attached d))
    → StandsFor B (R ▸ record { act = CutPower; entry = Cut None; answer = WasCut }) new after

-- the bytes of an exchange are this frame, and it made this entry and this answer: so the record is turned
abbrev pub ExchangesAreTurned : Type 0
ExchangesAreTurned = (B : Base) (R : Records) (card : CardState) (attached : ℕ → Option Attached) (c known : ℕ) (bytes : List ℕ)
    (x : Attached) (f : Frame) (e : CardEntry) (told : CardAnswer)
    → StandsFor B R card attached → card.on ≡ true → attached c ≡ Some x → epoch (entries R) x.side ≤ known
    → frame_of (apdu_spelled bytes) x.chain x.rest ≡ f → IsExchanged B (entries R) c f e told
    → IsTurned B R (record { act = Exchange c known bytes; entry = e; answer = told })

-- an exchange that lost no power: the connection is y afterwards
abbrev pub StandsExchanged : Type 0
StandsExchanged = (B : Base) (R : Records) (r : CardRecord) (card new : CardState) (attached after : ℕ → Option Attached) (c : ℕ)
    (x y : Attached)
    → StandsFor B R card attached → card.on ≡ true → attached c ≡ Some x
    → IsTurned B R r → is_exchange_on c r.entry ≡ true → attached_of B (R ▸ r) c ≡ y
    → new.on ≡ true → new.memory ≡ Some (mem B (entries (R ▸ r)))
    → ((d : ℕ) → after d ≡ with_at c (Some y) attached d)
    → StandsFor B (R ▸ r) new after

-- a command that lost power: it stays in flight
abbrev pub StandsLost : Type 0
StandsLost = (B : Base) (R : Records) (act : CardAct) (told : CardAnswer) (card new : CardState) (attached after : ℕ → Option Attached)
    (c : ℕ) (k : CardCommand)
    → StandsFor B R card attached → IsTurned B R (record { act = act; entry = Cut (Some (c, k)); answer = told })
    → new.on ≡ false → new.running ≡ Some (c, k)
    → MayTake B (entries R ▸ Cut (Some (c, k))) new.took
    → new.memory ≡ Some (mem B (entries R ▸ Cut (Some (c, k)) ▸ Up new.took))
    → ((d : ℕ) → after d ≡ option_map after_cut (attached d))
    → StandsFor B (R ▸ record { act = act; entry = Cut (Some (c, k)); answer = told }) new after

-- power is switched on, and the card says what the command did
abbrev pub StandsUp : Type 0
StandsUp = (B : Base) (R : Records) (card new : CardState) (attached : ℕ → Option Attached)
    → StandsFor B R card attached → card.on ≡ false → new.on ≡ true → new.memory ≡ card.memory
    → StandsFor B (R ▸ record { act = PowerOn; entry = Up card.took; answer = IsUp card.took }) new attached

-- an attached connection is open, and is what the history says of it
abbrev pub AttachedAreOpen : Type 0
AttachedAreOpen = (B : Base) (R : Records) (card : CardState) (attached : ℕ → Option Attached) (c : ℕ) (x : Attached)
    → StandsFor B R card attached → attached c ≡ Some x → (is_open (entries R) c ≡ true) × (attached_of B R c ≡ x)

abbrev pub OthersAreClosed : Type 0
OthersAreClosed = (B : Base) (R : Records) (card : CardState) (attached : ℕ → Option Attached) (c : ℕ)
    → StandsFor B R card attached → attached c ≡ None → is_open (entries R) c ≡ false
