-- What a card stands for: the base that it began with and the records of what was done on it since (this project's own).
use Rattle.std.specs.Prelude.{◌≡◌, ℕ, Bool, not, List, Option, Some, None, IsTrue, if◌then◌else◌}
use Rattle.piv_model.specs.declared.kinds.Interface.{Interface}
use Rattle.piv_model.specs.declared.kinds.Took.{Took}
use Rattle.piv_model.specs.Commands.{CardCommand}
use Rattle.piv_model.specs.Entries.{◌▸◌, Up}
use Rattle.piv_model.specs.Memory.{Memory}
use Rattle.piv_model.specs.Base.{Base}
use Rattle.piv_rules.specs.Connections.{on, is_open, side}
use Rattle.piv_rules.specs.Memories.{running, mem}
use Rattle.piv_rules.specs.Channels.{Channel, channel}
use Rattle.piv_rules.specs.Losses.{MayTake}
use Rattle.piv_rules.specs.Acts.{Records, entries}
use Rattle.piv_rules.specs.Frames.{chain, rest}
use Rattle.piv_rules.specs.Turns.{Runs}

-- an attached connection
pub record Attached : Type 0 where
  pub side : Interface
  pub channel : Channel
  pub chain : Option CardCommand
  pub rest : List ℕ

-- the connection c after the records R
abbrev pub attached_of : Base → Records → ℕ → Attached
attached_of B R c = record {
  side = side (entries R) c;
  channel = channel B (entries R) c;
  chain = chain R c;
  rest = rest B R c;
}

-- a card as its callers see it: its power, its memory where that is told, the command that it keeps as in flight, and
-- what it will say of that when its power is switched on
pub record CardState : Type 0 where
  pub on : Bool
  pub memory : Option Memory
  pub running : Option (ℕ × CardCommand)
  pub took : Took

-- what a card that is off will say may be said, its memory is then that, and the command that it keeps is the one that
-- the last loss of power had running
pub record WillTake (B : Base) (R : Records) (card : CardState) : Type 0 where
  pub may : MayTake B (entries R) card.took
  pub memory : card.memory ≡ Some (mem B (entries R ▸ Up card.took))
  pub running : card.running ≡ running (entries R)

-- the card, with these connections attached, stands for the base and the records
pub record StandsFor (B : Base) (R : Records) (card : CardState) (attached : ℕ → Option Attached) : Type 0 where
  pub runs : Runs B R
  pub power : card.on ≡ on (entries R)
  pub connections : (c : ℕ) → attached c ≡ (if is_open (entries R) c then Some (attached_of B R c) else None)
  pub memory : IsTrue card.on → card.memory ≡ Some (mem B (entries R))
  pub off : IsTrue (not card.on) → WillTake B R card
