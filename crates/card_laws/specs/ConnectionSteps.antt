-- What one record makes of a card's connections (this project's own).
use Rattle.std.specs.Prelude.{ℕ, ◌==◌, List, [], drop, length, Option, Some, None, if◌then◌else◌}
use Rattle.piv_model.specs.declared.kinds.Interface.{Interface}
use Rattle.piv_model.specs.Commands.{CardCommand}
use Rattle.piv_model.specs.Chains.{extended}
use Rattle.piv_rules.specs.Asks.{Ask}
use Rattle.piv_rules.specs.StatusWords.{is_granted}
use Rattle.piv_rules.specs.Connections.{same_side}
use Rattle.piv_rules.specs.Channels.{fresh, after_call}
use Rattle.card_laws.specs.StandsFor.{Attached}

-- a connection after a break
abbrev pub fresh_on : Interface → Attached
fresh_on i = record { side = i; channel = fresh; chain = None; rest = [] }

-- after a Part, a Rest that gave so many bytes, and a Bad
abbrev pub after_part : CardCommand → Attached → Attached
after_part k x = record { side = x.side; channel = x.channel; chain = Some (extended x.chain k); rest = [] }

abbrev pub after_rest : ℕ → Attached → Attached
after_rest given x = record { side = x.side; channel = x.channel; chain = None; rest = drop given x.rest }

abbrev pub after_bad : Attached → Attached
after_bad x = record { side = x.side; channel = x.channel; chain = None; rest = [] }

-- after a command that asks this: its word, the block that it drew, its data and how many of them its reply gave
abbrev pub after_command : Ask → ℕ → Option (List ℕ) → List ℕ → ℕ → Attached → Attached
after_command a word block body given x = record {
  side = x.side;
  channel = after_call a word block x.channel;
  chain = None;
  rest = if is_granted word then drop given body else [];
}

-- after a reset of an interface, and after a loss of power
abbrev pub after_reset : Interface → Attached → Attached
after_reset i x = if same_side i x.side then fresh_on x.side else x

abbrev pub after_cut : Attached → Attached
after_cut x = fresh_on x.side

-- connections by their numbers, the same but for one number
abbrev pub with_at : ℕ → Option Attached → (ℕ → Option Attached) → ℕ → Option Attached
with_at c x attached d = if c == d then x else attached d

-- the bytes in an open chain
abbrev pub chain_length : Option CardCommand → ℕ
chain_length None = 0
chain_length (Some k) = length k.body
