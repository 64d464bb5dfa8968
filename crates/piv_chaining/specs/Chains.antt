-- What a joiner of chains keeps (ISO/IEC 7816-4, command chaining).
use Rattle.std.specs.Prelude.{ℕ, Bool, length, Option, Some, None, if◌then◌else◌}
use Rattle.piv_model.specs.Commands.{CardCommand}

-- the command that was joined last, and whether it is an open chain
pub record Chain : Type 0 where
  pub command : CardCommand
  pub is_chain : Bool

-- the open chain
abbrev pub chain_of : Chain → Option CardCommand
chain_of s = if s.is_chain then Some s.command else None

abbrev pub held_by : Chain → ℕ
held_by s = if s.is_chain then length s.command.body else 0
