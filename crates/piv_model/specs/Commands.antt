-- Commands and APDUs as plain data: a header and the joined data (ISO/IEC 7816-4).
use Rattle.std.specs.Prelude.{ℕ, List}
use Rattle.piv_model.specs.declared.command.Command.{Command}
use Rattle.piv_model.specs.declared.command.Apdu.{Apdu}

-- a command: its header and its data, joined
pub record CardCommand : Type 0 where
  pub ins : ℕ
  pub p1 : ℕ
  pub p2 : ℕ
  pub body : List ℕ

-- an APDU: its class, its command, and how many bytes its reply may have
pub record CardApdu : Type 0 where
  pub class : ℕ
  pub command : CardCommand
  pub most : ℕ

-- what a lent command and a lent APDU say
abbrev pub command_of : Command → CardCommand
command_of k = record { ins = k.ins; p1 = k.p1; p2 = k.p2; body = k.body.now }

abbrev pub apdu_of : Apdu → CardApdu
apdu_of a = record {
  class = a.class;
  command = record { ins = a.ins; p1 = a.p1; p2 = a.p2; body = a.body.now };
  most = a.most;
}
