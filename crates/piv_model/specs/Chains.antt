-- Chains of commands (ISO/IEC 7816-4, command chaining).
use Rattle.std.specs.Prelude.{ℕ, Bool, true, ◌&&◌, ◌==◌, nat_lt, ◌++◌, length, Option, Some, None, if◌then◌else◌}
use Rattle.piv_model.specs.Commands.{CardCommand, CardApdu}

-- the open chain with one more command: the first command's header with the data of all
abbrev pub extended : Option CardCommand → CardCommand → CardCommand
extended None k = k
extended (Some j) k = record j { body = j.body ++ k.body }

-- the commands of one chain have one header
abbrev pub same_header : CardCommand → CardCommand → Bool
same_header k j = (k.ins == j.ins) && (k.p1 == j.p1) && (k.p2 == j.p2)

abbrev pub goes_on : Option CardCommand → CardCommand → Bool
goes_on None k = true
goes_on (Some j) k = same_header k j

-- what an APDU makes of a chain: a longer chain, a whole command, or a word that refuses it
pub data Link : Type 0 where
  PartOf : CardCommand → Link
  WholeOf : CardCommand → Link
  RefusedBy : ℕ → Link

-- a chain has at most 16,640 bytes; class 10 adds a part to it
abbrev pub sized : ℕ → CardCommand → Link
sized class k =
    if nat_lt 16640 (length k.body) then RefusedBy 0x6700
    else if class == 0x10 then PartOf k
    else WholeOf k

abbrev pub linked : Option CardCommand → CardApdu → Link
linked chain a =
    if goes_on chain a.command then sized a.class (extended chain a.command) else RefusedBy 0x6883
