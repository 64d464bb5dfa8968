-- What an APDU makes of a joiner, and what is lent of it.
use Rattle.std.specs.Prelude.{◌≡◌, true, false}
use Rattle.piv_model.specs.Commands.{CardCommand, command_of}
use Rattle.piv_model.specs.Chains.{Link, PartOf, WholeOf, RefusedBy}
use Rattle.piv_chaining.specs.Chains.{Chain}
use Rattle.piv_chaining.specs.declared.joiner.Joining.{Joining}
use Rattle.piv_chaining.specs.declared.joiner.Joining.TheVariants as joining
use Rattle.piv_chaining.specs.declared.joiner.Joined.{Joined}
use Rattle.piv_chaining.specs.declared.joiner.Joined.TheVariants as joined

-- the chain is one command longer, or the command is whole, or there is no chain
abbrev pub IsFed : Link → Joining → Chain → Type 0
IsFed (PartOf k) joining.Part new = new ≡ record { command = k; is_chain = true }
IsFed (WholeOf k) joining.Whole new = new ≡ record { command = k; is_chain = false }
IsFed (RefusedBy w) (joining.Refused word) new = (word ≡ w) × (new.is_chain ≡ false)
IsFed _ _ new = ⊥

-- the same, with the whole command lent
abbrev pub joining_of : Joined → Joining
joining_of joined.Part = joining.Part
joining_of (joined.Whole command) = joining.Whole
joining_of (joined.Refused word) = joining.Refused word

abbrev pub IsLent : CardCommand → Joined → Type 0
IsLent k (joined.Whole command) = command_of command ≡ k
IsLent k _ = Unit {0}

abbrev pub Lends : Link → Joined → Type 0
Lends (WholeOf k) lent = IsLent k lent
Lends _ lent = Unit {0}
