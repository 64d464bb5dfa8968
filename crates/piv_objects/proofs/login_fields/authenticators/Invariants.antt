-- What was found goes on in what is left as it does in all of the bytes.
use Rattle.std.proofs.Common.{List, [], length, map}
use Rattle.std.specs.Prelude.{◌↔◌}
use Rattle.piv_objects.specs.Authenticators.{Credential, credential_of}
use Rattle.piv_objects.proofs.Chain.{Goes}
use Rattle.piv_objects.proofs.login_fields.authenticators.Given as goal

abbrev pub invariant-loop-rest : goal.invariant-loop-rest
invariant-loop-rest l = (whole : List Credential) → Goes l.rest (map credential_of l.list.items) whole ↔ Goes l.bytes [] whole

abbrev pub decreases-loop-rest : goal.decreases-loop-rest
decreases-loop-rest l = length l.rest
