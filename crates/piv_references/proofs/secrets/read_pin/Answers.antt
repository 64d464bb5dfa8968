-- Eight bytes that are no PIN.
use Rattle.std.proofs.Common.{rules}
use Rattle.piv_references.proofs.secrets.read_pin.Goals as goal

pub returns-else-is_pin : goal.returns-else-is_pin
returns-else-is_pin c = search rules
