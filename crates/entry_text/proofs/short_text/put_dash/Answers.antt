use Rattle.std.proofs.Common.{arith}
use Rattle.entry_text.proofs.short_text.put_dash.Goals as goal

pub returns-then-is_empty-clause-bytes : goal.returns-then-is_empty-clause-bytes
returns-then-is_empty-clause-bytes c = λ i. let fits = c.type_inv.bytes i in omega (arith, fits)

pub returns-else-is_empty-clause-bytes : goal.returns-else-is_empty-clause-bytes
returns-else-is_empty-clause-bytes c = λ i. let fits = c.type_inv.bytes i in omega (arith, fits)
