use Rattle.std.proofs.Common.{◌≡◌, ◌++◌, List, ℕ, Ok, length}
use Rattle.hex.specs.Hex.{encode_upper}
use Rattle.piv_ports.specs.Writes.{Writes}
use Rattle.entry_text.proofs.printing.write_hex.Given as goal

abbrev pub invariant-pieces : goal.invariant-pieces
invariant-pieces g l =
    (done : List ℕ) × (l.fn.bytes ≡ done ++ l.rest)
    × Writes g.K.Sink.taken g.K.Sink.flushed g.K.Sink.faults (encode_upper done) l.initial.sink l.sink (Ok tt)

abbrev pub decreases-pieces : goal.decreases-pieces
decreases-pieces g l = length l.rest
