-- Room that is lent.
use Rattle.std.specs.Prelude.{ℕ, ◌+◌, ◌++◌, List, length, take, drop, replicate}
use Rattle.std.specs.Borrow.{Lends, MutBor, Fml, Array, u8}
use Rattle.piv_chaining.specs.Waiting.{Waiting}
use Rattle.piv_chaining.specs.contracts.pieces.Pieces.{the_row}

-- what is written into the room, of this size, comes behind what waits
abbrev pub with_written : Waiting → ℕ → List ℕ → Waiting
with_written p size w = record p { waiting = p.waiting ++ take size (w ++ drop (length w) (replicate size 0)); used = p.used + size }

abbrev pub LendsRoom : MutBor Waiting → ℕ → MutBor (List ℕ) → Fml
LendsRoom p size room = Lends the_row (Array u8 0) p room (with_written p.now size)
