-- Room that is lent for filling.
use Rattle.std.specs.Prelude.{ℕ, List, []}
use Rattle.std.specs.Borrow.{Lends, MutBor, Fml, Array, u8}
use mir.Syntax.{named}
use Rattle.piv_chaining.specs.Lending.{with_written}
use Rattle.piv_chaining.specs.declared.filler.Filler.{Filler}
use Rattle.piv_chaining.specs.contracts.filler.Filler.{the_row}

abbrev pub filler_with : Filler → ℕ → List ℕ → Filler
filler_with f size w = record f { pieces = record f.pieces { now = with_written f.pieces.now size w } }

abbrev pub LendsRoom : MutBor Filler → ℕ → MutBor (List ℕ) → Fml
LendsRoom f size room = Lends (the_row (record { mir = named 1; lft = [] })) (Array u8 0) f room (filler_with f.now size)
