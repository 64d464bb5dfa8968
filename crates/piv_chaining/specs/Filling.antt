-- The room of a reply that is lent for filling.
use Rattle.std.specs.Borrow.{GName}
use Rattle.piv_chaining.specs.Waiting.{Waiting}
use Rattle.piv_chaining.specs.declared.filler.Filler.{Filler}

-- what it has so far
abbrev pub filled : Filler → Waiting
filled f = f.pieces.now

-- the pieces that it fills
abbrev pub filling : Filler → GName
filling f = f.pieces.ghost_name
