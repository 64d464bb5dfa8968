use Rattle.std.proofs.Common.{sym, ◌∙◌}
use Rattle.card_cell.specs.Kept.{has_number}
use Rattle.card_cell.proofs.FoundLaws.{found, not-found, any-place}
use Rattle.card_cell.proofs.connections.found_in.Goals as goal

pub returns-in-Some : goal.returns-in-Some
returns-in-Some c = found (has_number c.args.c) c.args.kept.now c.in-Some.place _ (sym c.place_in.ensures.first ∙ c.in-Some.is) c.in-Some.ensures.within
    (any-place c.args.kept.now c.in-Some.place _ _ c.in-Some.ensures.within)

pub returns-in-None : goal.returns-in-None
returns-in-None c = not-found (has_number c.args.c) c.args.kept.now (sym c.place_in.ensures.first ∙ c.in-None.is)
