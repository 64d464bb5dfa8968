use Rattle.std.proofs.Common.{subst, sym}
use Rattle.piv_model.specs.Entries.{Past}
use Rattle.piv_rules.specs.Legal.{IsLegal}
use Rattle.piv_rules.proofs.Legality.{IsLegal-runs}
use Rattle.card_cell.proofs.cell.CardCell.history.Goals as goal

pub returns-clause-legal : goal.returns-clause-legal
returns-clause-legal g c B R stands =
    subst (λ (H : Past). IsLegal B H) (sym stands.past) (IsLegal-runs B R stands.card.stands.runs)
