use Rattle.card_laws.proofs.PlanLaws.{PlansGoOn-law}
use Rattle.card_laws.proofs.laws.plans_go_on.Goals as goal

pub returns : goal.returns
returns c = record { go_on = PlansGoOn-law }
