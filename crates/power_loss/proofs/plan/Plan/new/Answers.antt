use Rattle.power_loss.proofs.PlanLaws.{plan_at_first}
use Rattle.power_loss.proofs.plan.Plan.new.Goals as goal

pub returns : goal.returns
returns g c = plan_at_first c.args.losses.items
