use Rattle.script_runs.proofs.Sharing.{shares_out}
use Rattle.script_runs.proofs.laws.scheduled_runs_share_out.Goals as goal

pub returns : goal.returns
returns c = shares_out
