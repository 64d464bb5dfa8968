use Rattle.script_runs.proofs.Filling.{shares_never_fill as never_fill}
use Rattle.script_runs.proofs.laws.shares_never_fill.Goals as goal

pub returns : goal.returns
returns c = never_fill
