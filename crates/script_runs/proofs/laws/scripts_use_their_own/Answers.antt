use Rattle.script_runs.proofs.Handles.{uses_its_own}
use Rattle.script_runs.proofs.laws.scripts_use_their_own.Goals as goal

pub returns : goal.returns
returns c = uses_its_own
