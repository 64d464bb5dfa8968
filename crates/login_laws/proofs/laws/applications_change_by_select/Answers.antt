use Rattle.login_laws.proofs.Selections.{BreaksLeaveNothing-law}
use Rattle.login_laws.proofs.laws.applications_change_by_select.Goals as goal

pub returns-clause-breaks : goal.returns-clause-breaks
returns-clause-breaks c = BreaksLeaveNothing-law
