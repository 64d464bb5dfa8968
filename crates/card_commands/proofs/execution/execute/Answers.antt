use Rattle.card_commands.proofs.execution.execute.Goals as goal

pub returns-clause-answered : goal.returns-clause-answered
returns-clause-answered g c = c.dispatch.ensures.executes.answered

pub returns-clause-others : goal.returns-clause-others
returns-clause-others g c = c.dispatch.ensures.executes.others

pub returns-clause-broken : goal.returns-clause-broken
returns-clause-broken g c = c.dispatch.ensures.executes.broken

pub returns-clause-off : goal.returns-clause-off
returns-clause-off g c = c.dispatch.ensures.executes.off

pub returns-clause-rose : goal.returns-clause-rose
returns-clause-rose g c = c.dispatch.ensures.executes.rose

pub returns-clause-due : goal.returns-clause-due
returns-clause-due g c = c.dispatch.ensures.executes.due

pub returns-clause-span : goal.returns-clause-span
returns-clause-span g c = c.dispatch.ensures.executes.span

pub returns-clause-told : goal.returns-clause-told
returns-clause-told g c = c.dispatch.ensures.executes.told

pub returns-clause-word : goal.returns-clause-word
returns-clause-word g c = c.dispatch.ensures.word
