use Rattle.card_commands.proofs.LossLemmas.{told-broken, lost-word}
use Rattle.card_commands.proofs.laws.losses_are_told.Goals as goal

pub returns-clause-told : goal.returns-clause-told
returns-clause-told c put_cost a broken old new before now l = told-broken put_cost a broken old new before now l.sound l.apt l.was l.stands l.breaks

pub returns-clause-words : goal.returns-clause-words
returns-clause-words c put_cost a broken old new before now l = lost-word put_cost a broken old new before l.sound l.apt l.was l.breaks
