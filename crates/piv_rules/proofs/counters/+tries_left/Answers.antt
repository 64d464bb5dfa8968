use Rattle.std.proofs.Common.{sym, ◌∙◌}
use Rattle.piv_rules.proofs.CounterLaws.{tries-empty}
use Rattle.piv_rules.proofs.counters.+tries_left.Goals as goal

pub returns-in-None : goal.returns-in-None
returns-in-None g t c B same full began = sym (tries-empty B c.args.entries.now c.args.r c.in-None.ensures.cases ∙ began)
