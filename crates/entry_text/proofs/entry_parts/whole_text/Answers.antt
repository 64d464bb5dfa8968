use Rattle.entry_text.proofs.EntryParts.{whole_parts}
use Rattle.entry_text.proofs.entry_parts.whole_text.Goals as goal

pub returns-clause-text : goal.returns-clause-text
returns-clause-text c = whole_parts c.args.front.items c.line_end.result.items c.line_end.ensures
