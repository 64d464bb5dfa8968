use Rattle.std.proofs.Common.{refl, ◌∙◌}
use Rattle.piv_rules.proofs.TableLaws.{answer_to-word}
use Rattle.piv_rules.specs.Asks.{Compare, Put}
use Rattle.card_commands.proofs.laws.words_are_those_of_the_table.Goals as goal

pub returns-clause-compare : goal.returns-clause-compare
returns-clause-compare c r p purpose s piv rule = answer_to-word s (Compare r p purpose) ∙ rw (piv, rule) refl

pub returns-clause-put : goal.returns-clause-put
returns-clause-put c place v s piv rule = answer_to-word s (Put place v) ∙ rw (piv, rule) refl
