use Rattle.std.proofs.Common.{◌≡◌, ◌≤◌, ℕ, true, false, rules, sym, subst, ◌∙◌}
use Rattle.piv_model.specs.Memory.{reference}
use Rattle.piv_rules.specs.Acts.{entries}
use Rattle.piv_rules.proofs.Legality.{IsLegal-runs}
use Rattle.card_cell.proofs.CountLaws.{absent-count, most-comparisons, most-spends}
use Rattle.card_cell.proofs.cell.CardCell.comparisons.Goals as goal

pub returns-then-has-clause-count : goal.returns-then-has-clause-count
returns-then-has-clause-count g c B R s =
    let has_it : c.has.result ≡ true = search rules in
    c.of.ensures ∙ s.compared c.args.r (sym (c.has.ensures B R s) ∙ has_it)

pub returns-then-has-clause-most : goal.returns-then-has-clause-most
returns-then-has-clause-most g c B R s =
    subst (λ (n : ℕ). n ≤ (reference B.memory c.args.r).limit) (sym (returns-then-has-clause-count g c B R s))
    (most-comparisons B (entries R) c.args.r s.sound (IsLegal-runs B R s.card.stands.runs))

pub returns-then-has-clause-spends : goal.returns-then-has-clause-spends
returns-then-has-clause-spends g c B R s has_it = most-spends B (entries R) c.args.r s.sound (IsLegal-runs B R s.card.stands.runs) has_it

pub returns-else-has-clause-count : goal.returns-else-has-clause-count
returns-else-has-clause-count g c B R s =
    let lacks : c.has.result ≡ false = search rules in
    absent-count B (entries R) c.args.r (sym (c.has.ensures B R s) ∙ lacks)

pub returns-else-has-clause-spends : goal.returns-else-has-clause-spends
returns-else-has-clause-spends g c B R s has_it = most-spends B (entries R) c.args.r s.sound (IsLegal-runs B R s.card.stands.runs) has_it
