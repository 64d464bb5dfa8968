-- A match after a spent try.
use Rattle.std.proofs.Common.{refl, rules}
use Rattle.std.proofs.lemmas.Grind.{common_steps}
use Rattle.power_loss.proofs.PowerLaws.{none_due}
use Rattle.card_commands.proofs.Calls.{unchanged, filled_after, lost_after, not_due, later_none, later_one}
use Rattle.card_commands.proofs.comparison.carry.Goals as goal

pub returns-then-tries-eq0 : goal.returns-then-tries-eq0
returns-then-tries-eq0 g c = record {
  word = search (rules, common_steps);
  kind = refl;
  carried = unchanged _ _ (λ m. refl) (g.met.S.Store.due_rises c.args.store.now);
  broken = search rules;
  none_due = none_due (g.S.Store.state c.args.store.now).power (g.met.S.Store.due_rises c.args.store.now);
  due = search (rules, common_steps);
}

pub returns-in-Ok-fill : goal.returns-in-Ok-fill
returns-in-Ok-fill g c = record {
  word = search (rules, common_steps);
  kind = refl;
  carried = filled_after _ _ _ _ _ c.in-Ok.ensures.ok c.in-Ok.ensures.due c.in-Ok-fill.ensures.ok;
  broken = search rules;
  none_due = later_none _ _ _ c.in-Ok.ensures.ok c.in-Ok.ensures.due c.in-Ok-fill.ensures.due;
  due = search (rules, common_steps);
}

pub returns-in-Err-fill : goal.returns-in-Err-fill
returns-in-Err-fill g c = record {
  word = search rules;
  kind = search rules;
  carried = search rules;
  broken = record {
    leaves = lost_after _ c.args.candidate.now _ _ _ _ c.in-Ok.ensures.ok c.in-Ok.ensures.due c.in-Err-fill.ensures.lost c.in-Err-fill.ensures.due;
    spent = not_due 2 _ c.in-Ok.ensures.due;
    moment = later_one _ _ _ c.in-Ok.ensures.ok c.in-Ok.ensures.due c.in-Err-fill.ensures.due;
    cause = search (rules, common_steps);
    few = search rules;
    tries = search (rules, common_steps);
  };
  none_due = search rules;
  due = search (rules, common_steps);
}
