-- A value that has no room changes nothing.
use Rattle.std.proofs.Common.{refl, ◌∙◌, rules}
use Rattle.std.proofs.lemmas.Grind.{common_steps}
use Rattle.power_loss.proofs.PowerLaws.{none_due}
use Rattle.card_commands.proofs.Calls.{unchanged}
use Rattle.card_commands.proofs.put_data.put.Goals as goal

pub returns-in-Err-TooLarge : goal.returns-in-Err-TooLarge
returns-in-Err-TooLarge g c =
    let same = rw c.in-Err-TooLarge.field-0-is at c.in-Err-TooLarge.ensures.puts in
    record {
      word = search (rules, common_steps);
      kind = refl;
      carried = same ∙ unchanged _ _ (λ m. refl) (g.met.S.Store.due_rises c.args.store.now);
      broken = search rules;
      none_due = none_due (g.S.Store.state c.args.store.now).power (g.met.S.Store.due_rises c.args.store.now);
      due = search (rules, common_steps);
    }
