use Rattle.std.proofs.Common.{◌≡◌, rules}
use Rattle.std.proofs.lemmas.Grind.{common_steps}
use Rattle.piv_model.specs.Commands.{command_of}
use Rattle.piv_rules.specs.Lent.{ask_of}
use Rattle.card_commands.proofs.Sayings.{command-told, select-told}
use Rattle.card_commands.proofs.recovery.took.Goals as goal

pub returns-then-command-eq-SELECT : goal.returns-then-command-eq-SELECT
returns-then-command-eq-SELECT g c =
    let is : c.args.command.ins ≡ 0xA4 = search (rules, common_steps) in
    select-told (g.S.Store.state c.args.store.now).mem (command_of c.args.command) c.args.broken is

pub returns : goal.returns
returns g c =
    command-told (g.S.Store.state c.args.store.now).mem (ask_of c.asked_by-asked.result) (command_of c.args.command) c.traits_of-traits.result c.args.broken c.took_of.result
    c.traits_of-traits.ensures c.asked_by-asked.ensures.asks c.took_of.ensures
