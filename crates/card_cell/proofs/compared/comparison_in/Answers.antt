use Rattle.std.proofs.Common.{◌≡◌, ◌==◌, false, rules, ◌∙◌}
use Rattle.piv_model.specs.Commands.{command_of}
use Rattle.card_cell.proofs.AskLaws.{at-verify, at-change, at-unblock, others-none}
use Rattle.card_cell.proofs.compared.comparison_in.Goals as goal

pub returns-in-32 : goal.returns-in-32
returns-in-32 c m global = c.verified.ensures m global ∙ at-verify m (command_of c.args.command) c.in-32.is

pub returns-in-36 : goal.returns-in-36
returns-in-36 c m global = c.changed.ensures m global ∙ at-change m (command_of c.args.command) c.in-36.is

pub returns-in-44 : goal.returns-in-44
returns-in-44 c m global = c.unblocked.ensures ∙ at-unblock m (command_of c.args.command) c.in-44.is

pub returns-in_default : goal.returns-in_default
returns-in_default c =
    let v : (c.args.command.ins == 0x20) ≡ false = search rules in
    let d : (c.args.command.ins == 0x24) ≡ false = search rules in
    let u : (c.args.command.ins == 0x2C) ≡ false = search rules in
    λ m global. others-none m (command_of c.args.command) v d u
