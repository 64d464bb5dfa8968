use Rattle.std.proofs.Common.{◌≡◌, rules}
use Rattle.piv_model.specs.Commands.{command_of}
use Rattle.piv_model.specs.ApduForms.{command_bytes}
use Rattle.piv_apdu.proofs.ReadBack.{read-back}
use Rattle.piv_apdu.proofs.commands.write_command.Goals as goal

pub returns-in-Some-clause-read : goal.returns-in-Some-clause-read
returns-in-Some-clause-read c =
    let e : c.push-in-Some.new.self.items ≡ command_bytes c.args.class (command_of c.args.command) c.args.le = search rules in
    read-back c.args.class (command_of c.args.command) c.args.le c.push-in-Some.new.self.items c.requires.class e

pub returns-in_default-clause-read : goal.returns-in_default-clause-read
returns-in_default-clause-read c =
    let e : c.if-not-is_empty.out.items ≡ command_bytes c.args.class (command_of c.args.command) c.args.le = search rules in
    read-back c.args.class (command_of c.args.command) c.args.le c.if-not-is_empty.out.items c.requires.class e
