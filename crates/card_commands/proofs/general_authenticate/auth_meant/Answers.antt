use Rattle.std.proofs.Common.{◌∙◌, sym, ap}
use Rattle.std.specs.Prelude.{option_map}
use Rattle.std.specs.Option.{option_copied}
use Rattle.piv_objects.specs.Templates.{fields_of}
use Rattle.card_commands.specs.Asking.{auth_of}
use Rattle.card_commands.proofs.AuthLemmas.{template-meant, template-none, meant-by}
use Rattle.card_commands.proofs.general_authenticate.auth_meant.Goals as goal

pub returns-in-Ok : goal.returns-in-Ok
returns-in-Ok c =
    ap (option_map auth_of) c.meaning.ensures ∙ meant-by c.args.key (option_copied c.in-Ok.fields.f80) (option_copied c.in-Ok.fields.f81) (option_copied c.in-Ok.fields.f82)
    ∙ sym (template-meant c.args.body.now (fields_of c.in-Ok.fields) c.args.key c.in-Ok.ensures.ok)

pub returns-in-Err : goal.returns-in-Err
returns-in-Err c = sym (template-none c.args.body.now c.args.key c.in-Err.ensures.err)
