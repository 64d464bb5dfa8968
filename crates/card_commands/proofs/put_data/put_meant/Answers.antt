use Rattle.std.proofs.Common.{◌∙◌, Option, Some, sym, ap}
use Rattle.std.specs.Prelude.{option_and_then}
use Rattle.piv_rules.specs.Asks.{formed, put_asked}
use Rattle.piv_rules.specs.Forms.{PutForm}
use Rattle.card_commands.specs.Asking.{profile_by, put_formed}
use Rattle.card_commands.proofs.put_data.put_meant.Goals as goal

pub returns-in-None-clause-asks : goal.returns-in-None-clause-asks
returns-in-None-clause-asks c =
    sym (ap (λ (o : Option PutForm). formed o put_asked) (c.put_parts.ensures.form (profile_by c.args.traits.now) ∙ ap (option_and_then (put_formed c.args.traits.now.has_global)) c.in-None.is))

pub returns-in-Some-Discovery-clause-asks : goal.returns-in-Some-Discovery-clause-asks
returns-in-Some-Discovery-clause-asks c =
    c.discovery_asked.ensures.asks
    ∙ sym (ap (λ (o : Option PutForm). formed o put_asked) (c.put_parts.ensures.form (profile_by c.args.traits.now)
    ∙ ap (option_and_then (put_formed c.args.traits.now.has_global)) (c.in-Some-Discovery.is ∙ ap Some c.in-Some-Discovery.field-0-is)))

pub returns-in-Some-Object-clause-asks : goal.returns-in-Some-Object-clause-asks
returns-in-Some-Object-clause-asks c =
    c.object_asked.ensures.asks
    ∙ sym (ap (λ (o : Option PutForm). formed o put_asked) (c.put_parts.ensures.form (profile_by c.args.traits.now)
    ∙ ap (option_and_then (put_formed c.args.traits.now.has_global)) (c.in-Some-Object.is ∙ ap Some c.in-Some-Object.field-0-is)))

pub returns-in-Some-Object-clause-meet : goal.returns-in-Some-Object-clause-meet
returns-in-Some-Object-clause-meet c = c.object_asked.ensures.meet c.args.traits.now.has_global
