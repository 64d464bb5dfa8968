use Rattle.std.proofs.Common.{◌∙◌}
use Rattle.card_commands.proofs.PutLemmas.{put-named, put-none, formed-lent}
use Rattle.piv_objects.specs.Forms.{put_of}
use Rattle.card_commands.proofs.put_data.put_parts.Goals as goal

pub returns-in-Ok-clause-form : goal.returns-in-Ok-clause-form
returns-in-Ok-clause-form c p = put-named c.args.body.now (put_of c.in-Ok.put) p c.in-Ok.ensures.ok ∙ formed-lent p.has_global c.in-Ok.put

pub returns-in-Err-clause-form : goal.returns-in-Err-clause-form
returns-in-Err-clause-form c p = put-none c.args.body.now p c.in-Err.ensures.err
