use Rattle.std.proofs.Common.{sym}
use Rattle.piv_model.specs.PlainCard.{plain_base}
use Rattle.piv_cli.proofs.ServeLemmas.{answered-in, serves}
use Rattle.piv_cli.proofs.apdu.serve.Goals as goal

pub returns-in-Ok-answered-clause-serves : goal.returns-in-Ok-answered-clause-serves
returns-in-Ok-answered-clause-serves g c =
    serves c.in-Ok.start _ _ _ _ _ c.args.input.now c.in-Ok-answered.output.items
    c.requires.ready.on c.in-Ok.ensures.memory c.in-Ok-personalise.ensures.ok c.in-Ok-personalise.ensures.stands
    c.answer_lines-store.ensures.losses
    (answered-in _ c.answer_lines-store.result.1 _ c.in-Ok-answered.is c.answer_lines-store.ensures.dash)
    (λ known. answered-in _ c.answer_lines-store.result.1 _ c.in-Ok-answered.is
    (c.answer_lines-store.ensures.answered plain_base (sym c.in-Ok.ensures.random) known))
    c.into_inner-nvm.ensures.stands
