use Rattle.std.proofs.Common.{[], refl, true, sym, ap, ◌∙◌}
use Rattle.piv_cli.proofs.LineLemmas.{begins, lines-leave}
use Rattle.piv_cli.proofs.lines.answer_lines.Goals as goal

pub returns-clause-answered : goal.returns-clause-answered
returns-clause-answered g c B random memory =
    let powered = ap (λ s. (g.S.Store.state s).power.on) c.in-Ok.ensures.same ∙ c.requires.on in
    lines-leave B c.args.input.now c.attach.new.self _ _ _ (λ out. out.items) c.answer_each-answered.result c.into_store.ensures.same
    (ap g.S.Store.state (sym (c.attach.ensures.store ∙ c.in-Ok.ensures.same))) c.into_store.ensures.memory c.into_store.ensures.off
    (c.answer_each-answered.ensures.answered B (begins B c.in-Ok.card _ _ c.args.random c.attach.result random c.attach.ensures.full c.in-Ok.ensures.count
    (λ granted. c.attach.ensures.opened granted B [] true (c.in-Ok.ensures.stands B memory) powered refl refl) c.new-blocks.ensures))
