use Rattle.std.proofs.Common.{◌+◌, ◌∙◌, sym, ap, drop, map, Option}
use Rattle.std.specs.Option.{option_or}
use Rattle.piv_model.specs.declared.places.Limit.{Limit}
use Rattle.scene_cards.specs.Views.{card_view}
use Rattle.scene_cards.specs.CardLimits.{cards_limit}
use Rattle.scene_cards.proofs.LimitLaws.{limit-next, limit-end}
use Rattle.scene_cards.proofs.limit.cards_limit.Goals as goal

pub returns-in-Some : goal.returns-in-Some
returns-in-Some c = sym (c.loop-card.invariant
    ∙ limit-next c.args.cards.now c.loop-card.card-index c.card-item.result c.loop-card-test.true c.card-item.is
    ∙ ap (λ (o : Option Limit). option_or o (cards_limit (map card_view (drop (c.loop-card.card-index + 1) c.args.cards.now)))) (sym c.card_limit.ensures ∙ c.in-Some.is))

pub loop-card-preserved : goal.loop-card-preserved
loop-card-preserved c = c.loop-card.invariant
    ∙ limit-next c.args.cards.now c.loop-card.card-index c.card-item.result c.loop-card-test.true c.card-item.is
    ∙ ap (λ (o : Option Limit). option_or o (cards_limit (map card_view (drop (c.loop-card.card-index + 1) c.args.cards.now)))) (sym c.card_limit.ensures ∙ c.in-None.is)

pub returns : goal.returns
returns c = sym (c.loop-card.invariant ∙ limit-end c.args.cards.now c.loop-card.card-index c.loop-card-test.false)
