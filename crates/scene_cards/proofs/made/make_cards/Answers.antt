use Rattle.std.proofs.Common.{◌∙◌, sym, ap, map, take, List, ◌++◌, ◌∷◌, []}
use Rattle.scene_cards.specs.Views.{card_view}
use Rattle.scene_cards.specs.CardValues.{CardValue, card_value}
use Rattle.scene_cards.proofs.Within.{card-within}
use Rattle.scene_cards.proofs.MadeSteps.{more-cards}
use Rattle.scene_cards.proofs.made.make_cards.Goals as goal

pub make_card-requires-clause-limit_pin : goal.make_card-requires-clause-limit_pin
make_card-requires-clause-limit_pin c = (card-within c.args.cards.now c.loop-card.card-index c.card-item.result c.loop-card-test.true c.card-item.is c.loop-card.invariant.within).0.limit_pin

pub make_card-requires-clause-limit_puk : goal.make_card-requires-clause-limit_puk
make_card-requires-clause-limit_puk c = (card-within c.args.cards.now c.loop-card.card-index c.card-item.result c.loop-card-test.true c.card-item.is c.loop-card.invariant.within).0.limit_puk

pub make_card-requires-clause-limit_global : goal.make_card-requires-clause-limit_global
make_card-requires-clause-limit_global c = (card-within c.args.cards.now c.loop-card.card-index c.card-item.result c.loop-card-test.true c.card-item.is c.loop-card.invariant.within).0.limit_global

pub make_card-requires-clause-budget : goal.make_card-requires-clause-budget
make_card-requires-clause-budget c = (card-within c.args.cards.now c.loop-card.card-index c.card-item.result c.loop-card-test.true c.card-item.is c.loop-card.invariant.within).0.budget

pub loop-card-preserved : goal.loop-card-preserved
loop-card-preserved c = record {
  made = c.in_ok-push.ensures.items
      ∙ ap (λ (l : List CardValue). l ++ c.in_ok-next.next ∷ []) c.loop-card.invariant.made
      ∙ ap (λ (v : CardValue). map card_value (map card_view (take c.loop-card.card-index c.args.cards.now)) ++ v ∷ []) c.in_ok-next.ensures
      ∙ sym (more-cards c.args.cards.now c.loop-card.card-index c.card-item.result c.loop-card-test.true c.card-item.is);
  within = (card-within c.args.cards.now c.loop-card.card-index c.card-item.result c.loop-card-test.true c.card-item.is c.loop-card.invariant.within).1;
}
