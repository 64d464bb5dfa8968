use Rattle.std.proofs.Common.{◌≡◌, take, drop, map, None}
use Rattle.scene_cards.specs.Views.{card_view}
use Rattle.scene_cards.specs.CardLimits.{cards_limit}
use Rattle.scene_cards.specs.CardValues.{card_value}
use Rattle.scene_cards.proofs.made.make_cards.Given as goal

abbrev pub invariant-loop-card : goal.invariant-loop-card
invariant-loop-card l = record {
  made : l.made.items ≡ map card_value (map card_view (take l.card-index l.cards));
  within : cards_limit (map card_view (drop l.card-index l.cards)) ≡ None;
}
