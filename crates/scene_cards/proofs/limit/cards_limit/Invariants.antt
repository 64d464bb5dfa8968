use Rattle.std.proofs.Common.{◌≡◌, drop, map}
use Rattle.scene_cards.specs.Views.{card_view}
use Rattle.scene_cards.specs.CardLimits.{cards_limit}
use Rattle.scene_cards.proofs.limit.cards_limit.Given as goal

abbrev pub invariant-loop-card : goal.invariant-loop-card
invariant-loop-card l = cards_limit (map card_view l.cards) ≡ cards_limit (map card_view (drop l.card-index l.cards))
