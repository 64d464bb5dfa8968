use Rattle.std.proofs.Common.{◌≡◌, drop, []}
use Rattle.toml.specs.View.{items_view}
use Rattle.scene_table.specs.Readings.{each_after}
use Rattle.scene_cards.specs.Cards.{card_of}
use Rattle.scene_cards.proofs.cards.read_items.Given as goal

abbrev pub invariant-loop-item : goal.invariant-loop-item
invariant-loop-item l =
    each_after card_of [] (items_view l.items.items) ≡ each_after card_of l.cards (items_view (drop l.item-index l.items.items))
