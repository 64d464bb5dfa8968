use Rattle.std.proofs.Common.{◌≡◌, drop, []}
use Rattle.toml.specs.View.{items_view}
use Rattle.scene_table.specs.Readings.{each_after}
use Rattle.scene_cards.specs.Losses.{loss_of}
use Rattle.scene_cards.proofs.losses.read_losses.Given as goal

abbrev pub invariant-loop-item : goal.invariant-loop-item
invariant-loop-item l = each_after loss_of [] (items_view l.items.items) ≡ each_after loss_of l.losses.items (items_view (drop l.item-index l.items.items))
