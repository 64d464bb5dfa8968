use Rattle.std.proofs.Common.{◌≡◌, ◌<◌, ◌≤◌, ◌+◌, ◌∙◌, length, get_or, drop, Some, sym, ap, List}
use Rattle.std.specs.Result.{result_ok}
use Rattle.toml.specs.View.{view, items_view}
use Rattle.power_loss.specs.declared.loss.Loss.{Loss}
use Rattle.nvm_device.specs.declared.loss.How.{How}
use Rattle.scene_table.specs.Readings.{each_after}
use Rattle.scene_cards.specs.Losses.{loss_of}
use Rattle.scene_table.proofs.EachAfter.{after-next, after-end}
use Rattle.scene_cards.proofs.LossStops.{loss-stopped}
use Rattle.scene_cards.proofs.losses.read_losses.Goals as goal

pub loop-item-preserved : goal.loop-item-preserved
loop-item-preserved c =
    let same = c.deref-item-items.ensures.value in
    let within : c.loop-item.item-index < length c.args.items.now.items = rw same at c.loop-item-test.true in
    let at_i : c.item-item.result ≡ get_or c.args.items.now.items c.loop-item.item-index c.item-item.result = rw same at c.item-item.is in
    let read : loss_of c.loop-item.losses.items (view c.item-item.result) ≡ Some c.in-Ok.loss = rw c.as_slice.ensures.value at c.in-Ok.ensures in
    c.loop-item.invariant
    ∙ after-next loss_of c.loop-item.losses.items c.args.items.now.items c.loop-item.item-index c.item-item.result c.in-Ok.loss within at_i read
    ∙ ap (λ (l : List (Loss How)). each_after loss_of l (items_view (drop (c.loop-item.item-index + 1) c.args.items.now.items))) (sym c.in-Ok-push.ensures.items)

pub returns : goal.returns
returns c =
    let past : length c.args.items.now.items ≤ c.loop-item.item-index = rw c.deref-item-items.ensures.value at c.loop-item-test.false in
    ap result_ok (c.loop-item.invariant ∙ after-end loss_of c.loop-item.losses.items c.args.items.now.items c.loop-item.item-index past)

pub returns-in-Err : goal.returns-in-Err
returns-in-Err c =
    let same = c.deref-item-items.ensures.value in
    let within : c.loop-item.item-index < length c.args.items.now.items = rw same at c.loop-item-test.true in
    let at_i : c.item-item.result ≡ get_or c.args.items.now.items c.loop-item.item-index c.item-item.result = rw same at c.item-item.is in
    loss-stopped c.in-Err.fault c.loop-item.losses.items c.as_slice.result.now c.args.items.now.items c.loop-item.item-index c.item-item.result within at_i c.as_slice.ensures.value c.loop-item.invariant c.in-Err.ensures
