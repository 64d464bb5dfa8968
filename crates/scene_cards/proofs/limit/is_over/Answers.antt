use Rattle.std.proofs.Common.{◌<◌, sym, map, arith, ◌+◌}
use Rattle.std.proofs.lemmas.Bool.{lt-ltb}
use Rattle.scene_cards.specs.Views.{object_view}
use Rattle.scene_cards.specs.CardLimits.{object_blocks}
use Rattle.scene_cards.proofs.LimitLaws.{blocks-next, blocks-within}
use Rattle.scene_cards.proofs.limit.is_over.Goals as goal

pub returns-then-blocks-left : goal.returns-then-blocks-left
returns-then-blocks-left c =
    let next = blocks-next c.args.objects.now c.loop-object.object-index c.object-item.result c.loop-object-test.true c.object-item.is in
    let within = blocks-within c.args.objects.now (c.loop-object.object-index + 1) in
    let size = c.value_blocks-blocks.ensures in
    let more : c.args.budget < object_blocks (map object_view c.args.objects.now) = omega (arith, next, within, size) in
    sym (lt-ltb c.args.budget (object_blocks (map object_view c.args.objects.now)) more)
