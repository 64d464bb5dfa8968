use Rattle.std.proofs.Common.{◌<◌, length, arith}
use Rattle.scene_cells.proofs.TurnSums.{script-more, lines-more, lines-within}
use Rattle.scene_cells.proofs.turns.scene_turns.Goals as goal

pub script_turns-turns-requires : goal.script_turns-turns-requires
script_turns-turns-requires c =
    let within : c.loop-k.k < length c.args.scene.now.scripts = let end = c.scripts-k-end.ensures.count in omega (arith, end) in
    let part = lines-within c.args.scene.now.scripts c.loop-k.k c.script.result.now within c.script.ensures.value in
    let all = c.holds.ensures.few_lines in
    omega (arith, part, all)

pub overflow_add-turns : goal.overflow_add-turns
overflow_add-turns c =
    let within : c.loop-k.k < length c.args.scene.now.scripts = let end = c.scripts-k-end.ensures.count in omega (arith, end) in
    let part = lines-within c.args.scene.now.scripts c.loop-k.k c.script.result.now within c.script.ensures.value in
    let all = c.holds.ensures.few_lines in
    let so_far = c.loop-k.invariant in
    let next = c.script_turns-turns.ensures in
    omega (arith, part, all, so_far, next)

pub loop-k-preserved : goal.loop-k-preserved
loop-k-preserved c =
    let within : c.loop-k.k < length c.args.scene.now.scripts = let end = c.scripts-k-end.ensures.count in omega (arith, end) in
    let more = script-more c.args.scene.now.scripts c.loop-k.k c.script.result.now within c.script.ensures.value in
    let lines = lines-more c.args.scene.now.scripts c.loop-k.k c.script.result.now within c.script.ensures.value in
    let so_far = c.loop-k.invariant in
    let next = c.script_turns-turns.ensures in
    record { turns = omega (arith, more, so_far, next); few = omega (arith, lines, so_far, next) }
