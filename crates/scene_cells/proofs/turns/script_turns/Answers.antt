use Rattle.std.proofs.Common.{◌<◌, length, arith}
use Rattle.scene_cells.proofs.TurnSums.{line-more}
use Rattle.scene_cells.proofs.turns.script_turns.Goals as goal

pub loop-k-preserved : goal.loop-k-preserved
loop-k-preserved c =
    let within : c.loop-k.k < length c.args.script.now.lines = let end = c.len-k-end.ensures in omega (arith, end) in
    let more = line-more c.args.script.now.lines c.loop-k.k c.line.result.now within c.line.ensures in
    let so_far = c.loop-k.invariant in
    let next = c.line_turns-turns.ensures in
    record { turns = omega (arith, more, so_far, next); few = omega (arith, so_far, next) }
