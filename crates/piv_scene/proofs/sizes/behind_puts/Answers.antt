use Rattle.std.proofs.Common.{◌<◌, ◌+◌, length, arith}
use Rattle.piv_scene.proofs.SizeLaws.{puts-more, puts-within}
use Rattle.piv_scene.proofs.sizes.behind_puts.Goals as goal

pub returns-then-size-left : goal.returns-then-size-left
returns-then-size-left c =
    let within : c.loop-k.k < length c.args.script.now.lines = let end = c.len-k-end.ensures in omega (arith, end) in
    let more = puts-more c.args.script.now.lines c.loop-k.k c.line.result.now within c.line.ensures in
    let whole = puts-within c.args.script.now.lines (c.loop-k.k + 1) in
    let size = c.put_size-size.ensures in
    let left = c.loop-k.invariant in
    omega (arith, more, whole, size, left)

pub loop-k-preserved : goal.loop-k-preserved
loop-k-preserved c =
    let within : c.loop-k.k < length c.args.script.now.lines = let end = c.len-k-end.ensures in omega (arith, end) in
    let more = puts-more c.args.script.now.lines c.loop-k.k c.line.result.now within c.line.ensures in
    let size = c.put_size-size.ensures in
    let left = c.loop-k.invariant in
    let fits = c.if-size-left.false in
    omega (arith, more, size, left, fits)
