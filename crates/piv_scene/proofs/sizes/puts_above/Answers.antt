use Rattle.std.proofs.Common.{◌<◌, sym, arith, ◌+◌}
use Rattle.std.proofs.lemmas.Bool.{lt-ltb}
use Rattle.piv_scene.specs.SceneLimits.{puts, all_lines}
use Rattle.piv_scene.proofs.SizeLaws.{puts-next, puts_scripts-within}
use Rattle.piv_scene.proofs.sizes.puts_above.Goals as goal

pub returns-in-None : goal.returns-in-None
returns-in-None c =
    let next = puts-next c.args.scripts.now c.loop-script.script-index c.script-item.result c.loop-script-test.true c.script-item.is in
    let within = puts_scripts-within c.args.scripts.now (c.loop-script.script-index + 1) in
    let left = c.loop-script.invariant in
    let short : c.loop-script.left < puts c.script-item.result.lines = c.in-None.ensures in
    let more : c.args.most < puts (all_lines c.args.scripts.now) = omega (arith, next, within, left, short) in
    sym (lt-ltb c.args.most (puts (all_lines c.args.scripts.now)) more)
