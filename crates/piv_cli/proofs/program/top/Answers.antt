use Rattle.std.proofs.Common.{◌≤◌, length, ap, arith}
use Rattle.piv_scene.specs.SceneValues.{SceneValue}
use Rattle.piv_cli.proofs.DeviceLaws.{others-more}
use Rattle.piv_cli.proofs.program.top.Goals as goal

pub returns-in-Ok-clause-beyond_eight : goal.returns-in-Ok-clause-beyond_eight
returns-in-Ok-clause-beyond_eight g c =
    let few : length c.in-Ok.scene.cards ≤ 8 =
    omega (arith, ap (λ (s : SceneValue). length s.cards) c.scene.view_is, c.scene.invariant.few_cards) in
    others-more (length c.in-Ok.scene.cards) 8 c.args.devices.now.items c.at_once.new.devices.items few c.at_once.ensures.others
