use Rattle.std.proofs.Common.{◌≤◌, length, ap, arith}
use Rattle.piv_scene.specs.SceneValues.{SceneValue}
use Rattle.piv_cli.proofs.DeviceLaws.{others-more, ready-sizes}
use Rattle.piv_cli.proofs.program.plain.Goals as goal

pub returns-in-None-clause-sizes : goal.returns-in-None-clause-sizes
returns-in-None-clause-sizes g c = ready-sizes g.N.Nvm.state c.args.devices.now.items c.requires

pub returns-in-Some-Help-clause-sizes : goal.returns-in-Some-Help-clause-sizes
returns-in-Some-Help-clause-sizes g c = ready-sizes g.N.Nvm.state c.args.devices.now.items c.requires

pub returns-in-Some-Version-clause-sizes : goal.returns-in-Some-Version-clause-sizes
returns-in-Some-Version-clause-sizes g c = ready-sizes g.N.Nvm.state c.args.devices.now.items c.requires

pub returns-in-Ok-clause-beyond_eight : goal.returns-in-Ok-clause-beyond_eight
returns-in-Ok-clause-beyond_eight g c =
    let few : length c.in-Ok.scene.cards ≤ 8 =
    omega (arith, ap (λ (s : SceneValue). length s.cards) c.scene.view_is, c.scene.invariant.few_cards) in
    others-more (length c.in-Ok.scene.cards) 8 c.args.devices.now.items c.bench.new.devices.items few c.bench.ensures.others
