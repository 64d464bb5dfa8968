use Rattle.std.proofs.Common.{◌<◌, length, refl}
use Rattle.std.proofs.lemmas.Option.{slice_get_read}
use Rattle.piv_scene.proofs.SceneSound.{plan-rises}
use Rattle.piv_scene.proofs.scene.Scene.plan.Goals as goal

pub returns-clause-rises : goal.returns-clause-rises
returns-clause-rises c =
    let within : c.args.card < length c.self.inside.cards.items = rw (← c.self.view_is) at c.requires in
    plan-rises c.self.inside.cards.items c.args.card c.index.result.now c.plan.result.now c.self.invariant.cards
    (slice_get_read c.self.inside.cards.items (length c.self.inside.cards.items) c.args.card c.index.result.now refl within c.index.ensures) c.plan.ensures
