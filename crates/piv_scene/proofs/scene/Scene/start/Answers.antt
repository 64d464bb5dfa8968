use Rattle.std.proofs.Common.{◌<◌, length, refl}
use Rattle.std.proofs.lemmas.Option.{slice_get_read}
use Rattle.piv_scene.proofs.SceneSound.{start-spells}
use Rattle.piv_scene.proofs.scene.Scene.start.Goals as goal

pub returns-clause-spells : goal.returns-clause-spells
returns-clause-spells c =
    let within : c.args.card < length c.self.inside.cards.items = rw (← c.self.view_is) at c.requires in
    start-spells c.self.inside.cards.items c.args.card c.index.result.now c.start.result.now c.self.invariant.cards
    (slice_get_read c.self.inside.cards.items (length c.self.inside.cards.items) c.args.card c.index.result.now refl within c.index.ensures) c.start.ensures
