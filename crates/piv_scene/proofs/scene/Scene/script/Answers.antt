use Rattle.std.proofs.Common.{◌<◌, length, refl}
use Rattle.std.proofs.lemmas.Option.{slice_get_read}
use Rattle.piv_scene.specs.SceneValues.{names_of_cards, names_of_readers}
use Rattle.piv_scene.proofs.SceneSound.{script-plays}
use Rattle.piv_scene.proofs.scene.Scene.script.Goals as goal

pub returns-clause-playable : goal.returns-clause-playable
returns-clause-playable c =
    let within : c.args.k < length c.self.inside.scripts.items = rw (← c.self.view_is) at c.requires in
    script-plays (names_of_cards c.self.inside.cards.items) (names_of_readers c.self.inside.cards.items) c.self.inside.scripts.items c.args.k c.index.result.now
    c.self.invariant.scripts
    (slice_get_read c.self.inside.scripts.items (length c.self.inside.scripts.items) c.args.k c.index.result.now refl within c.index.ensures)
