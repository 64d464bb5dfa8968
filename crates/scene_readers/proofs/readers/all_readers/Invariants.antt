use Rattle.std.proofs.Common.{◌≡◌, take}
use Rattle.scene_readers.specs.SceneNames.{names_of}
use Rattle.scene_readers.proofs.readers.all_readers.Given as goal

abbrev pub invariant-loop-card : goal.invariant-loop-card
invariant-loop-card l = l.readers ≡ names_of (take l.card l.scene.cards)
