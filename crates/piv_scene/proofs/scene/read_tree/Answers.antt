use Rattle.toml.specs.View.{table_view}
use Rattle.piv_scene.proofs.SceneSound.{document-sound}
use Rattle.piv_scene.proofs.scene.read_tree.Goals as goal

pub judge-requires : goal.judge-requires
judge-requires c = document-sound (table_view c.args.doc.now) _ c.in-Ok.ensures
