use Rattle.scene_readers.specs.SceneNames.{names_of}
use Rattle.script_runs.proofs.Sharing.{shares_out}
use Rattle.scene_runs.specs.CardRuns.{lines_of}
use Rattle.piv_bench.proofs.laws.runs_share_out.Goals as goal

pub returns : goal.returns
returns c scene answers run ran =
    shares_out (names_of scene.cards) (lines_of scene.scripts) scene.schedule answers run ran.scheduled ran.answered ran.places
