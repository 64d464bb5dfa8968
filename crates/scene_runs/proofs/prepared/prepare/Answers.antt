use Rattle.std.proofs.Common.{List, map, sym, subst}
use Rattle.script_line.specs.Scripts.{ScriptData}
use Rattle.script_runs.specs.Turns.{AllPlayable}
use Rattle.scene_runs.proofs.Lines.{all-playable}
use Rattle.scene_runs.proofs.prepared.prepare.Goals as goal

pub players_of-requires : goal.players_of-requires
players_of-requires c =
    subst (λ (scripts : List ScriptData). AllPlayable (map (λ s. s.lines) scripts)) (sym c.all_scripts.ensures)
    (all-playable _ _ c.args.scene.now.scripts c.holds.ensures.scripts)
