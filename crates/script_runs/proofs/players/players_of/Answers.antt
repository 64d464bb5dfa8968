use Rattle.std.proofs.Common.{◌∙◌, List, take, map, sym, ap, subst}
use Rattle.std.proofs.lemmas.List.{take_all}
use Rattle.script_line.specs.Scripts.{ScriptData}
use Rattle.client_api.specs.Players.{Played}
use Rattle.script_runs.specs.Progress.{AreBegun, scripts_of}
use Rattle.script_runs.proofs.Listed.{there}
use Rattle.script_runs.proofs.Made.{are_begun, are_theirs, playable_at}
use Rattle.script_runs.proofs.players.players_of.Goals as goal

pub new-requires : goal.new-requires
new-requires c =
    playable_at c.args.scripts.now c.loop-script.script-index c.script-item.result c.requires
    (there c.args.scripts.now c.loop-script.script-index c.script-item.result c.loop-script-test.true c.script-item.is)

pub returns-clause-begun : goal.returns-clause-begun
returns-clause-begun c =
    subst (λ (l : List Played). AreBegun l) (sym c.loop-script.invariant) (are_begun (take c.loop-script.script-index c.args.scripts.now))

pub returns-clause-scripts : goal.returns-clause-scripts
returns-clause-scripts c =
    ap (λ (l : List Played). scripts_of l) c.loop-script.invariant
    ∙ (are_theirs (take c.loop-script.script-index c.args.scripts.now)
    ∙ ap (λ (l : List ScriptData). map (λ s. s.lines) l) (take_all c.loop-script.script-index c.args.scripts.now c.loop-script-test.false))
