use Rattle.std.proofs.Common.{◌≡◌, drop, [], map}
use Rattle.piv_scene.specs.Views.{raw_view}
use Rattle.piv_scene.specs.Documents.{scripts_after}
use Rattle.piv_scene.proofs.lines.read_scripts.Given as goal

abbrev pub invariant-loop-raw : goal.invariant-loop-raw
invariant-loop-raw l =
    scripts_after l.cards [] (map raw_view l.raws)
    ≡ scripts_after l.cards l.scripts.items (map raw_view (drop l.raw-index l.raws))
