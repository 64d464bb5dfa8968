use Rattle.std.proofs.Common.{◌++◌, map, refl, sym, ap, subst, ◌∙◌}
use Rattle.card_cell.specs.Cells.{history_of}
use Rattle.script_runs.specs.Progress.{answers_of}
use Rattle.scene_cells.specs.Cells.{device_in}
use Rattle.scene_runs.proofs.Sizes.{sizes-front}
use Rattle.scene_runs.proofs.Standing.{front-dropped, front-many, known}
use Rattle.piv_bench.specs.Played.{AreLeftAsPlanned}
use Rattle.piv_bench.proofs.Standing.{left-as-planned}
use Rattle.piv_bench.proofs.scene_run.run_raised.Goals as goal

pub returns-in-Ok-clause-ran : goal.returns-in-Ok-clause-ran
returns-in-Ok-clause-ran g c =
    let r = known c.play_on-cells.result.1 c.in-Ok.is c.play_on-cells.ensures.played in (
      r.0,
      subst (λ answers. AreLeftAsPlanned g.N.Nvm.state c.args.scene.now g.L.Beginnings.bases g.L.Beginnings.tells c.hand_back.new.devices.items
          answers (map (λ h. h.past) c.hand_back.new.histories.items) r.0) (sym c.answers_of.ensures)
          (left-as-planned g.N.Nvm.state (λ cell. device_in cell) c.args.scene.now (answers_of c.play_on-cells.new.players.items) g.L.Beginnings.bases g.L.Beginnings.tells
          c.play_on-cells.result.0.items r.0 (λ cell. refl) r.1 c.hand_back.ensures.left c.hand_back.new.devices.items c.args.devices.now.items
          (map (λ h. h.past) c.hand_back.new.histories.items) c.hand_back.ensures.devices
          (c.hand_back.ensures.histories ∙ ap (λ hs. map (λ cell. history_of cell) c.play_on-cells.result.0.items ++ map (λ h. h.past) hs) c.requires.empty)),
    )

pub returns-in-Ok-clause-many : goal.returns-in-Ok-clause-many
returns-in-Ok-clause-many g c =
    front-many (λ cell. device_in cell) c.play_on-cells.result.0.items c.args.raised.cells.items c.args.devices.now.items c.hand_back.new.devices.items
    c.hand_back.ensures.devices c.play_on-cells.ensures.many

pub returns-in-Ok-clause-others : goal.returns-in-Ok-clause-others
returns-in-Ok-clause-others g c =
    front-dropped (λ cell. device_in cell) c.play_on-cells.result.0.items c.args.raised.cells.items c.args.devices.now.items c.hand_back.new.devices.items
    c.hand_back.ensures.devices c.play_on-cells.ensures.many

pub returns-in-Ok-clause-sizes : goal.returns-in-Ok-clause-sizes
returns-in-Ok-clause-sizes g c =
    sizes-front g.N.Nvm.state (λ cell. device_in cell) c.play_on-cells.result.0.items c.args.devices.now.items c.hand_back.new.devices.items
    c.hand_back.ensures.devices c.hand_back.ensures.sizes

pub returns-clause-many : goal.returns-clause-many
returns-clause-many g c =
    front-many (λ cell. device_in cell) c.play_on-cells.result.0.items c.args.raised.cells.items c.args.devices.now.items c.hand_back.new.devices.items
    c.hand_back.ensures.devices c.play_on-cells.ensures.many

pub returns-clause-others : goal.returns-clause-others
returns-clause-others g c =
    front-dropped (λ cell. device_in cell) c.play_on-cells.result.0.items c.args.raised.cells.items c.args.devices.now.items c.hand_back.new.devices.items
    c.hand_back.ensures.devices c.play_on-cells.ensures.many

pub returns-clause-sizes : goal.returns-clause-sizes
returns-clause-sizes g c =
    sizes-front g.N.Nvm.state (λ cell. device_in cell) c.play_on-cells.result.0.items c.args.devices.now.items c.hand_back.new.devices.items
    c.hand_back.ensures.devices c.hand_back.ensures.sizes
