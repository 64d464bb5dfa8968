use Rattle.std.proofs.Common.{[], ◌++◌, map, sym, ap, subst, ◌∙◌}
use Rattle.block_store.specs.Blocks.{block_form}
use Rattle.card_cell.specs.Cells.{history_of}
use Rattle.cell_port.specs.Owned.{HoldAll}
use Rattle.scene_cells.specs.Cells.{device_in}
use Rattle.scene_cells.specs.Raised.{cell_bases}
use Rattle.scene_cells.specs.Turns.{scene_turns}
use Rattle.scene_runs.proofs.Sizes.{sizes-front}
use Rattle.scene_runs.proofs.Standing.{front-dropped, front-many}
use Rattle.piv_runners.specs.Played.{AreLeftTogether}
use Rattle.piv_runners.proofs.Leaving.{known, left-together}
use Rattle.piv_runners.proofs.threaded.run_raised.Goals as goal

pub play_on-cells-requires-clause-held : goal.play_on-cells-requires-clause-held
play_on-cells-requires-clause-held g c κs within =
    subst (λ losses. HoldAll block_form.put_cost c.args.raised.cells.items
    (cell_bases (scene_turns c.args.scene.now.scripts) c.args.scene.now.cards losses) (λ k. [])) (sym c.deref.ensures.value) c.requires.held

pub returns-in-Ok-clause-ran : goal.returns-in-Ok-clause-ran
returns-in-Ok-clause-ran g c =
    let r = known _ c.play_on-cells.result.1 c.in-Ok.answers c.in-Ok.is c.play_on-cells.ensures.played in (
      r.0,
      r.1,
      subst (λ losses. AreLeftTogether g.N.Nvm.state c.args.scene.now (cell_bases (scene_turns c.args.scene.now.scripts) c.args.scene.now.cards losses)
          c.hand_back.new.devices.items (map (λ answers. answers.items) c.in-Ok.answers.items) (map (λ h. h.past) c.hand_back.new.histories.items) r.0 r.1)
          c.deref.ensures.value
          (left-together g.N.Nvm.state (λ cell. device_in cell) c.args.scene.now
          (cell_bases (scene_turns c.args.scene.now.scripts) c.args.scene.now.cards c.deref.result.now) c.play_on-cells.result.0.items
          (map (λ answers. answers.items) c.in-Ok.answers.items) r.0 r.1 r.2 c.hand_back.ensures.left c.hand_back.new.devices.items c.args.devices.now.items
          (map (λ h. h.past) c.hand_back.new.histories.items) c.hand_back.ensures.devices
          (c.hand_back.ensures.histories ∙ ap (λ hs. map (λ cell. history_of cell) c.play_on-cells.result.0.items ++ map (λ h. h.past) hs) c.requires.empty)),
    )

pub returns-in-Ok-clause-many : goal.returns-in-Ok-clause-many
returns-in-Ok-clause-many g c =
    front-many (λ cell. device_in cell) c.play_on-cells.result.0.items c.args.raised.cells.items c.args.devices.now.items c.hand_back.new.devices.items
    c.hand_back.ensures.devices (c.play_on-cells.ensures.many ∙ sym c.requires.many)

pub returns-in-Ok-clause-others : goal.returns-in-Ok-clause-others
returns-in-Ok-clause-others g c =
    front-dropped (λ cell. device_in cell) c.play_on-cells.result.0.items c.args.raised.cells.items c.args.devices.now.items c.hand_back.new.devices.items
    c.hand_back.ensures.devices (c.play_on-cells.ensures.many ∙ sym c.requires.many)

pub returns-in-Ok-clause-sizes : goal.returns-in-Ok-clause-sizes
returns-in-Ok-clause-sizes g c =
    sizes-front g.N.Nvm.state (λ cell. device_in cell) c.play_on-cells.result.0.items c.args.devices.now.items c.hand_back.new.devices.items
    c.hand_back.ensures.devices c.hand_back.ensures.sizes

pub returns-clause-many : goal.returns-clause-many
returns-clause-many g c =
    front-many (λ cell. device_in cell) c.play_on-cells.result.0.items c.args.raised.cells.items c.args.devices.now.items c.hand_back.new.devices.items
    c.hand_back.ensures.devices (c.play_on-cells.ensures.many ∙ sym c.requires.many)

pub returns-clause-others : goal.returns-clause-others
returns-clause-others g c =
    front-dropped (λ cell. device_in cell) c.play_on-cells.result.0.items c.args.raised.cells.items c.args.devices.now.items c.hand_back.new.devices.items
    c.hand_back.ensures.devices (c.play_on-cells.ensures.many ∙ sym c.requires.many)

pub returns-clause-sizes : goal.returns-clause-sizes
returns-clause-sizes g c =
    sizes-front g.N.Nvm.state (λ cell. device_in cell) c.play_on-cells.result.0.items c.args.devices.now.items c.hand_back.new.devices.items
    c.hand_back.ensures.devices c.hand_back.ensures.sizes
