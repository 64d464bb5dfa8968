use Rattle.std.proofs.Common.{ℕ, List, [], length, sym, ap, subst, ◌∙◌}
use Rattle.block_store.specs.Blocks.{block_form}
use Rattle.client_api.specs.Players.{AreNamesOn}
use Rattle.card_cell.specs.declared.base.CellBase.{CellBase}
use Rattle.cell_port.specs.Owned.{HoldAll}
use Rattle.scene_cells.specs.Turns.{scene_turns}
use Rattle.scene_runs.proofs.Holding.{length-bases}
use Rattle.scene_runs.proofs.Lines.{all-playable}
use Rattle.piv_runners.proofs.Playing.{cells-many, played-over}
use Rattle.piv_runners.proofs.play.play_on.Goals as goal

pub returns-in_default-clause-many : goal.returns-in_default-clause-many
returns-in_default-clause-many g c = cells-many c.args.scene.now c.args.losses.now c.args.cells.items (λ k. []) c.requires.counts c.requires.held

pub play_at_once-requires-clause-held : goal.play_at_once-requires-clause-held
play_at_once-requires-clause-held g c κs within =
    subst (λ (bases : List CellBase). HoldAll block_form.put_cost c.args.cells.items bases (λ k. [])) (sym (c.deref.ensures.value ∙ c.in-Ok.ensures)) c.requires.held

pub play_at_once-requires-clause-names : goal.play_at_once-requires-clause-names
play_at_once-requires-clause-names g c κs within =
    subst (λ (n : ℕ). AreNamesOn n c.args.prepared.readers)
    (sym (ap (λ (bases : List CellBase). length bases) (c.deref.ensures.value ∙ c.in-Ok.ensures)
    ∙ length-bases (scene_turns c.args.scene.now.scripts) c.args.scene.now.cards c.args.losses.now c.requires.counts)) c.requires.on

pub returns-in-Ok-play_at_once-clause-many : goal.returns-in-Ok-play_at_once-clause-many
returns-in-Ok-play_at_once-clause-many g c =
    let run = c.in-Ok-play_at_once.ensures.ok in
    cells-many c.args.scene.now c.args.losses.now c.in-Ok-play_at_once.field-0.cells.items run.0 c.requires.counts
    (subst (λ (bases : List CellBase). HoldAll block_form.put_cost c.in-Ok-play_at_once.field-0.cells.items bases run.0) (c.deref.ensures.value ∙ c.in-Ok.ensures) run.2.held)

pub returns-in-Ok-play_at_once-clause-played : goal.returns-in-Ok-play_at_once-clause-played
returns-in-Ok-play_at_once-clause-played g c =
    played-over c.args.scene.now c.args.losses.now c.in-Ok-play_at_once.field-0.cells.items _ c.args.prepared.readers _ c.deref.result.now
    c.requires.names c.requires.scripts (c.deref.ensures.value ∙ c.in-Ok.ensures) (all-playable _ _ c.args.scene.now.scripts c.holds.ensures.scripts)
    c.in-Ok-play_at_once.ensures.ok

pub returns-clause-many : goal.returns-clause-many
returns-clause-many g c =
    let run = c.in-Err.ensures.err in
    cells-many c.args.scene.now c.args.losses.now c.in-Err.cells.items run.0 c.requires.counts
    (subst (λ (bases : List CellBase). HoldAll block_form.put_cost c.in-Err.cells.items bases run.0) (c.deref.ensures.value ∙ c.in-Ok.ensures) run.1)
