-- What the scripts did on the cells, by what the run in threads has.
use Rattle.std.proofs.Common.{◌≡◌, ℕ, List, length, ap, subst, ◌∙◌, arith}
use Rattle.std.proofs.lemmas.List.{length-map}
use Rattle.piv_model.specs.declared.answers.ApiAnswer.{ApiAnswer}
use Rattle.piv_model.specs.declared.store.Store.{Ghosts}
use Rattle.script_line.specs.Scripts.{ScriptData}
use Rattle.piv_rules.specs.Acts.{Records}
use Rattle.block_store.specs.Blocks.{block_form}
use Rattle.client_api.specs.Playing.{Move}
use Rattle.client_api.specs.Readers.{Names}
use Rattle.piv_scene.specs.SceneValues.{SceneValue}
use Rattle.scene_readers.specs.SceneNames.{names_of}
use Rattle.card_cell.specs.declared.base.CellBase.{CellBase}
use Rattle.card_cell.specs.declared.cell.CardCell.{CardCell}
use Rattle.script_runs.specs.Runs.{Scripts}
use Rattle.script_runs.specs.Turns.{AllPlayable, HasTurns, all_turns}
use Rattle.cell_port.specs.Owned.{HoldAll}
use Rattle.cell_port.specs.OwnedLaws.{found}
use Rattle.threaded_runs.specs.AtOnce.{HasRun, card_turns, turns_with}
use Rattle.scene_cells.specs.Raised.{cell_bases}
use Rattle.scene_cells.specs.Turns.{scene_turns}
use Rattle.scene_runs.specs.CardRuns.{HaveTurns, lines_of}
use Rattle.scene_runs.proofs.Holding.{have-turns, length-bases}
use Rattle.scene_runs.proofs.Lines.{turns-of-all}
use Rattle.piv_runners.specs.Played.{PlayedOver}

has-turns : (turns : ℕ) (bases : List CellBase) (most : ℕ) → HaveTurns turns bases → most ≡ turns → HasTurns (length bases) (card_turns bases) most
has-turns turns bases most have same card lt =
    let base = found bases card lt in
    let is = have card base.0 base.1 in
    let at : card_turns bases card ≡ base.0.turns = ap turns_with base.1 in
    omega (arith, is, at, same)

-- there are records and shares of such a run
abbrev pub Plays : {S T : Type 0} {meaning : Ghosts S T} → SceneValue → List CellBase → List (CardCell S T meaning) → List (List ApiAnswer) → Type 0
Plays scene bases cells answers = (records : ℕ → Records) × (shares : ℕ → List Move) × PlayedOver scene bases cells answers records shares

module _ {S T : Type 0} {meaning : Ghosts S T} (scene : SceneValue) (losses : List ℕ) (cells : List (CardCell S T meaning)) where
  abbrev bases : List CellBase
  bases = cell_bases (scene_turns scene.scripts) scene.cards losses

  pub played-over : (answers : List (List ApiAnswer)) (names : Names) (scripts : Scripts) (given : List CellBase)
      → names ≡ names_of scene.cards → scripts ≡ lines_of scene.scripts → given ≡ bases → AllPlayable (lines_of scene.scripts)
      → HasRun block_form.put_cost names scripts given cells answers → Plays scene bases cells answers
  played-over answers names scripts given names_are scripts_are given_are playable run =
      let r = subst (λ (p : Names × Scripts × List CellBase). HasRun block_form.put_cost p.0 p.1 p.2 cells answers) (λ i. (names_are i, scripts_are i, given_are i)) run in
      let turns = has-turns (scene_turns scene.scripts) bases (all_turns (lines_of scene.scripts)) (have-turns (scene_turns scene.scripts) scene.cards losses) (turns-of-all scene.scripts) in (
        r.0,
        r.1,
        record {
          scripts = record {
            shared = r.2.shared;
            never_full = λ k lt. r.2.never_full playable turns k (let n = length-map scene.scripts (λ (s : ScriptData). s.lines) in omega (arith, n, lt));
          };
          held = r.2.held;
        },
      )

  -- a cell for each card, whatever the cells hold
  pub cells-many : (records : ℕ → Records) → length losses ≡ length scene.cards → HoldAll block_form.put_cost cells bases records → length cells ≡ length scene.cards
  cells-many records counts held = held.many ∙ length-bases (scene_turns scene.scripts) scene.cards losses counts
