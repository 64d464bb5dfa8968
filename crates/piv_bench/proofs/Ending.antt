-- What the scripts did, by what the port stands for.
use Rattle.std.specs.Prelude.{OnOk}
use Rattle.std.proofs.Common.{◌≡◌, ℕ, Bool, List, length, Result, Ok, Err, sym, ap, subst, ◌∙◌, arith}
use Rattle.std.proofs.lemmas.List.{length-map}
use Rattle.piv_model.specs.declared.store.Store.{Ghosts}
use Rattle.script_line.specs.Scripts.{ScriptData}
use Rattle.piv_rules.specs.Acts.{Records}
use Rattle.block_store.specs.Blocks.{block_form}
use Rattle.client_api.specs.Players.{Played}
use Rattle.client_api.specs.Ports.{AreInside}
use Rattle.client_api.specs.Readers.{Names}
use Rattle.piv_scene.specs.SceneValues.{SceneValue}
use Rattle.scene_readers.specs.SceneNames.{names_of}
use Rattle.card_cell.specs.declared.base.CellBase.{CellBase}
use Rattle.card_cell.specs.declared.cell.CardCell.{CardCell}
use Rattle.script_runs.specs.Runs.{Answered, Run, Scheduled, Scripts, log_of}
use Rattle.script_runs.specs.Turns.{HasTurns, all_turns}
use Rattle.script_runs.specs.Progress.{Ran, answers_of, scripts_of}
use Rattle.cell_port.specs.Owned.{HoldAll, OwnerStandsFor, turns_at}
use Rattle.cell_port.specs.OwnedLaws.{found, turns-held}
use Rattle.scene_cells.specs.Turns.{scene_turns}
use Rattle.scene_runs.specs.CardRuns.{HaveTurns, lines_of}
use Rattle.scene_runs.proofs.Lines.{turns-of-all}
use Rattle.piv_bench.specs.Played.{PlayedOn}

-- ---- turns for all lines

pub enough-turns : {S T : Type 0} {meaning : Ghosts S T} (put_cost : ℕ → ℕ) (scripts : List ScriptData) (cells : List (CardCell S T meaning)) (bases : List CellBase)
    (records : ℕ → Records) → HoldAll put_cost cells bases records → HaveTurns (scene_turns scripts) bases
    → HasTurns (length cells) (turns_at cells) (all_turns (lines_of scripts))
enough-turns put_cost scripts cells bases records all have card lt =
    let many = all.many in
    let base = found bases card (omega (arith, lt, many)) in
    let is = turns-held put_cost cells bases records all card base.0 base.1 in
    let turns = have card base.0 base.1 in
    let most = turns-of-all scripts in
    omega (arith, is, turns, most)

-- ---- the run

pub on-ok : {A E P Q : Type 0} (r : Result A E) → OnOk r P → (P → Q) → OnOk r Q
on-ok (Ok a) holds then = then holds
on-ok (Err e) holds then = tt

pub played-on : {S T : Type 0} {meaning : Ghosts S T} {port : Run → Type 0} {room : Type 0} (scene : SceneValue) (names : Names) (scripts : Scripts) (schedule : List ℕ)
    (players : List Played) (bases : List CellBase) (tells : List Bool) (cells : List (CardCell S T meaning)) (run : Run)
    → names ≡ names_of scene.cards → scripts ≡ lines_of scene.scripts → schedule ≡ scene.schedule → length cells ≡ length scene.cards
    → Ran names scripts schedule players port room run → room
    → OwnerStandsFor block_form.put_cost cells bases tells (log_of run) → PlayedOn scene (answers_of players) bases tells cells run
played-on scene names scripts schedule players bases tells cells run names_are scripts_are schedule_is count ran has_room stood = record {
  scripts = record {
    scheduled = subst (λ (p : Names × Scripts × List ℕ). Scheduled p.0 p.1 p.2 run) (λ i. (names_are i, scripts_are i, schedule_is i)) ran.scheduled;
    answered = subst (λ (s : Scripts). Answered s (answers_of players) run) scripts_are ran.answered;
    never_full = ran.never_full has_room;
    places = stood.places;
    inside = subst (λ (n : ℕ). AreInside n (log_of run)) count stood.inside;
  };
  held = stood.held;
  told = stood.told;
}

-- as many players as scripts
pub players-many : (scripts : Scripts) (old new : List Played) (run : Run) → scripts_of old ≡ scripts → Answered scripts (answers_of new) run
    → length new ≡ length old
players-many scripts old new run theirs answered =
    sym (length-map new (λ (p : Played). p.answers)) ∙ answered.many ∙ ap (λ (l : Scripts). length l) (sym theirs) ∙ length-map old (λ (p : Played). p.lines)
