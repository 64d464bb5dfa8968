-- The lines of a scene's scripts: their turns, and that they can be played.
use Rattle.std.specs.Prelude.{sum_by}
use Rattle.std.specs.List.{AllByRecursion}
use Rattle.std.proofs.Common.{◌≡◌, ℕ, zero, suc, ◌+◌, List, [], ◌∷◌, refl, sym, ap, subst, ◌∙◌}
use Rattle.std.proofs.lemmas.List.Sums.{sum_by-cons}
use Rattle.script_line.specs.declared.line.Line.{Line}
use Rattle.script_line.specs.Playable.{ArePlayable}
use Rattle.script_line.specs.Scripts.{ScriptData}
use Rattle.client_api.specs.Players.{line_turns}
use Rattle.piv_scene.specs.SceneValues.{IsScriptOf}
use Rattle.script_runs.specs.Turns.{AllPlayable, all_turns, script_turns}
use Rattle.scene_cells.specs.Turns.{scene_turns}
use Rattle.scene_runs.specs.CardRuns.{lines_of}

pub turns-of-all : (scripts : List ScriptData) → all_turns (lines_of scripts) ≡ scene_turns scripts
turns-of-all [] = refl
turns-of-all (s ∷ scripts) =
    sum_by-cons script_turns s.lines (lines_of scripts)
    ∙ ap (λ (n : ℕ). script_turns s.lines + n) (turns-of-all scripts)
    ∙ sym (sum_by-cons (λ (x : ScriptData). sum_by line_turns x.lines) s scripts)

pub all-playable : (cards readers : List (List ℕ)) (scripts : List ScriptData) → AllByRecursion (IsScriptOf cards readers) scripts → AllPlayable (lines_of scripts)
all-playable cards readers [] all k lines at = absurd (cc)
all-playable cards readers (s ∷ scripts) all zero lines at =
    let same : s.lines ≡ lines = cc in
    subst (λ (l : List Line). ArePlayable l) same all.0.playable
all-playable cards readers (s ∷ scripts) all (suc k) lines at = all-playable cards readers scripts all.1 k lines at
