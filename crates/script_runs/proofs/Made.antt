-- Players that are made of scripts, and their answers that are handed over.
use Rattle.std.specs.Prelude.{slice_get}
use Rattle.std.proofs.Common.{◌≡◌, ℕ, List, [], ◌∷◌, map, Some, refl, ap}
use Rattle.script_line.specs.declared.line.Line.{Line}
use Rattle.script_line.specs.Scripts.{ScriptData}
use Rattle.script_line.specs.Playable.{ArePlayable}
use Rattle.client_api.specs.Players.{Played}
use Rattle.script_runs.specs.Progress.{begun, scripts_of, AreBegun}
use Rattle.script_runs.specs.Turns.{AllPlayable}
use Rattle.script_runs.proofs.Listed.{mapped}

pub are_begun : (scripts : List ScriptData) → AreBegun (map (λ s. begun s.lines) scripts)
are_begun [] = refl
are_begun (s ∷ scripts) = ap (λ (l : List Played). begun s.lines ∷ l) (are_begun scripts)

pub are_theirs : (scripts : List ScriptData) → scripts_of (map (λ s. begun s.lines) scripts) ≡ map (λ s. s.lines) scripts
are_theirs [] = refl
are_theirs (s ∷ scripts) = ap (λ (l : List (List Line)). s.lines ∷ l) (are_theirs scripts)

pub playable_at : (scripts : List ScriptData) (k : ℕ) (s : ScriptData) → AllPlayable (map (λ s. s.lines) scripts) → slice_get scripts k ≡ Some s → ArePlayable s.lines
playable_at scripts k s all e = all k s.lines (mapped (λ (z : ScriptData). z.lines) scripts k s e)
