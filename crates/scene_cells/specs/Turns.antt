-- The turns of a scene's cells (this project's own).
use Rattle.std.specs.Prelude.{ℕ, List, sum_by}
use Rattle.script_line.specs.Scripts.{ScriptData}
use Rattle.client_api.specs.Players.{line_turns}

-- those that the lines of all scripts make at most
abbrev pub scene_turns : List ScriptData → ℕ
scene_turns scripts = sum_by (λ s. sum_by line_turns s.lines) scripts
