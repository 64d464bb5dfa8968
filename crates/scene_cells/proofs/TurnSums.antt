-- The turns of one line more, and of one script more.
use Rattle.std.specs.Prelude.{slice_get, sum_by}
use Rattle.std.proofs.Common.{◌≡◌, ℕ, ◌+◌, ◌<◌, ◌≤◌, List, length, take, get_or, Some, sym, ap, ◌∙◌, arith}
use Rattle.std.proofs.lemmas.List.Sums.{sum_by_more}
use Rattle.std.proofs.lemmas.List.Concat.{length-flat_map}
use Rattle.std.proofs.lemmas.List.Folds.{length-flat_map-take}
use Rattle.std.proofs.lemmas.Option.{get_or_from_slice_get}
use Rattle.script_line.specs.declared.line.Line.{Line}
use Rattle.script_line.specs.Scripts.{ScriptData}
use Rattle.client_api.specs.Players.{line_turns}
use Rattle.piv_scene.specs.SceneLimits.{all_lines}
use Rattle.scene_cells.specs.Turns.{scene_turns}

pub line-more : (lines : List Line) (k : ℕ) (x : Line) → k < length lines → slice_get lines k ≡ Some x
    → sum_by line_turns (take (k + 1) lines) ≡ sum_by line_turns (take k lines) + line_turns x
line-more lines k x h at =
    sum_by_more line_turns lines k x h ∙ ap (λ (l : Line). sum_by line_turns (take k lines) + line_turns l) (get_or_from_slice_get lines k x x at)

pub script-more : (scripts : List ScriptData) (k : ℕ) (x : ScriptData) → k < length scripts → slice_get scripts k ≡ Some x
    → scene_turns (take (k + 1) scripts) ≡ scene_turns (take k scripts) + sum_by line_turns x.lines
script-more scripts k x h at =
    sum_by_more (λ (s : ScriptData). sum_by line_turns s.lines) scripts k x h
    ∙ ap (λ (s : ScriptData). scene_turns (take k scripts) + sum_by line_turns s.lines) (get_or_from_slice_get scripts k x x at)

-- and their lines
pub lines-more : (scripts : List ScriptData) (k : ℕ) (x : ScriptData) → k < length scripts → slice_get scripts k ≡ Some x
    → length (all_lines (take (k + 1) scripts)) ≡ length (all_lines (take k scripts)) + length x.lines
lines-more scripts k x h at =
    length-flat_map (λ (s : ScriptData). s.lines) (take (k + 1) scripts)
    ∙ sum_by_more (λ (s : ScriptData). length s.lines) scripts k x h
    ∙ ap (λ (s : ScriptData). sum_by (λ (s : ScriptData). length s.lines) (take k scripts) + length s.lines) (get_or_from_slice_get scripts k x x at)
    ∙ ap (λ n. n + length x.lines) (sym (length-flat_map (λ (s : ScriptData). s.lines) (take k scripts)))

pub lines-within : (scripts : List ScriptData) (k : ℕ) (x : ScriptData) → k < length scripts → slice_get scripts k ≡ Some x
    → length (all_lines (take k scripts)) + length x.lines ≤ length (all_lines scripts)
lines-within scripts k x h at =
    let all = length-flat_map-take (λ (s : ScriptData). s.lines) scripts k x h in
    let here : length (get_or scripts k x).lines ≡ length x.lines = ap (λ (s : ScriptData). length s.lines) (get_or_from_slice_get scripts k x x at) in
    omega (arith, all, here)
