-- Loops over lines and scripts.
use Rattle.std.proofs.Common.{◌≡◌, ℕ, ◌+◌, ◌<◌, ◌≤◌, List, [], ◌∷◌, ◌++◌, length, take, drop, get_or, sym, ap, ◌∙◌, arith, length-append}
use Rattle.std.proofs.lemmas.List.{take_more, take-append-drop, append-nil}
use Rattle.std.proofs.lemmas.List.Concat.{flat_map-append}
use Rattle.script_line.specs.declared.line.Line.{Line}
use Rattle.script_line.specs.Scripts.{ScriptData}
use Rattle.piv_scene.specs.SceneLimits.{all_lines}

pub lines-next : (scripts : List ScriptData) (i : ℕ) (x : ScriptData) → i < length scripts → x ≡ get_or scripts i x
    → length (all_lines (take (i + 1) scripts)) ≡ length (all_lines (take i scripts)) + length x.lines
lines-next scripts i x h at_i =
    ap (λ s. length (all_lines s)) (take_more scripts i x h ∙ ap (λ (y : ScriptData). take i scripts ++ y ∷ []) (sym at_i))
    ∙ ap length (flat_map-append (λ (s : ScriptData). s.lines) (take i scripts) (x ∷ []))
    ∙ length-append (all_lines (take i scripts)) (x.lines ++ [])
    ∙ ap (λ (l : List Line). length (all_lines (take i scripts)) + length l) (append-nil x.lines)

pub lines-within : (scripts : List ScriptData) (i : ℕ) → length (all_lines (take i scripts)) ≤ length (all_lines scripts)
lines-within scripts i =
    let cut : length (all_lines scripts) ≡ length (all_lines (take i scripts)) + length (all_lines (drop i scripts)) =
    ap (λ s. length (all_lines s)) (sym (take-append-drop i scripts)) ∙ ap length (flat_map-append (λ (s : ScriptData). s.lines) (take i scripts) (drop i scripts))
    ∙ length-append (all_lines (take i scripts)) (all_lines (drop i scripts)) in
    omega (arith, cut)
