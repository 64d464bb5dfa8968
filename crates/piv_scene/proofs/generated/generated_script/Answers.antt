use Rattle.std.proofs.Common.{◌≡◌, ℕ, ◌+◌, ◌*◌, List, [], ◌∷◌, ◌++◌, map, true, sym, ap, ◌∙◌, arith}
use Rattle.std.specs.List.{range_with_len}
use Rattle.std.proofs.lemmas.List.FromFn.{map-range_with_len_more}
use Rattle.piv_model.specs.ApplicationNames.{full_aid}
use Rattle.script_line.specs.declared.line.Line.{Line}
use Rattle.script_line.specs.declared.line.Line.TheVariants.{Connect, Select}
use Rattle.script_line.specs.Scripts.{ScriptData}
use Rattle.piv_scene.specs.GeneratedScene.{h, name_of_script, reader_of_script, generated_line, word_of}
use Rattle.piv_scene.proofs.generated.generated_script.Goals as goal

pub loop-j-preserved : goal.loop-j-preserved
loop-j-preserved c =
    let j = c.loop-j.j in
    let line = c.in_ok-line.line in
    let chosen : line ≡ generated_line (word_of c.args.number (4 * j + c.args.k)) = c.in_ok-line.ensures ∙ ap generated_line c.word_of.ensures in
    let more = map-range_with_len_more (λ (i : ℕ). generated_line (word_of c.args.number (4 * i + c.args.k))) 0 j j (omega arith) in
    c.in_ok-push-3.ensures.ok
    ∙ ap (λ (s : ScriptData). record s { lines = s.lines ++ line ∷ [] }) c.loop-j.invariant
    ∙ ap (λ (ls : List Line). record { name = name_of_script c.args.k; lines = Connect h (reader_of_script c.args.k) true ∷ Select h full_aid ∷ ls })
    (ap (λ (x : Line). map (λ (i : ℕ). generated_line (word_of c.args.number (4 * i + c.args.k))) (range_with_len 0 j) ++ x ∷ []) chosen ∙ sym more)
