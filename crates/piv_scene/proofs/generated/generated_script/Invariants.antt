use Rattle.std.proofs.Common.{◌≡◌, ◌+◌, ◌*◌, ◌∷◌, map, true}
use Rattle.std.specs.List.{range_with_len}
use Rattle.piv_model.specs.ApplicationNames.{full_aid}
use Rattle.script_line.specs.declared.line.Line.TheVariants.{Connect, Select}
use Rattle.piv_scene.specs.GeneratedScene.{h, name_of_script, reader_of_script, generated_line, word_of}
use Rattle.piv_scene.proofs.generated.generated_script.Given as goal

abbrev pub invariant-loop-j : goal.invariant-loop-j
invariant-loop-j l = l.script ≡ record {
  name = name_of_script l.k;
  lines = Connect h (reader_of_script l.k) true ∷ Select h full_aid
      ∷ map (λ i. generated_line (word_of l.number (4 * i + l.k))) (range_with_len 0 l.j);
}
