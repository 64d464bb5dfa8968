use Rattle.std.proofs.Common.{◌∙◌, Option, List, ℕ, ap, sym}
use Rattle.std.specs.Prelude.{is_some}
use Rattle.line_words.proofs.Steps.{some_same}
use Rattle.script_line.specs.declared.line.Line.TheVariants.{Admin}
use Rattle.piv_scene.specs.GeneratedScene.{h}
use Rattle.piv_scene.proofs.GeneratedLaws.{admin_key}
use Rattle.piv_scene.proofs.generated_lines.admin_line.Goals as goal

pub bytes-requires : goal.bytes-requires
bytes-requires c = ap (λ (o : Option (List ℕ)). is_some o) admin_key

pub returns : goal.returns
returns c = ap (λ (h : List ℕ). Admin h 0x08 c.in_ok-key.key) c.in_ok-h.ensures ∙ ap (λ (b : List ℕ). Admin h 0x08 b) (some_same _ _ (sym c.in_ok-key.ensures ∙ admin_key))
