use Rattle.std.proofs.Common.{◌∙◌, Option, List, ℕ, ap, sym}
use Rattle.std.specs.Prelude.{is_some}
use Rattle.line_words.proofs.Steps.{some_same}
use Rattle.script_line.specs.declared.line.Line.TheVariants.{Crypt}
use Rattle.piv_scene.specs.GeneratedScene.{h}
use Rattle.piv_scene.proofs.GeneratedLaws.{challenge_bytes}
use Rattle.piv_scene.proofs.generated_lines.crypt_line.Goals as goal

pub bytes-requires : goal.bytes-requires
bytes-requires c = ap (λ (o : Option (List ℕ)). is_some o) challenge_bytes

pub returns : goal.returns
returns c = ap (λ (h : List ℕ). Crypt h 0x08 0x9E c.in_ok-input.input) c.in_ok-h.ensures ∙ ap (λ (b : List ℕ). Crypt h 0x08 0x9E b) (some_same _ _ (sym c.in_ok-input.ensures ∙ challenge_bytes))
