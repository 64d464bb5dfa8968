use Rattle.std.proofs.Common.{◌∙◌, Option, List, ℕ, ap, sym}
use Rattle.std.specs.Prelude.{is_some}
use Rattle.line_words.proofs.Steps.{some_same}
use Rattle.script_line.specs.declared.line.Line.TheVariants.{Login}
use Rattle.piv_scene.specs.GeneratedScene.{h}
use Rattle.piv_scene.proofs.GeneratedLaws.{wrong_login}
use Rattle.piv_scene.proofs.generated_lines.wrong_login.Goals as goal

pub bytes-requires : goal.bytes-requires
bytes-requires c = ap (λ (o : Option (List ℕ)). is_some o) wrong_login

pub returns : goal.returns
returns c = ap (λ (h : List ℕ). Login h c.in_ok-auth.auth) c.in_ok-h.ensures ∙ ap (λ (b : List ℕ). Login h b) (some_same _ _ (sym c.in_ok-auth.ensures ∙ wrong_login))
