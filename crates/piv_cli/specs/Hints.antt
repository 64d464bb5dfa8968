-- What a hint says (this project's own).
use Rattle.std.specs.Prelude.{ℕ, List, ◌++◌, codes}
use Rattle.std.specs.Fmt.{decimal}
use Rattle.piv_cli.specs.declared.hint.Hint.{Hint}
use Rattle.piv_cli.specs.declared.hint.Hint.TheVariants as hint

abbrev pub hint_text : Hint → List ℕ
hint_text (hint.Text text) = text.now
hint_text (hint.Card card) = codes "card " ++ decimal card
hint_text (hint.Script script) = codes "script " ++ decimal script
hint_text (hint.Line script line) = codes "script " ++ decimal script ++ codes ", line " ++ decimal line
