use Rattle.std.specs.Prelude.{filter}
use Rattle.std.proofs.Common.{◌≡◌, take}
use Rattle.piv_cli.specs.Lines.{counts}
use Rattle.piv_cli.proofs.hexadecimal.copy_without_blanks.Given as goal

abbrev pub invariant-loop-b : goal.invariant-loop-b
invariant-loop-b l = l.text.items ≡ filter counts (take l.b-index l.line)
