use Rattle.std.proofs.Common.{◌≡◌, ◌==◌, true, length, sym, ◌∙◌, arith}
use Rattle.std.proofs.lemmas.Bool.Decides.{nat_tests}
use Rattle.card_image.proofs.EmptyPieces.{lays_none}
use Rattle.card_image.proofs.values.lay_value.Goals as goal

pub returns-then-is_empty-clause-laid : goal.returns-then-is_empty-clause-laid
returns-then-is_empty-clause-laid g c = let test : (length c.args.value.now == 0) ≡ true = sym c.is_empty.ensures ∙ c.if-is_empty.true in lays_none c.args.place c.args.value.now (g.N.Nvm.state c.args.nvm.now) (grind (arith, nat_tests))
