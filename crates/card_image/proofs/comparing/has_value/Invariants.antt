use Rattle.std.proofs.Common.{◌*◌}
use Rattle.card_image.specs.Images.{IfKeeps, object_in}
use Rattle.card_image.proofs.Compared.{SameTo}
use Rattle.card_image.proofs.comparing.has_value.Given as goal

abbrev pub invariant-loop-number : goal.invariant-loop-number
invariant-loop-number g l = IfKeeps g.O.Objects.form (g.N.Nvm.state l.nvm) (λ row. SameTo (64 * l.number) (object_in g.O.Objects.form row l.place) l.value)
