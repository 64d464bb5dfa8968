use Rattle.std.proofs.Common.{◌≡◌, ◌≤◌, ◌*◌, IfSome, take}
use Rattle.piv_model.specs.Memory.{blocks_used}
use Rattle.card_image.specs.Images.{KeepsObjects}
use Rattle.card_image.proofs.room.blocks_of_all.Given as goal

abbrev pub invariant-loop-place : goal.invariant-loop-place
invariant-loop-place g l = record {
  sum : IfSome (g.N.Nvm.state l.nvm).bytes (λ row. KeepsObjects g.O.Objects.form row → l.total ≡ blocks_used (take l.place (g.O.Objects.form.objects_of row)));
  few : l.total ≤ 256 * l.place;
}
