use Rattle.std.proofs.Common.{◌≡◌, ◌+◌, ◌*◌, [], true}
use Rattle.nvm_slots.specs.Laying.{Laying}
use Rattle.card_image.specs.Laying.{objects_area}
use Rattle.twin_store.specs.Twins.{twin_pieces}
use Rattle.twin_store.proofs.laying.lay_records.Given as goal

abbrev pub invariant-loop-k : goal.invariant-loop-k
invariant-loop-k g l = record {
  laid : Laying objects_area (twin_pieces l.objects [] l.k) (256 + 32773 * l.k) (g.N.Nvm.state l.fn.nvm) (g.N.Nvm.state l.nvm);
  on : (g.N.Nvm.state l.nvm).power.on ≡ true;
  size : (g.N.Nvm.state l.nvm).size ≡ (g.N.Nvm.state l.fn.nvm).size;
}
