use Rattle.std.proofs.Common.{◌≡◌, true, false, IfSome}
use Rattle.power_loss.specs.Due.{is_due}
use Rattle.nvm_slots.specs.Slots.{Kept}
use Rattle.block_store.specs.Writes.{WroteParts}
use Rattle.block_store.proofs.writing.write_blocks.Given as goal

abbrev pub invariant-loop-j : goal.invariant-loop-j
invariant-loop-j g l = record {
  kept : Kept l.j (WroteParts l.j l.chosen l.value) (g.N.Nvm.state l.fn.nvm) (g.N.Nvm.state l.nvm);
  none : IfSome (g.N.Nvm.state l.fn.nvm).power.due (λ due. is_due l.j due ≡ false);
  on : (g.N.Nvm.state l.nvm).power.on ≡ true;
  size : (g.N.Nvm.state l.nvm).size ≡ (g.N.Nvm.state l.fn.nvm).size;
}
