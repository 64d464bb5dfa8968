use Rattle.std.proofs.Common.{◌≡◌, IfSome, subst}
use Rattle.nvm_slots.specs.Slots.{live_bytes}
use Rattle.nvm_slots.specs.declared.twin.Twin.{Twin}
use Rattle.twin_store.proofs.Objects.{written_told}
use Rattle.twin_store.proofs.records.written_length.Goals as goal

pub returns-clause-told : goal.returns-clause-told
returns-clause-told g c = written_told (g.N.Nvm.state c.args.nvm.now).bytes c.args.place c.read.new.out (subst (λ (twin : Twin). IfSome (g.N.Nvm.state c.args.nvm.now).bytes (λ row. c.read.new.out ≡ live_bytes twin 2 row)) c.object.ensures c.read.ensures)
