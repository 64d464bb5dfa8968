use Rattle.std.proofs.Common.{◌≡◌, IfSome, subst, length}
use Rattle.nvm_slots.specs.Slots.{live_bytes}
use Rattle.nvm_slots.specs.declared.twin.Twin.{Twin}
use Rattle.nvm_slots.proofs.Calls.{rows_enough}
use Rattle.twin_store.proofs.Objects.{part_told}
use Rattle.twin_store.proofs.records.read_part.Goals as goal

pub returns-clause-told : goal.returns-clause-told
returns-clause-told g c =
    let s = g.N.Nvm.state c.args.nvm.now in
    part_told s.bytes c.args.place c.args.number (length c.args.out.now) c.read.new.out c.requires.place (rows_enough 1114112 s.size s.bytes c.requires.size (g.met.N.Nvm.row_size c.args.nvm.now)) (subst (λ (twin : Twin). IfSome (g.N.Nvm.state c.args.nvm.now).bytes (λ row. c.read.new.out ≡ live_bytes twin (length c.args.out.now) row)) c.part.ensures c.read.ensures)
