use Rattle.std.proofs.Common.{◌≡◌, IfSome, subst, length}
use Rattle.nvm_slots.specs.Slots.{live_bytes}
use Rattle.nvm_slots.specs.declared.twin.Twin.{Twin}
use Rattle.nvm_slots.proofs.Calls.{rows_enough}
use Rattle.twin_store.proofs.Objects.{filled_told, not_filled}
use Rattle.twin_store.proofs.records.fill_value.Goals as goal

pub returns-then-out-le-LONGEST_OBJECT : goal.returns-then-out-le-LONGEST_OBJECT
returns-then-out-le-LONGEST_OBJECT g c =
    let s = g.N.Nvm.state c.args.nvm.now in
    filled_told s.bytes c.args.place (length c.args.out.now) c.read.new.out c.requires.place c.if-out-le-LONGEST_OBJECT.true (rows_enough 1114112 s.size s.bytes c.requires.size (g.met.N.Nvm.row_size c.args.nvm.now)) (subst (λ (twin : Twin). IfSome (g.N.Nvm.state c.args.nvm.now).bytes (λ row. c.read.new.out ≡ live_bytes twin (length c.args.out.now) row)) c.value.ensures c.read.ensures)

pub returns-else-out-le-LONGEST_OBJECT : goal.returns-else-out-le-LONGEST_OBJECT
returns-else-out-le-LONGEST_OBJECT g c =
    let s = g.N.Nvm.state c.args.nvm.now in
    not_filled s.bytes c.args.place (length c.args.out.now) c.args.out.now c.requires.place c.if-out-le-LONGEST_OBJECT.false (rows_enough 1114112 s.size s.bytes c.requires.size (g.met.N.Nvm.row_size c.args.nvm.now))
