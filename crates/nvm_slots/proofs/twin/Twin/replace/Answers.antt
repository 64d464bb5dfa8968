use Rattle.std.proofs.Common.{◌≡◌, ◌-◌, ◌%◌, true, false, IfSome, OnErr, Result, Ok, Err, rules, arith}
use Rattle.power_loss.specs.Due.{is_due}
use Rattle.nvm_slots.proofs.Replacing.{both_written, first_lost, second_lost, other_of}
use Rattle.nvm_slots.proofs.twin.Twin.replace.Goals as goal

on_err : {T E P : Type 0} → (r : Result T E) → P → OnErr r P
on_err (Ok x) p = tt
on_err (Err e) p = p

pub returns-in_err-write-clause-lost : goal.returns-in_err-write-clause-lost
returns-in_err-write-clause-lost g c =
    let s = g.N.Nvm.state c.args.nvm.now in
    let byte = c.selector_byte-byte.result in
    let now : IfSome s.power.due (λ due. is_due 1 due ≡ true) = search rules in
    on_err c.from_residual.result (first_lost c.args.self.now c.args.bytes.now s c.requires.record_in c.requires.disjoint c.requires.fits (1 - byte % 2) (omega arith)
    (g.met.N.Nvm.row_size c.args.nvm.now) (other_of s.bytes c.args.self.now byte c.selector_byte-byte.ensures) (g.N.Nvm.state c.write.new.self) c.in_err-write.ensures.lost now)

pub returns-in_err-write-2-clause-lost : goal.returns-in_err-write-2-clause-lost
returns-in_err-write-2-clause-lost g c =
    let s = g.N.Nvm.state c.args.nvm.now in
    let byte = c.selector_byte-byte.result in
    let kept : IfSome s.power.due (λ due. is_due 1 due ≡ false) = search rules in
    on_err c.from_residual-in_err-write-2.result (second_lost c.args.self.now c.args.bytes.now s c.requires.record_in c.requires.disjoint c.requires.fits (1 - byte % 2) (omega arith)
    (g.met.N.Nvm.row_size c.args.nvm.now) (other_of s.bytes c.args.self.now byte c.selector_byte-byte.ensures) (g.N.Nvm.state c.write.new.self) (g.N.Nvm.state c.write-2.new.self) c.in_ok-write.ensures.ok c.in_err-write-2.ensures.lost kept)

pub returns-clause-ok : goal.returns-clause-ok
returns-clause-ok g c =
    let s = g.N.Nvm.state c.args.nvm.now in
    let byte = c.selector_byte-byte.result in
    let kept : IfSome s.power.due (λ due. is_due 1 due ≡ false) = search rules in
    both_written c.args.self.now c.args.bytes.now s c.requires.record_in c.requires.disjoint c.requires.fits (1 - byte % 2) (omega arith)
    (g.met.N.Nvm.row_size c.args.nvm.now) (other_of s.bytes c.args.self.now byte c.selector_byte-byte.ensures) (g.N.Nvm.state c.write.new.self) (g.N.Nvm.state c.write-2.new.self) c.in_ok-write.ensures.ok c.in_ok-write-2.ensures.ok kept
