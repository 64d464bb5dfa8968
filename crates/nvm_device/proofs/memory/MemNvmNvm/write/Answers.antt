use Rattle.std.proofs.Common.{◌≡◌, ◌+◌, ℕ, List, [], length, Some, ap, ◌∙◌, sym, arith}
use Rattle.std.proofs.lemmas.List.{with_items_is}
use Rattle.std.specs.Vec.{with_items}
use Rattle.std.specs.declared.vec.Vec.{Vec}
use Rattle.nvm_device.specs.Bytes.{overwrite, filled_up}
use Rattle.nvm_device.proofs.Row.{length-overwrite}
use Rattle.nvm_device.proofs.FilledUp.{length-filled_up-any, overwrite-filled_up-to, length-overwrite-filled_up}
use Rattle.nvm_device.proofs.memory.MemNvmNvm.write.Goals as goal

pub copy_in-requires : goal.copy_in-requires
copy_in-requires c =
    let long = length-filled_up-any c.args.self.now.row.items (c.args.place + length c.args.bytes.now) in
    let row = ap length (c.deref_mut.ensures.value ∙ c.fill_up.ensures.items) in
    omega arith

-- the row after the write: what was lent, written over, put back
row_after : {Z : Type 0} (v : Vec ℕ Z) (old lent new : List ℕ) (place : ℕ) (bytes : List ℕ)
    → v.items ≡ filled_up old (place + length bytes) → lent ≡ v.items → length lent ≡ v.len → new ≡ overwrite lent place bytes
    → (with_items v new).items ≡ overwrite (filled_up old (place + length bytes)) place bytes
row_after v old lent new place bytes filled is len over =
    let all : lent ≡ filled_up old (place + length bytes) = is ∙ filled in
    let whole : new ≡ overwrite (filled_up old (place + length bytes)) place bytes = over ∙ ap (λ (l : List ℕ). overwrite l place bytes) all in
    let long = length-filled_up-any old (place + length bytes) in
    let same = length-overwrite (filled_up old (place + length bytes)) place bytes (omega arith) in
    with_items_is v new (ap length whole ∙ same ∙ sym (ap length all) ∙ len) ∙ whole

pub invariant_of-self : goal.invariant_of-self
invariant_of-self c =
    let device = c.args.self.now in
    let row = row_after c.fill_up.new.row device.row.items c.deref_mut.result.now c.copy_in.new.row c.args.place c.args.bytes.now c.fill_up.ensures.items c.deref_mut.ensures.value c.deref_mut.ensures.len c.copy_in.ensures in
    let le = length-overwrite-filled_up device.row.items device.size c.args.place c.args.bytes.now device.within c.requires.range in
    let items = ap length row in
    record { within = omega arith; room = omega (arith, device.room, c.fill_up.ensures.capacity); fits = device.fits }

pub returns-clause-ok : goal.returns-clause-ok
returns-clause-ok c =
    let device = c.args.self.now in
    let row = row_after c.fill_up.new.row device.row.items c.deref_mut.result.now c.copy_in.new.row c.args.place c.args.bytes.now c.fill_up.ensures.items c.deref_mut.ensures.value c.deref_mut.ensures.len c.copy_in.ensures in
    let all = overwrite-filled_up-to device.row.items device.size c.args.place c.args.bytes.now c.requires.range in
    let bytes = ap (λ (l : List ℕ). filled_up l device.size) row ∙ sym all in
    (λ j. record { size = device.size; bytes = Some (bytes j); power = record { on = device.on; losses = 0; span = 0; due = Some [] } })
