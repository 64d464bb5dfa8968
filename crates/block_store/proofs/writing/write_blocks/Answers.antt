use Rattle.std.proofs.Common.{◌≡◌, ◌≤◌, ◌<◌, sym, subst, OnErr, Result, Ok, Err, ◌+◌, ◌-◌, ◌*◌, ℕ, List, length, take, drop, get_or, refl, IfSome, true, false, rules, ap, ◌∙◌, arith}
use Rattle.power_loss.specs.Due.{is_due}
use Rattle.nvm_device.specs.Bytes.{bytes_at, overwrite}
use Rattle.nvm_device.specs.Device.{DeviceState}
use Rattle.nvm_slots.specs.Slots.{Cut}
use Rattle.block_store.specs.Blocks.{place_of_block}
use Rattle.block_store.specs.Writes.{WroteParts, KeepsOthers, part_size}
use Rattle.power_loss.proofs.EachLaws.{told_all}
use Rattle.power_loss.proofs.PowerLaws.{none_due}
use Rattle.nvm_slots.proofs.Calls.{kept_none, kept_kept, kept_cut, kept_write, cut_write, cut_first, due_next, rows_enough, WroteAny}
use Rattle.block_store.proofs.Parts.{none_written, parts_more, keeps_torn, part_is, few_of}
use Rattle.block_store.proofs.writing.write_blocks.Goals as goal

pub loop-j-init : goal.loop-j-init
loop-j-init g c =
    let s = g.N.Nvm.state c.args.nvm.now in
    record {
      kept = kept_none (WroteParts 0 c.args.chosen.now c.args.value.now) s (told_all (λ row. WroteParts 0 c.args.chosen.now c.args.value.now row row) (none_written c.args.chosen.now c.args.value.now) s.bytes) (g.met.N.Nvm.due_rises c.args.nvm.now);
      none = none_due s.power (g.met.N.Nvm.due_rises c.args.nvm.now);
      on = c.requires.on;
      size = refl;
    }

pub loop-j-preserved : goal.loop-j-preserved
loop-j-preserved g c =
    let s = g.N.Nvm.state c.args.nvm.now in
    let t = g.N.Nvm.state c.loop-j.nvm in
    let u = g.N.Nvm.state c.write.new.self in
    let j : ℕ = c.loop-j.j in
    let chosen : List ℕ = c.args.chosen.now in
    let v : List ℕ = c.args.value.now in
    let place = place_of_block (get_or chosen j 0) in
    let bytes : List ℕ = take (c.min-to.result - 64 * j) (drop (64 * j) v) in
    let low : j < length chosen = c.loop-j-test.true in
    let is : bytes ≡ bytes_at v (64 * j) (part_size v j) = part_is v j c.min-to.result c.min-to.ensures in
    let none_now : IfSome t.power.due (λ due. is_due 1 due ≡ false) = search rules in
    record {
      kept = kept_kept j 1 (λ row. 1114112 ≤ length row) (WroteParts j chosen v) (λ old new. new ≡ overwrite old place bytes) (WroteParts (j + 1) chosen v)
          (λ a b d enough wrote e. subst (WroteParts (j + 1) chosen v a) (sym e) (parts_more chosen v a b j low c.requires.low enough c.requires.count bytes is wrote))
          s t u (rows_enough 1114112 s.size s.bytes c.requires.size (g.met.N.Nvm.row_size c.args.nvm.now)) c.loop-j.invariant.kept c.loop-j.invariant.none (kept_write place bytes t u c.in_ok-write.ensures.ok);
      none = due_next j 1 false (WroteParts j chosen v) s t c.loop-j.invariant.kept c.loop-j.invariant.none none_now;
      on = ap (λ (w : DeviceState). w.power.on) c.in_ok-write.ensures.ok ∙ c.loop-j.invariant.on;
      size = ap (λ (w : DeviceState). w.size) c.in_ok-write.ensures.ok ∙ c.loop-j.invariant.size;
    }

on_err : {T E P : Type 0} → (r : Result T E) → P → OnErr r P
on_err (Ok x) p = tt
on_err (Err e) p = p

pub returns-in_err-write-clause-lost : goal.returns-in_err-write-clause-lost
returns-in_err-write-clause-lost g c =
    let s = g.N.Nvm.state c.args.nvm.now in
    let t = g.N.Nvm.state c.loop-j.nvm in
    let u = g.N.Nvm.state c.write.new.self in
    let j : ℕ = c.loop-j.j in
    let chosen : List ℕ = c.args.chosen.now in
    let v : List ℕ = c.args.value.now in
    let place = place_of_block (get_or chosen j 0) in
    let bytes : List ℕ = take (c.min-to.result - 64 * j) (drop (64 * j) v) in
    let low : j < length chosen = c.loop-j-test.true in
    let few : length bytes ≤ 64 = few_of v j c.min-to.result c.min-to.ensures in
    let now_due : IfSome t.power.due (λ due. is_due 1 due ≡ true) = search rules in
    let due_all = due_next j 1 true (WroteParts j chosen v) s t c.loop-j.invariant.kept c.loop-j.invariant.none now_due in
    let cut = kept_cut j 1 (λ row. 1114112 ≤ length row) (WroteParts j chosen v) (WroteAny place (length bytes)) (KeepsOthers chosen)
    (λ a b d enough wrote any. keeps_torn chosen v a b j low c.requires.low enough d (length bytes) few any wrote.keeps)
    s t u (rows_enough 1114112 s.size s.bytes c.requires.size (g.met.N.Nvm.row_size c.args.nvm.now)) c.loop-j.invariant.kept c.loop-j.invariant.none (cut_write place (length bytes) t u c.in_err-write.ensures.lost) in
    let all : j + 1 + (length chosen - (j + 1)) ≡ length chosen = omega arith in
    on_err c.from_residual.result (subst (λ n. Cut n (KeepsOthers chosen) s u) all (cut_first (j + 1) (length chosen - (j + 1)) (KeepsOthers chosen) (KeepsOthers chosen) (λ a b k. k) s u due_all cut))
