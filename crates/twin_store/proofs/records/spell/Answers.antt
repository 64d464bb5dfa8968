use Rattle.std.proofs.Common.{◌≡◌, ◌+◌, ◌-◌, ◌≤◌, ◌/◌, ◌%◌, length, List, ℕ, ◌++◌, ap, ◌∙◌, arith, length-set, set}
use Rattle.std.proofs.lemmas.Slice.{take-put_mid}
use Rattle.twin_store.proofs.Spelling.{take_two}
use Rattle.twin_store.proofs.records.spell.Goals as goal

pub returns : goal.returns
returns c =
    let n = length c.args.value.now in
    let filled : List ℕ = set (set c.args.buffer.now 0 (n / 256)) 1 (n % 256) in
    let size : length filled ≡ 16386 = length-set (set c.args.buffer.now 0 (n / 256)) 1 (n % 256) ∙ length-set c.args.buffer.now 0 (n / 256) ∙ c.told-buffer in
    let same : c.copy_from_slice.new.self ≡ c.args.value.now = c.copy_from_slice.ensures.after in
    let long : 2 ≤ length c.args.buffer.now = omega arith in
    let end : n + 2 ≡ 2 + length c.copy_from_slice.new.self = omega (arith, ap length same) in
    take-put_mid 2 (n + 2 - 2) filled c.copy_from_slice.new.self (n + 2) end (omega arith) ∙ (λ i. take_two c.args.buffer.now (n / 256) (n % 256) long i ++ same i)
