use Rattle.std.proofs.Common.{sym, arith}
use Rattle.std.proofs.lemmas.List.{take_all}
use Rattle.nvm_device.specs.Bytes.{zeros, filled_up}
use Rattle.nvm_device.proofs.FilledUp.{filled_up_long}
use Rattle.nvm_device.proofs.memory.fill_up.Goals as goal

pub returns-then-len-size-clause-items : goal.returns-then-len-size-clause-items
unfolding filled_up zeros
returns-then-len-size-clause-items c =
    let row = c.args.row.now.items in
    let all = take_all c.args.size row (omega arith) in
    cc (c.resize.ensures.items, all)

pub returns-else-len-size-clause-items : goal.returns-else-len-size-clause-items
returns-else-len-size-clause-items c = sym (filled_up_long c.args.row.now.items c.args.size (omega arith))
