use Rattle.std.proofs.Common.{ℕ, List, ap, ◌∙◌}
use Rattle.nvm_device.specs.Bytes.{filled_up}
use Rattle.nvm_device.proofs.FilledUp.{filled_up_none}
use Rattle.nvm_device.proofs.memory.MemNvm.new.Goals as goal

pub returns-in-Ok : goal.returns-in-Ok
returns-in-Ok c =
    let row = ap (λ (l : List ℕ). filled_up l c.args.size) c.in-Ok.ensures.items ∙ filled_up_none c.args.size in
    cc
