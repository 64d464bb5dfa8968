use Rattle.std.proofs.Common.{length}
use Rattle.nvm_device.proofs.FilledUp.{bytes_at-filled_up}
use Rattle.nvm_device.proofs.memory.MemNvmNvm.read.Goals as goal

pub returns : goal.returns
returns c =
    let device = c.args.self.now in
    let part = bytes_at-filled_up device.row.items device.size c.args.place (length c.args.out.now) device.within c.requires.range in
    cc
