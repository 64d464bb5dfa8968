use Rattle.std.proofs.Common.{rules, length}
use Rattle.nvm_slots.proofs.Calls.{rows_enough}
use Rattle.block_store.proofs.Filled.{any_part}
use Rattle.block_store.proofs.reading.read_part.Goals as goal

pub returns-clause-told : goal.returns-clause-told
returns-clause-told g c =
    let s = g.N.Nvm.state c.args.nvm.now in
    any_part s.bytes c.read_directory.result c.args.place c.args.number c.block_at-block.result c.min.result (length c.args.out.now) c.read.new.out c.requires.place c.requires.few (search rules) c.min.ensures c.block_at-block.ensures.block
    (rows_enough 1114112 s.size s.bytes c.requires.size (g.met.N.Nvm.row_size c.args.nvm.now)) c.read_directory.ensures.told c.read.ensures
