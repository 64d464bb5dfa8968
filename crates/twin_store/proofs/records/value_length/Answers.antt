use Rattle.nvm_slots.proofs.Calls.{rows_enough}
use Rattle.twin_store.proofs.Objects.{length_told}
use Rattle.twin_store.proofs.records.value_length.Goals as goal

pub returns-clause-told : goal.returns-clause-told
returns-clause-told g c =
    let s = g.N.Nvm.state c.args.nvm.now in
    length_told s.bytes c.args.place c.written_length.result c.min.result c.requires.place (rows_enough 1114112 s.size s.bytes c.requires.size (g.met.N.Nvm.row_size c.args.nvm.now)) c.written_length.ensures.told c.min.ensures
