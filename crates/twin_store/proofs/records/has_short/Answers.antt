use Rattle.twin_store.proofs.Objects.{all_short_told, long_told}
use Rattle.twin_store.proofs.records.has_short.Goals as goal

pub returns-then-written_length-gt-LONGEST_OBJECT : goal.returns-then-written_length-gt-LONGEST_OBJECT
returns-then-written_length-gt-LONGEST_OBJECT g c = long_told (g.N.Nvm.state c.args.nvm.now).bytes c.loop-place.place c.written_length.result c.loop-place-test.true c.if-written_length-gt-LONGEST_OBJECT.true c.written_length.ensures.told

pub returns : goal.returns
returns g c = all_short_told (g.N.Nvm.state c.args.nvm.now).bytes c.loop-place.place c.loop-place-test.false c.loop-place.invariant
