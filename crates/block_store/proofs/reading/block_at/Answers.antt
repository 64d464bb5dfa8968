use Rattle.std.proofs.Common.{arith}
use Rattle.block_store.proofs.Filled.{none_followed, more_followed, block_there}
use Rattle.block_store.proofs.reading.block_at.Goals as goal

pub loop-i-init : goal.loop-i-init
loop-i-init c = record {
  few = c.first_in-block.ensures.few;
  followed = none_followed c.args.directory.now c.args.place c.first_in-block.result c.first_in-block.ensures.first;
}

pub loop-i-preserved : goal.loop-i-preserved
loop-i-preserved c = record {
  few = c.next_in-block.ensures.few;
  followed = more_followed c.args.directory.now c.args.place c.loop-i._i c.loop-i.block c.next_in-block.result c.next_in-block.ensures.next c.loop-i.invariant.followed;
}

pub returns-clause-block : goal.returns-clause-block
returns-clause-block c below = block_there c.args.directory.now c.args.place c.loop-i._i c.args.number c.loop-i.block (omega arith) c.loop-i.invariant.followed below
