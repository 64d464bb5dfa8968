use Rattle.std.proofs.Common.{◌+◌, ◌-◌, ℕ, List, length, sym, subst, arith}
use Rattle.block_store.specs.Writes.{LinkedTo}
use Rattle.block_store.proofs.Numbers.{none_linked, linked_more, linked_fewer}
use Rattle.block_store.proofs.directory.link.Goals as goal

pub loop-j-init : goal.loop-j-init
loop-j-init c = none_linked _ c.args.chosen.now c.args.directory.now (omega arith)

pub loop-j-preserved : goal.loop-j-preserved
loop-j-preserved c =
    let chosen : List ℕ = c.args.chosen.now in
    let d : List ℕ = c.args.directory.now in
    let j : ℕ = c.loop-j.j in
    subst (LinkedTo (j + 1 - 1) chosen d) (sym c.put_number.ensures) (linked_more j chosen d c.loop-j.directory c.loop-j.auto.j c.loop-j-test.true c.told-directory c.requires.low c.loop-j.invariant)

pub returns : goal.returns
returns c = linked_fewer (c.loop-j.j - 1) (length c.args.chosen.now - 1) c.args.chosen.now c.args.directory.now c.loop-j.directory (omega arith) c.loop-j.invariant
