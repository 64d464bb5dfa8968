use Rattle.std.proofs.Common.{◌≡◌, ◌<◌, ◌*◌, ℕ, [], length, get_or, refl, ◌∙◌, arith}
use Rattle.block_store.specs.Blocks.{objects_of}
use Rattle.nvm_slots.proofs.Calls.{rows_enough}
use Rattle.block_store.proofs.Filled.{none_told, more_told, filled_told}
use Rattle.block_store.proofs.reading.fill_object.Goals as goal

pub loop-j-init : goal.loop-j-init
loop-j-init g c = record {
  few = c.first_in-block.ensures.few;
  size = refl;
  filled = none_told (g.N.Nvm.state c.args.nvm.now).bytes c.read_directory-directory.result c.args.place c.first_in-block.result c.args.out.now (λ row. length c.args.out.now ≡ length (get_or (objects_of row) c.args.place [])) c.first_in-block.ensures.first;
}

pub loop-j-preserved : goal.loop-j-preserved
loop-j-preserved g c = record {
  few = c.next_in-block.ensures.few;
  size = c.fill_part.ensures.size ∙ c.loop-j.invariant.size;
  filled =
      let s = g.N.Nvm.state c.args.nvm.now in
      let whole : ℕ = length c.args.out.now in
      let some : 64 * c.loop-j.j < whole = (let test = c.loop-j-test.true in let end = c.div_ceil-j-end.ensures in omega (arith, test, end)) in
      more_told s.bytes c.read_directory-directory.result c.args.place c.loop-j.j c.loop-j.block c.next_in-block.result c.min.result whole c.loop-j.out c.fill_part.new.out c.requires.place c.loop-j.invariant.size some c.min.ensures c.next_in-block.ensures.next
      (rows_enough 1114112 s.size s.bytes c.requires.size (g.met.N.Nvm.row_size c.args.nvm.now)) c.read_directory-directory.ensures.told c.fill_part.ensures.told c.loop-j.invariant.filled;
}

pub returns : goal.returns
returns g c = record { told = filled_told (g.N.Nvm.state c.args.nvm.now).bytes c.read_directory-directory.result c.args.place c.loop-j.j c.loop-j.block (length c.args.out.now) c.loop-j.out c.requires.place c.loop-j.invariant.size (omega arith) c.read_directory-directory.ensures.told c.loop-j.invariant.filled }
