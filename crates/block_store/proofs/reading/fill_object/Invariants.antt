use Rattle.std.proofs.Common.{◌≡◌, ◌≤◌, length, get_or, [], IfSome}
use Rattle.card_image.specs.Images.{KeepsObjects}
use Rattle.block_store.specs.Blocks.{block_form, objects_of}
use Rattle.block_store.proofs.Filled.{FilledTo}
use Rattle.block_store.proofs.reading.fill_object.Given as goal

abbrev pub invariant-loop-j : goal.invariant-loop-j
invariant-loop-j g l = record {
  few : l.block ≤ 65535;
  size : length l.out ≡ l.size;
  filled : IfSome (g.N.Nvm.state l.nvm).bytes (λ row. KeepsObjects block_form row → l.size ≡ length (get_or (objects_of row) l.place []) → FilledTo row l.directory l.place l.j l.block l.out);
}
