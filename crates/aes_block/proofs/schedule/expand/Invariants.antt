use Rattle.std.proofs.Common.{◌≡◌, ◌*◌, take, length}
use Rattle.piv_model.specs.Cipher.{words}
use Rattle.aes_block.specs.Words.{all_bytes_of, each_bytes_of}
use Rattle.aes_block.proofs.schedule.expand.Given as goal

abbrev pub invariant-given : goal.invariant-given
invariant-given l = record {
  all : each_bytes_of (take l.i l.words) ≡ words l.nk l.key l.i;
  key : all_bytes_of (take l.i l.words) ≡ take (4 * l.i) l.key;
  size : length l.words ≡ 60;
}

abbrev pub invariant-derived : goal.invariant-derived
invariant-derived l = record {
  all : each_bytes_of (take l.i l.words) ≡ words l.nk l.key l.i;
  key : all_bytes_of (take l.nk l.words) ≡ l.key;
  size : length l.words ≡ 60;
}
