use Rattle.std.proofs.Common.{rules, ap}
use Rattle.aes_block.specs.Words.{all_bytes_of}
use Rattle.aes_block.proofs.WordLemmas.{sized, four_places}
use Rattle.aes_block.proofs.words.store.Goals as goal

pub returns : goal.returns
unfolding all_bytes_of
returns c =
    rw (c.to_be_bytes-a.ensures, c.to_be_bytes-b.ensures, c.to_be_bytes-c.ensures, c.to_be_bytes-d.ensures)
    (ap all_bytes_of (four_places (sized 4 c.args.s (search rules))))
