use Rattle.std.proofs.Common.{rules}
use Rattle.aes_block.proofs.WordLemmas.{sized, all_bytes_of-xor}
use Rattle.aes_block.proofs.words.add.Goals as goal

pub returns : goal.returns
returns c = all_bytes_of-xor (sized 4 c.args.s (search rules)) (sized 4 c.args.k (search rules))
