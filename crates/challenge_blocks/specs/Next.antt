-- Which random block of a card comes next.
use Rattle.std.specs.Prelude.{◌≡◌, ℕ, ◌+◌, ◌*◌, List}
use Rattle.rand_chacha.specs.ChaCha.{key_of}
use Rattle.piv_rules.specs.RandomBlocks.{random_block}
use Rattle.challenge_blocks.specs.declared.blocks.Blocks.{Blocks}
use Rattle.challenge_blocks.specs.Blocks.{IsAt}

-- so many blocks of a card with these random bytes were used
pub record IsNext (random : List ℕ) (used : ℕ) (blocks : Blocks) : Type 0 where
  pub next : blocks.next ≡ random_block random used
  pub place : IsAt (key_of random) (4 * (used + 1)) blocks.rng
