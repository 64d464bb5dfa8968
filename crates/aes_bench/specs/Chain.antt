-- Chains of blocks under AES, where each block is the cipher of the one before it.
use Rattle.std.specs.Prelude.{ℕ, zero, suc, List, slice_index, slice_set, bit_xor}
use Rattle.piv_model.specs.Cipher.{encipher}

-- n blocks on from x, under one key
unfoldable pub chained : List ℕ → ℕ → List ℕ → List ℕ
chained key zero x = x
chained key (suc n) x = encipher key (chained key n x)

pub record Pair : Type 0 where
  pub key : List ℕ
  pub block : List ℕ

-- the next key has the block's first byte added to its own
abbrev pub next_key : Pair → List ℕ
next_key p = slice_set p.key 0 (bit_xor (slice_index p.key 0) (slice_index p.block 0))

-- n blocks on, each under a key of its own
unfoldable pub rekeyed : List ℕ → ℕ → List ℕ → Pair
rekeyed key zero x = record { key = key; block = x }
rekeyed key (suc n) x =
    let before = rekeyed key n x in
    record { key = next_key before; block = encipher (next_key before) before.block }
