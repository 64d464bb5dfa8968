-- The objects of a start, each in one run of blocks.
use Rattle.std.specs.Prelude.{◌≡◌, ℕ, zero, suc, ◌+◌, ◌<◌, List, ◌∷◌, length}
use Rattle.nvm_slots.specs.Laying.{Piece}
use Rattle.piv_model.specs.Memory.{blocks}
use Rattle.piv_model.specs.Starts.{value_at}
use Rattle.block_store.specs.Blocks.{length_in, first_in, next_in, place_of_block}

-- the first block behind the objects of the first k places
unfoldable pub run : List (ℕ × List ℕ) → ℕ → ℕ
run pairs zero = 0
run pairs (suc k) = run pairs k + blocks (length (value_at pairs k))

-- a directory with the entries of the first n places, in which each block names the one behind it
pub record IsFresh (pairs : List (ℕ × List ℕ)) (n : ℕ) (d : List ℕ) : Type 0 where
  pub size : length d ≡ 4228
  pub nexts : (b : ℕ) → b < 2047 → next_in d b ≡ b + 1
  pub lengths : (k : ℕ) → k < n → length_in d k ≡ length (value_at pairs k)
  pub firsts : (k : ℕ) → k < n → first_in d k ≡ run pairs k

-- the values of the first n places, over other pieces
unfoldable pub run_pieces : List (ℕ × List ℕ) → List Piece → ℕ → List Piece
run_pieces pairs pieces zero = pieces
run_pieces pairs pieces (suc k) = (place_of_block (run pairs k), value_at pairs k) ∷ run_pieces pairs pieces k
