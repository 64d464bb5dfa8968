-- Objects in blocks of 64 bytes (this project's own): a directory says for each object its length and its first block, and for
-- each block the next one.
use Rattle.std.specs.Prelude.{ℕ, zero, suc, ◌+◌, ◌*◌, ◌/◌, ◌%◌, ◌==◌, ◌&&◌, Bool, nat_le, nat_lt, if◌then◌else◌, List, [], ◌∷◌, length, map, codes, slice_index, sum_by}
use Rattle.std.specs.List.{range_with_len, list_all}
use Rattle.nvm_slots.specs.Slots.{record_of}
use Rattle.nvm_slots.specs.declared.twin.Twin.{Twin}
use Rattle.piv_model.specs.Memory.{blocks}
use Rattle.card_image.specs.Header.{number_in}
use Rattle.card_image.specs.Forms.{Form}

abbrev pub directory_twin : Twin
directory_twin = record { selector = 256; slot = 257 ∷ 4485 ∷ []; size = 4228 }

abbrev pub directory_of : List ℕ → List ℕ
directory_of row = record_of directory_twin row

abbrev pub length_in : List ℕ → ℕ → ℕ
length_in d k = number_in d (4 * k)

abbrev pub first_in : List ℕ → ℕ → ℕ
first_in d k = number_in d (4 * k + 2)

abbrev pub next_in : List ℕ → ℕ → ℕ
next_in d b = number_in d (132 + 2 * b)

-- so many blocks from one on, each the next of the one before it; the next of the last one isn't read
abbrev pub chain : List ℕ → ℕ → ℕ → List ℕ
chain d zero b = []
chain d (suc n) b = b ∷ chain d n (next_in d b)

-- the blocks of an object
unfoldable pub chain_of : List ℕ → ℕ → List ℕ
chain_of d k = chain d (blocks (length_in d k)) (first_in d k)

abbrev pub times : ℕ → List ℕ → ℕ
times b [] = 0
times b (x ∷ xs) = if x == b then times b xs + 1 else times b xs

-- how often a block is read over the objects of the first n places
unfoldable pub reads_below : ℕ → List ℕ → ℕ → ℕ
reads_below n d b = sum_by (λ k. times b (chain_of d k)) (range_with_len 0 n)

abbrev pub reads : List ℕ → ℕ → ℕ
reads d b = reads_below 33 d b

-- no object is too long, all numbers that are read are below the budget, and no block is read twice
unfoldable pub are_chains : ℕ → List ℕ → Bool
are_chains budget d =
    list_all (λ k. nat_le (length_in d k) 16384) (range_with_len 0 33)
    && list_all (λ k. list_all (λ b. nat_lt b budget) (chain_of d k)) (range_with_len 0 33)
    && list_all (λ b. nat_le (reads d b) 1) (range_with_len 0 budget)

abbrev pub place_of_block : ℕ → ℕ
place_of_block b = 8768 + 64 * b

-- byte i of an object stands in block number i / 64 of its chain
abbrev pub byte_of : List ℕ → List ℕ → ℕ → ℕ
byte_of row blocks i = slice_index row (place_of_block (slice_index blocks (i / 64)) + i % 64)

unfoldable pub object_at : List ℕ → List ℕ → ℕ → List ℕ
object_at row d k = map (byte_of row (chain_of d k)) (range_with_len 0 (length_in d k))

unfoldable pub objects_of : List ℕ → List (List ℕ)
objects_of row = map (object_at row (directory_of row)) (range_with_len 0 33)

abbrev pub block_form : Form
block_form = record {
  mark = codes "PIVB";
  are_objects = λ budget row. are_chains budget (directory_of row);
  objects_of = objects_of;
  put_cost = λ n. blocks n + 2;
}

-- how many blocks are read over all objects
unfoldable pub blocks_read : List ℕ → ℕ
blocks_read d = sum_by (λ k. length (chain_of d k)) (range_with_len 0 33)
