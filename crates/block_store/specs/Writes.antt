-- What the writes of a put leave.
use Rattle.std.specs.Prelude.{◌≡◌, ◌≢◌, ℕ, ◌+◌, ◌-◌, ◌*◌, ◌/◌, ◌%◌, ◌<◌, ◌≤◌, min, ◌==◌, ◌||◌, Bool, false, zero, suc, if◌then◌else◌, List, [], ◌∷◌, length, slice_index, slice_index_or, slice_set, nat_lt, IsTrue}
use Rattle.std.specs.List.{list_all}
use Rattle.nvm_device.specs.Bytes.{bytes_at, AreApart}
use Rattle.block_store.specs.Blocks.{length_in, first_in, next_in, chain, place_of_block, times, reads}

-- all bytes stand but those of these blocks
pub record KeepsOthers (chosen old new : List ℕ) : Type 0 where
  pub size : length new ≡ length old
  pub others : (at n : ℕ) → at + n ≤ length old → ((j : ℕ) → j < length chosen → AreApart (place_of_block (slice_index chosen j)) 64 at n)
      → bytes_at new at n ≡ bytes_at old at n

-- the bytes of a value that block j of its chain holds
abbrev pub part_size : List ℕ → ℕ → ℕ
part_size v j = min 64 (length v - 64 * j)

-- the first n blocks hold their parts of the value
abbrev pub HoldsParts : ℕ → List ℕ → List ℕ → List ℕ → Type 0
HoldsParts n chosen v row = (j : ℕ) → j < n → bytes_at row (place_of_block (slice_index chosen j)) (part_size v j) ≡ bytes_at v (64 * j) (part_size v j)

-- no block is chosen twice
abbrev pub Differ : List ℕ → Type 0
Differ chosen = (i j : ℕ) → i < j → j < length chosen → slice_index chosen i ≢ slice_index chosen j

pub record WroteParts (n : ℕ) (chosen v old new : List ℕ) : Type 0 where
  pub keeps : KeepsOthers chosen old new
  pub holds : Differ chosen → HoldsParts n chosen v new

-- the object of a place has this length and these blocks now, and all else stands
pub record IsEntered (k n : ℕ) (chosen d new : List ℕ) : Type 0 where
  pub size : length new ≡ length d
  pub lengths : (j : ℕ) → j < 33 → j ≢ k → length_in new j ≡ length_in d j
  pub firsts : (j : ℕ) → j < 33 → j ≢ k → first_in new j ≡ first_in d j
  pub nexts : (b : ℕ) → b < 2048 → times b chosen ≡ 0 → next_in new b ≡ next_in d b
  pub length_is : length_in new k ≡ n
  pub chain_is : chain new (length chosen) (first_in new k) ≡ chosen

-- whether a block is marked, and how many of the first n aren't
abbrev pub is_marked : List Bool → ℕ → Bool
is_marked used b = slice_index_or used b false

unfoldable pub free_below : List Bool → ℕ → ℕ
free_below used zero = 0
free_below used (suc n) = if is_marked used n then free_below used n else free_below used n + 1

-- the lowest free blocks, in their order: so many free blocks stand before each of them
pub record IsLowest (used : List Bool) (j b : ℕ) : Type 0 where
  pub low : b < 2048
  pub free : is_marked used b ≡ false
  pub before : free_below used b ≡ j

-- a block stands in a list
abbrev pub is_in : ℕ → List ℕ → Bool
is_in b [] = false
is_in b (x ∷ xs) = (x == b) || is_in b xs

-- a number of two bytes in place of another
abbrev pub with_number : List ℕ → ℕ → ℕ → List ℕ
with_number d at n = slice_set (slice_set d at (n / 256)) (at + 1) (n % 256)

-- each of the first n blocks names the next one, and all else stands
pub record LinkedTo (n : ℕ) (chosen d new : List ℕ) : Type 0 where
  pub size : length new ≡ length d
  pub entries : (at : ℕ) → at < 132 → slice_index new at ≡ slice_index d at
  pub nexts : (b : ℕ) → b < 2048 → times b chosen ≡ 0 → next_in new b ≡ next_in d b
  pub linked : Differ chosen → (i : ℕ) → i < n → next_in new (slice_index chosen i) ≡ slice_index chosen (i + 1)

-- blocks of which none is read, each once and below the budget
pub record FreeToChoose (budget : ℕ) (d chosen : List ℕ) : Type 0 where
  pub free : (b : ℕ) → 1 ≤ times b chosen → reads d b ≡ 0
  pub once : (b : ℕ) → times b chosen ≤ 1
  pub below : (j : ℕ) → j < length chosen → slice_index chosen j < budget
  pub differ : Differ chosen

-- 1 for a block that is marked
abbrev pub count_of : List Bool → ℕ → ℕ
count_of used b = if is_marked used b then 1 else 0

-- a chain below the budget, of blocks that stand there once and aren't marked
pub record ChainFits (budget : ℕ) (used : List Bool) (blocks : List ℕ) : Type 0 where
  pub below : IsTrue (list_all (λ b. nat_lt b budget) blocks)
  pub once : (b : ℕ) → b < budget → count_of used b + times b blocks ≤ 1
