-- How a store keeps its objects.
use Rattle.std.specs.Prelude.{◌≡◌, ℕ, Bool, List, length, drop, slice_index, IsTrue}
use Rattle.std.specs.List.{list_all}
use Rattle.piv_model.specs.Memory.{is_short}

pub record Form : Type 0 where
  -- the first four bytes
  pub mark : List ℕ
  -- the row keeps objects, within a budget of so many blocks
  pub are_objects : ℕ → List ℕ → Bool
  -- the objects of a row, by place
  pub objects_of : List ℕ → List (List ℕ)
  -- how many writes a put of so many bytes makes
  pub put_cost : ℕ → ℕ

-- the bytes behind the first 256 stand
pub record StandsBehind (old new : List ℕ) : Type 0 where
  pub size : length new ≡ length old
  pub behind : drop 256 new ≡ drop 256 old

-- objects stand behind the first 256 bytes alone, in 33 places
pub record IsForm (form : Form) : Type 0 where
  pub are_objects : (budget : ℕ) (old new : List ℕ) → StandsBehind old new → form.are_objects budget new ≡ form.are_objects budget old
  pub objects_of : (old new : List ℕ) → StandsBehind old new → form.objects_of new ≡ form.objects_of old
  pub places : (row : List ℕ) → length (form.objects_of row) ≡ 33
  pub short : (budget : ℕ) (row : List ℕ) → IsTrue (form.are_objects budget row) → IsTrue (list_all is_short (form.objects_of row))
  pub mark_size : length form.mark ≡ 4
  pub mark_first : slice_index form.mark 0 ≡ 0x50
