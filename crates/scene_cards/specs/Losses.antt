-- The losses of a scene's card (this project's own).
use Rattle.std.specs.Prelude.{ℕ, ◌&&◌, nat_le, nat_lt, Bool, true, if◌then◌else◌, List, [], length, codes, slice_get, ◌-◌, Option, Some, None}
use Rattle.std.specs.Result.{result_ok}
use Rattle.std.specs.Str.{bytes_eq}
use Rattle.toml.specs.Data.{Data, Items, Members, get_member, as_str, as_table}
use Rattle.power_loss.specs.declared.loss.Loss.{Loss}
use Rattle.nvm_device.specs.declared.loss.How.{How}
use Rattle.nvm_device.specs.declared.loss.How.TheVariants.{Before, Torn, After}
use Rattle.line_words.specs.Words.{◌>>=◌}
use Rattle.scene_table.specs.Readings.{from_one, or_default, each_after}
use Rattle.scene_table.specs.Values.{such_that, digits}

-- the write numbers of a card rise
abbrev pub is_later : Option (Loss How) → ℕ → Bool
is_later None write = true
is_later (Some last) write = nat_lt last.write write

abbrev pub later : List (Loss How) → ℕ → Option ℕ
later before write = such_that (is_later (slice_get before (length before - 1))) write

abbrev pub loss_write : List (Loss How) → Members → Option ℕ
loss_write before t = get_member (codes "write") t >>= from_one >>= later before

-- 1 to 16 bytes
abbrev pub is_pattern : List ℕ → Bool
is_pattern p = nat_le 1 (length p) && nat_le (length p) 16

abbrev pub pattern_value : Data → Option (Option (List ℕ))
pattern_value d = digits d >>= (λ p. if is_pattern p then Some (Some p) else None)

-- a pattern stands beside `torn`, and beside it alone
abbrev pub how_of : List ℕ → Option (List ℕ) → Option How
how_of kind None =
    if bytes_eq kind (codes "before") then Some Before
    else if bytes_eq kind (codes "after") then Some After
    else None
how_of kind (Some pattern) = if bytes_eq kind (codes "torn") then Some (Torn pattern) else None

-- a loss behind others of its card
abbrev pub loss_of : List (Loss How) → Data → Option (Loss How)
loss_of before d = do
  t ← as_table d
  write ← loss_write before t
  kind ← get_member (codes "kind") t >>= as_str
  pattern ← or_default None pattern_value (get_member (codes "pattern") t)
  how ← how_of kind pattern
  Some (record { write = write; how = how })

abbrev pub all_losses : Items → Option (List (Loss How))
all_losses ds = result_ok (each_after loss_of [] ds)
