-- The objects of a scene's card (this project's own; the Discovery Object is that of SP 800-73-4 part 1).
use Rattle.std.specs.Prelude.{ℕ, ◌==◌, ◌||◌, not, Bool, if◌then◌else◌, List, [], length, replicate, codes, Option, Some, None}
use Rattle.std.specs.List.{list_any}
use Rattle.std.specs.Result.{result_ok}
use Rattle.toml.specs.Data.{Data, Items, get_member, as_table}
use Rattle.piv_model.specs.Objects.{discovery_place, place_of}
use Rattle.piv_model.specs.Forms.{is_discovery}
use Rattle.line_words.specs.Words.{◌>>=◌}
use Rattle.scene_table.specs.Readings.{from_one, each_after}
use Rattle.scene_table.specs.Values.{digits, some_digits, one_byte}

-- a value as it is written, or so many equal bytes
pub data ObjectValue : Type 0 where
  Given : List ℕ → ObjectValue
  Filled : ℕ → ℕ → ObjectValue

pub record ObjectData : Type 0 where
  pub place : ℕ
  pub value : ObjectValue

abbrev pub value_size : ObjectValue → ℕ
value_size (Given bytes) = length bytes
value_size (Filled n b) = n

abbrev pub value_bytes : ObjectValue → List ℕ
value_bytes (Given bytes) = bytes
value_bytes (Filled n b) = replicate n b

-- either `value`, which isn't empty, or `size`, from 1, and `fill`
abbrev pub object_value : Option Data → Option Data → Option Data → Option ObjectValue
object_value (Some value) None None = some_digits value >>= (λ bytes. Some (Given bytes))
object_value None (Some size) (Some fill) = from_one size >>= (λ n. one_byte fill >>= (λ b. Some (Filled n b)))
object_value _ _ _ = None

-- an object 7E has the form of Discovery for a card with or without a Global PIN
abbrev pub has_form : Bool → ℕ → ObjectValue → Bool
has_form has_global place value = not (place == discovery_place) || is_discovery has_global (value_bytes value)

abbrev pub formed : Bool → ℕ → ObjectValue → Option ObjectData
formed has_global place value =
    if has_form has_global place value then Some (record { place = place; value = value }) else None

-- a place that no object before has
abbrev pub fresh_place : List ObjectData → ℕ → Option ℕ
fresh_place before place = if list_any (λ o. o.place == place) before then None else Some place

abbrev pub fresh_object : List ObjectData → List ℕ → Option ℕ
fresh_object before tag = place_of tag >>= fresh_place before

-- an object behind others of its card
abbrev pub object_of : Bool → List ObjectData → Data → Option ObjectData
object_of has_global before d = do
  t ← as_table d
  place ← get_member (codes "tag") t >>= digits >>= fresh_object before
  value ← object_value (get_member (codes "value") t) (get_member (codes "size") t) (get_member (codes "fill") t)
  formed has_global place value

abbrev pub all_objects : Bool → Items → Option (List ObjectData)
all_objects has_global ds = result_ok (each_after (object_of has_global) [] ds)
