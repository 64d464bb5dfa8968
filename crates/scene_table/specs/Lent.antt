-- What the parts of a document say that are lent.
use Rattle.std.specs.Prelude.{Vec, Option, Some, None}
use Rattle.std.specs.Borrow.{Bor}
use Rattle.std.specs.declared.alloc.Global.{Global}
use Rattle.toml.specs.declared.value.Value.{Value}
use Rattle.toml.specs.Data.{Items, no_items}
use Rattle.toml.specs.View.{array_view}

-- the items of an array that may be absent
abbrev pub lent_items : Option (Bor (Vec Value Global)) → Items
lent_items None = no_items
lent_items (Some items) = array_view items.now
