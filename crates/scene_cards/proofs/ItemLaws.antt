-- Whether an array has items.
use Rattle.std.proofs.Common.{◌≡◌, List, [], ◌∷◌, length, ◌<◌, ◌≤◌, Some, None, refl, arith}
use Rattle.toml.specs.View.{items_view}
use Rattle.toml.specs.declared.value.Value.{Value}
use Rattle.scene_cards.specs.Cards.{some_items}

pub no_items_view : (vs : List Value) → length vs ≤ 0 → some_items (items_view vs) ≡ None
no_items_view [] h = refl
no_items_view (v ∷ vs) h = absurd (omega arith)

pub some_items_view : (vs : List Value) → 0 < length vs → some_items (items_view vs) ≡ Some (items_view vs)
some_items_view [] h = absurd (omega arith)
some_items_view (v ∷ vs) h = refl
