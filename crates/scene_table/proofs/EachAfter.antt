-- A loop over the items of an array, against `each_after`.
use Rattle.std.proofs.Common.{◌≡◌, ℕ, ◌+◌, ◌<◌, ◌≤◌, List, [], ◌∷◌, ◌++◌, length, drop, get_or, Option, Some, None, Ok, Err, refl}
use Rattle.std.proofs.lemmas.List.{drop_all}
use Rattle.toml.specs.Data.{Data}
use Rattle.toml.specs.View.{view, items_view}
use Rattle.toml.proofs.Views.{items_view-drop}
use Rattle.toml.specs.declared.value.Value.{Value}
use Rattle.scene_table.specs.Readings.{each_after}

pub after-next : {A : Type 0} (read : List A → Data → Option A) (done : List A) (vs : List Value) (i : ℕ) (x : Value) (a : A) → i < length vs → x ≡ get_or vs i x → read done (view x) ≡ Some a
    → each_after read done (items_view (drop i vs)) ≡ each_after read (done ++ a ∷ []) (items_view (drop (i + 1) vs))
unfolding each_after
after-next read done vs i x a h at_i ok = rw (items_view-drop vs i x h, ← at_i, ok) refl

pub after-stop : {A : Type 0} (read : List A → Data → Option A) (done : List A) (vs : List Value) (i : ℕ) (x : Value) → i < length vs → x ≡ get_or vs i x → read done (view x) ≡ None
    → each_after read done (items_view (drop i vs)) ≡ Err (length done)
unfolding each_after
after-stop read done vs i x h at_i bad = rw (items_view-drop vs i x h, ← at_i, bad) refl

pub after-end : {A : Type 0} (read : List A → Data → Option A) (done : List A) (vs : List Value) (i : ℕ) → length vs ≤ i
    → each_after read done (items_view (drop i vs)) ≡ Ok done
unfolding each_after
after-end read done vs i h = rw (drop_all i vs h) refl
