-- Where the reader of a card's objects stops.
use Rattle.std.proofs.Common.{◌≡◌, ◌<◌, ℕ, Bool, List, [], length, get_or, drop, map, Err, sym, ap, ◌∙◌}
use Rattle.std.specs.Prelude.{Vec}
use Rattle.std.specs.declared.alloc.Global.{Global}
use Rattle.std.specs.Result.{result_ok}
use Rattle.toml.specs.View.{view, items_view}
use Rattle.toml.specs.declared.value.Value.{Value}
use Rattle.line_words.specs.declared.fault.LineFault.{LineFault}
use Rattle.line_words.specs.declared.fault.LineFault.TheVariants.{Malformed, NoMemory}
use Rattle.scene_cards.specs.declared.objects.RawObject.{RawObject}
use Rattle.scene_table.specs.Answers.{GivesBy}
use Rattle.scene_cards.specs.Views.{object_view}
use Rattle.scene_table.specs.Readings.{each_after}
use Rattle.scene_cards.specs.Objects.{object_of, all_objects}
use Rattle.scene_table.proofs.EachAfter.{after-stop}

pub object-stopped : (has_global : Bool) (e : LineFault) (done before : List RawObject) (vs : List Value) (i : ℕ) (x : Value) → i < length vs → x ≡ get_or vs i x → before ≡ done
    → each_after (object_of has_global) [] (items_view vs) ≡ each_after (object_of has_global) (map object_view done) (items_view (drop i vs))
    → GivesBy object_view (Err e) (object_of has_global (map object_view before) (view x))
    → GivesBy {A = Vec RawObject Global} (λ v. map object_view v.items) (Err e) (all_objects has_global (items_view vs))
object-stopped has_global Malformed done before vs i x h at_i same so_far none =
    ap result_ok (so_far ∙ after-stop (object_of has_global) (map object_view done) vs i x h at_i (ap (λ (b : List RawObject). object_of has_global (map object_view b) (view x)) (sym same) ∙ none))
object-stopped has_global NoMemory done before vs i x h at_i same so_far none = tt
