-- Where the reader of a card's losses stops.
use Rattle.std.proofs.Common.{◌≡◌, ◌<◌, ℕ, List, [], length, get_or, drop, Err, sym, ap, ◌∙◌}
use Rattle.std.specs.Prelude.{Vec}
use Rattle.std.specs.declared.alloc.Global.{Global}
use Rattle.std.specs.Result.{result_ok}
use Rattle.toml.specs.View.{view, items_view}
use Rattle.toml.specs.declared.value.Value.{Value}
use Rattle.power_loss.specs.declared.loss.Loss.{Loss}
use Rattle.nvm_device.specs.declared.loss.How.{How}
use Rattle.line_words.specs.declared.fault.LineFault.{LineFault}
use Rattle.line_words.specs.declared.fault.LineFault.TheVariants.{Malformed, NoMemory}
use Rattle.line_words.specs.Words.{Gives}
use Rattle.scene_table.specs.Answers.{GivesBy}
use Rattle.scene_table.specs.Readings.{each_after}
use Rattle.scene_cards.specs.Losses.{loss_of, all_losses}
use Rattle.scene_table.proofs.EachAfter.{after-stop}

pub loss-stopped : (e : LineFault) (done before : List (Loss How)) (vs : List Value) (i : ℕ) (x : Value) → i < length vs → x ≡ get_or vs i x → before ≡ done
    → each_after loss_of [] (items_view vs) ≡ each_after loss_of done (items_view (drop i vs))
    → Gives {A = Loss How} (Err e) (loss_of before (view x))
    → GivesBy {A = Vec (Loss How) Global} (λ v. v.items) (Err e) (all_losses (items_view vs))
loss-stopped Malformed done before vs i x h at_i same so_far none =
    ap result_ok (so_far ∙ after-stop loss_of done vs i x h at_i (ap (λ (b : List (Loss How)). loss_of b (view x)) (sym same) ∙ none))
loss-stopped NoMemory done before vs i x h at_i same so_far none = tt
