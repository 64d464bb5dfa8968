use Rattle.std.proofs.Common.{◌≡◌, ◌<◌, ◌≤◌, ◌+◌, [], ◌∙◌, length, get_or, drop, None, Ok, Err, sym, ap, subst, ℕ, List}
use Rattle.piv_model.specs.declared.places.Where.TheVariants as bad
use Rattle.toml.specs.View.{view, items_view}
use Rattle.script_line.specs.declared.line.Line.{Line}
use Rattle.line_words.specs.declared.fault.LineFault.{LineFault}
use Rattle.line_words.specs.Words.{Gives}
use Rattle.script_line.specs.Scripts.{ScriptData}
use Rattle.scene_table.specs.Readings.{each_after}
use Rattle.piv_scene.specs.Scripts.{scene_line}
use Rattle.scene_cards.specs.Cards.{bad_item}
use Rattle.piv_scene.specs.Documents.{with_lines}
use Rattle.scene_table.proofs.EachAfter.{after-next, after-stop, after-end}
use Rattle.piv_scene.proofs.Stops.{stopped}
use Rattle.piv_scene.proofs.lines.add_lines.Goals as goal

pub loop-item-preserved : goal.loop-item-preserved
loop-item-preserved c =
    let same = c.deref-item-items.ensures.value in
    let within : c.loop-item.item-index < length c.args.items.now.items = rw same at c.loop-item-test.true in
    let at_i : c.item-item.result ≡ get_or c.args.items.now.items c.loop-item.item-index c.item-item.result = rw same at c.item-item.is in
    record {
      name = ap (λ (s : ScriptData). s.name) c.in-Ok-push.ensures.ok ∙ c.loop-item.invariant.name;
      so_far = c.loop-item.invariant.so_far
          ∙ after-next (scene_line c.args.cards.now) c.loop-item.script.lines c.args.items.now.items c.loop-item.item-index c.item-item.result c.in-Ok.line within at_i c.in-Ok.ensures
          ∙ ap (λ (l : List Line). each_after (scene_line c.args.cards.now) l (items_view (drop (c.loop-item.item-index + 1) c.args.items.now.items))) (sym (ap (λ (s : ScriptData). s.lines) c.in-Ok-push.ensures.ok));
    }

pub returns-in-Malformed : goal.returns-in-Malformed
returns-in-Malformed c =
    let same = c.deref-item-items.ensures.value in
    let within : c.loop-item.item-index < length c.args.items.now.items = rw same at c.loop-item-test.true in
    let at_i : c.item-item.result ≡ get_or c.args.items.now.items c.loop-item.item-index c.item-item.result = rw same at c.item-item.is in
    let none : scene_line c.args.cards.now c.loop-item.script.lines (view c.item-item.result) ≡ None =
    subst (λ (f : LineFault). Gives (Err f) (scene_line c.args.cards.now [] (view c.item-item.result))) c.in-Malformed.is c.in-Err.ensures in
    stopped (λ (s : ScriptData). s) c.bad_line.result (bad.Line c.args.n (c.len-before.result + 1)) _ c.bad_line.ensures
    (ap (λ r. with_lines c.args.script.name (bad_item (λ (m : ℕ). bad.Line c.args.n (m + 1)) r)) (c.loop-item.invariant.so_far
    ∙ after-stop (scene_line c.args.cards.now) c.loop-item.script.lines c.args.items.now.items c.loop-item.item-index c.item-item.result within at_i none)
    ∙ ap (λ (m : ℕ). Err (bad.Line c.args.n (m + 1))) (sym c.len-before.ensures))

pub returns : goal.returns
returns c =
    let past : length c.args.items.now.items ≤ c.loop-item.item-index = rw c.deref-item-items.ensures.value at c.loop-item-test.false in
    ap (λ r. with_lines c.args.script.name (bad_item (λ (m : ℕ). bad.Line c.args.n (m + 1)) r)) (c.loop-item.invariant.so_far
    ∙ after-end (scene_line c.args.cards.now) c.loop-item.script.lines c.args.items.now.items c.loop-item.item-index past)
    ∙ ap (λ (n : List ℕ). Ok (record { name = n; lines = c.loop-item.script.lines })) (sym c.loop-item.invariant.name)
