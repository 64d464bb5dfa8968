use Rattle.std.proofs.Common.{◌≡◌, ◌+◌, ◌∙◌, length, drop, map, sym, ap, ℕ, List, Vec, Global}
use Rattle.script_line.specs.Scripts.{ScriptData}
use Rattle.piv_scene.specs.Views.{raw_view}
use Rattle.piv_scene.specs.Documents.{script_at, scripts_after}
use Rattle.piv_scene.proofs.RawLoop.{raw-next, raw-stop, raw-end, pass_on}
use Rattle.piv_scene.proofs.lines.read_scripts.Goals as goal

pub returns-in-Err-read_script : goal.returns-in-Err-read_script
returns-in-Err-read_script c =
    let number : c.in-Ok.n ≡ length c.loop-raw.scripts.items = c.in-Ok.ensures.1 ∙ ap length c.as_slice-before.ensures.value in
    pass_on (λ (v : Vec ScriptData Global). v.items) (λ (s : ScriptData). s) c.in-Err-read_script.fault (script_at c.args.cards.now c.in-Ok.n (raw_view c.raw-item.result)) _
    (λ w part. c.loop-raw.invariant ∙ raw-stop c.args.cards.now c.loop-raw.scripts.items c.args.raws.now c.loop-raw.raw-index c.raw-item.result w c.loop-raw-test.true c.raw-item.is
    (ap (λ (n : ℕ). script_at c.args.cards.now n (raw_view c.raw-item.result)) (sym number) ∙ part))
    c.in-Err-read_script.ensures

pub loop-raw-preserved : goal.loop-raw-preserved
loop-raw-preserved c =
    let number : c.in-Ok.n ≡ length c.loop-raw.scripts.items = c.in-Ok.ensures.1 ∙ ap length c.as_slice-before.ensures.value in
    c.loop-raw.invariant
    ∙ raw-next c.args.cards.now c.loop-raw.scripts.items c.args.raws.now c.loop-raw.raw-index c.raw-item.result c.in-Ok-read_script.script c.loop-raw-test.true c.raw-item.is
    (ap (λ (n : ℕ). script_at c.args.cards.now n (raw_view c.raw-item.result)) (sym number) ∙ c.in-Ok-read_script.ensures)
    ∙ ap (λ (l : List ScriptData). scripts_after c.args.cards.now l (map raw_view (drop (c.loop-raw.raw-index + 1) c.args.raws.now))) (sym c.in-Ok-push.ensures.items)

pub returns : goal.returns
returns c = c.loop-raw.invariant ∙ raw-end c.args.cards.now c.loop-raw.scripts.items c.args.raws.now c.loop-raw.raw-index c.loop-raw-test.false
