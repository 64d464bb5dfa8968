use Rattle.std.proofs.Common.{◌<◌, ◌≤◌, List, ℕ, length, map, Vec, Global, refl, ap, ◌∙◌, arith}
use Rattle.std.specs.List.{zip}
use Rattle.std.proofs.lemmas.Result.{err_from_is_err_and}
use Rattle.piv_model.specs.declared.answers.ApiAnswer.{ApiAnswer}
use Rattle.run_text.specs.RunTexts.{script_text}
use Rattle.run_text.proofs.Pieces.{both-at, both-length, mapped-at, same-text, piece-next, piece-stopped, pieces-end}
use Rattle.run_text.proofs.run.print_scripts.Goals as goal

pub returns-in_err-print_script : goal.returns-in_err-print_script
returns-in_err-print_script g c =
    let p = err_from_is_err_and c.from_residual.result c.from_residual.ensures.1 in
    let scripts = c.args.scene.now.scripts in
    let lists = map (λ (a : Vec ApiAnswer Global). a.items) c.args.answers.now in
    let k = c.scripts.k in
    let script = c.script.result.now in
    let items = c.index-answers-k.result.items in
    let within : k < length c.args.answers.now =
    let t = c.scripts-test.true in let e = c.scripts-k-end.ensures.count in let r = c.requires in omega (arith, t, e, r) in
    let at = both-at scripts lists k script items c.script.ensures.value
    (mapped-at (λ (a : Vec ApiAnswer Global). a.items) c.args.answers.now k (length c.args.answers.now) c.index-answers-k.result refl within c.index-answers-k.is) in
    let printed = same-text g.K.Sink.taken g.K.Sink.flushed g.K.Sink.faults (script_text c.name.result.now c.deref.result.now) (script_text script.name items)
    (ap (λ (n : List ℕ). script_text n c.deref.result.now) c.name.ensures ∙ ap (script_text script.name) c.deref.ensures.value) c.in_err-print_script.ensures in
    rw (p.1, p.2) (piece-stopped g.K.Sink.taken g.K.Sink.flushed g.K.Sink.faults (λ x. script_text x.0.name x.1) (zip scripts lists) k (script, items) c.args.sink.now c.scripts.sink _ _ at
    c.scripts.invariant printed)

pub scripts-preserved : goal.scripts-preserved
scripts-preserved g c =
    let scripts = c.args.scene.now.scripts in
    let lists = map (λ (a : Vec ApiAnswer Global). a.items) c.args.answers.now in
    let k = c.scripts.k in
    let script = c.script.result.now in
    let items = c.index-answers-k.result.items in
    let within : k < length c.args.answers.now =
    let t = c.scripts-test.true in let e = c.scripts-k-end.ensures.count in let r = c.requires in omega (arith, t, e, r) in
    let at = both-at scripts lists k script items c.script.ensures.value
    (mapped-at (λ (a : Vec ApiAnswer Global). a.items) c.args.answers.now k (length c.args.answers.now) c.index-answers-k.result refl within c.index-answers-k.is) in
    let printed = same-text g.K.Sink.taken g.K.Sink.flushed g.K.Sink.faults (script_text c.name.result.now c.deref.result.now) (script_text script.name items)
    (ap (λ (n : List ℕ). script_text n c.deref.result.now) c.name.ensures ∙ ap (script_text script.name) c.deref.ensures.value) c.in_ok-print_script.ensures in
    piece-next g.K.Sink.taken g.K.Sink.flushed g.K.Sink.faults (λ x. script_text x.0.name x.1) (zip scripts lists) k (script, items) c.args.sink.now c.scripts.sink _ _ at
    c.scripts.invariant printed

pub returns : goal.returns
returns g c =
    let scripts = c.args.scene.now.scripts in
    let lists = map (λ (a : Vec ApiAnswer Global). a.items) c.args.answers.now in
    let past : length (zip scripts lists) ≤ c.scripts.k =
    let few = both-length scripts lists in let end = c.scripts-test.false in let e = c.scripts-k-end.ensures.count in omega (arith, few, end, e) in
    pieces-end g.K.Sink.taken g.K.Sink.flushed g.K.Sink.faults (λ x. script_text x.0.name x.1) (zip scripts lists) c.scripts.k c.args.sink.now c.scripts.sink _ past c.scripts.invariant
