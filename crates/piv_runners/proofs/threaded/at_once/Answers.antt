use Rattle.std.specs.List.{All}
use Rattle.std.proofs.Common.{◌≡◌, ◌≤◌, ◌+◌, length, drop, map, ap, sym, subst, ◌∙◌, arith}
use Rattle.std.proofs.lemmas.List.Elements.{All-drop}
use Rattle.scene_cells.specs.Cells.{device_in}
use Rattle.scene_cells.specs.Turns.{scene_turns}
use Rattle.scene_runs.proofs.Holding.{held-all}
use Rattle.scene_runs.proofs.Sizes.{ready-sizes, sizes-back}
use Rattle.scene_runs.proofs.Standing.{if-ok, others-stand}
use Rattle.piv_runners.proofs.Leaving.{ran-together}
use Rattle.piv_runners.proofs.threaded.at_once.Goals as goal

pub run_raised-requires-clause-held : goal.run_raised-requires-clause-held
run_raised-requires-clause-held g c κs within =
    held-all g.N.Nvm.state (λ cell. device_in cell) (scene_turns c.args.scene.now.scripts) c.args.scene.now.cards c.args.devices.now.items
    c.in-Ok-raise.raised.losses.items c.in-Ok-raise.raised.cells.items (let few = c.holds.ensures.few_cards in let many = c.requires.eight in omega (arith, few, many)) c.in-Ok-raise.ensures.ok

pub returns-in-Ok-raise-clause-ran : goal.returns-in-Ok-raise-clause-ran
returns-in-Ok-raise-clause-ran g c =
    let raised = c.in-Ok-raise.raised in
    let ok = c.in-Ok-raise.ensures.ok in
    let old = c.args.devices.now.items in
    let enough : length c.args.scene.now.cards ≤ length old = let few = c.holds.ensures.few_cards in let many = c.requires.eight in omega (arith, few, many) in
    let count : length c.run_raised.new.devices.items ≡ length c.args.scene.now.cards + length (drop (length c.args.scene.now.cards) old) =
    let all = c.run_raised.ensures.many in let some = ok.many in let rest = ap length c.in-Ok-raise.ensures.rest in omega (arith, all, some, rest) in
    let others = others-stand (length c.args.scene.now.cards) old c.run_raised.new.devices.items enough count
    (subst (λ n. drop n c.run_raised.new.devices.items ≡ drop (length c.args.scene.now.cards) old) ok.many
    (c.run_raised.ensures.others ∙ c.in-Ok-raise.ensures.rest)) in
    if-ok c.run_raised.result c.run_raised.ensures.ran (λ out r. (
      r.0,
      r.1,
      ran-together g.N.Nvm.state (λ cell. device_in cell) c.args.scene.now old c.run_raised.new.devices.items raised.losses.items raised.cells.items
          (map (λ answers. answers.items) out.answers.items) (map (λ h. h.past) out.cards.items) r.0 r.1 ok r.2 others,
    ))

pub returns-in-Ok-raise-clause-sizes : goal.returns-in-Ok-raise-clause-sizes
returns-in-Ok-raise-clause-sizes g c =
    c.run_raised.ensures.sizes (subst (λ ds. All (λ device. 1114112 ≤ (g.N.Nvm.state device).size) ds) (sym c.in-Ok-raise.ensures.rest)
    (All-drop (λ device. 1114112 ≤ (g.N.Nvm.state device).size) (length c.args.scene.now.cards) c.args.devices.now.items
    (ready-sizes g.N.Nvm.state c.args.devices.now.items c.requires.ready)))

pub returns-in-Err-clause-sizes : goal.returns-in-Err-clause-sizes
returns-in-Err-clause-sizes g c =
    sizes-back g.N.Nvm.state c.args.scene.now.cards c.in-Err.fault c.args.devices.now.items c.raise.new.devices.items
    (let few = c.holds.ensures.few_cards in let many = c.requires.eight in omega (arith, few, many)) c.requires.ready c.in-Err.ensures.back
