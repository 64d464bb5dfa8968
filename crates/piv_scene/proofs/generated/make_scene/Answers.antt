use Rattle.std.proofs.Common.{◌≡◌, ℕ, List, [], ◌∷◌, ◌++◌, map, ap, ◌∙◌, arith}
use Rattle.std.specs.List.{range_with_len}
use Rattle.scene_cards.specs.CardValues.{CardValue}
use Rattle.piv_scene.specs.GeneratedScene.{generated_script}
use Rattle.piv_scene.proofs.GeneratedLaws.{made-sound}
use Rattle.piv_scene.proofs.generated.make_scene.Goals as goal

pub new-requires-2 : goal.new-requires-2
new-requires-2 c =
    let last : c.loop-k.k ≡ 4 = let past = c.loop-k-test.false in let end = c.loop-k.auto.k-end in omega (arith, past, end) in
    made-sound c.args.n c.args.number c.push.new.self.items c.loop-k.scripts.items c.new.result.items c.requires.few
    (c.in_ok-push.ensures.items
    ∙ ap (λ (cards : List CardValue). cards ++ c.in_ok-generated_card.field-0 ∷ []) c.new-cards.ensures.items
    ∙ ap (λ (card : CardValue). card ∷ []) c.in_ok-generated_card.ensures)
    (c.loop-k.invariant ∙ ap (λ (k : ℕ). map (generated_script c.args.n c.args.number) (range_with_len 0 k)) last)
    c.new.ensures.items
