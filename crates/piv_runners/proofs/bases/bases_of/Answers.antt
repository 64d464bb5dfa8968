use Rattle.std.proofs.Common.{rules, List, [], ◌∷◌, ◌++◌, ap, ◌∙◌, arith}
use Rattle.card_cell.specs.declared.base.CellBase.{CellBase}
use Rattle.piv_runners.proofs.CellBases.{bases-more}
use Rattle.piv_runners.proofs.bases.bases_of.Goals as goal

pub push_reserved-requires : goal.push_reserved-requires
push_reserved-requires c =
    let many = c.loop-card.invariant.many in
    let room = c.loop-card.invariant.room in
    let low = c.loop-card-test.true in
    let len = c.loop-card.bases.ok in
    omega (arith, many, room, low, len)

pub loop-card-preserved : goal.loop-card-preserved
loop-card-preserved c =
    let so_far = c.loop-card.invariant in
    let base = c.in_ok-cell_base.field-0 in
    record {
      many = search rules;
      bases = c.push_reserved.ensures.items ∙ ap (λ (l : List CellBase). l ++ base ∷ []) so_far.bases
          ∙ bases-more c.scene_turns-turns.result c.args.scene.now.cards c.args.losses.now c.loop-card.card base c.requires c.loop-card-test.true c.in_ok-cell_base.ensures;
      room = search rules;
    }
