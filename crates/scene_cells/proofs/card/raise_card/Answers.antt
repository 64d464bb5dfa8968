use Rattle.std.proofs.Common.{◌<◌, ◌^◌, List, subst}
use Rattle.power_loss.specs.declared.loss.Loss.{Loss}
use Rattle.power_loss.specs.Plans.{write_numbers}
use Rattle.nvm_device.specs.declared.loss.How.{How}
use Rattle.scene_cells.specs.Raised.{IsCellOf}
use Rattle.scene_cells.proofs.CellLaws.{raised}
use Rattle.scene_cells.proofs.card.raise_card.Goals as goal

pub returns-in-Ok-cell_over-clause-ok : goal.returns-in-Ok-cell_over-clause-ok
returns-in-Ok-cell_over-clause-ok g c =
    let low : c.lost-lost.result < 2 ^ 64 = c.lost-lost.type_inv in
    raised c.args.start.now c.args.losses.now c.args.turns c.lost-lost.result (g.N.Nvm.state c.args.nvm) (g.N.Nvm.state c.in-Ok-personalise.nvm)
    c.in-Ok-cell_over.cell c.lost-lost.ensures low c.in-Ok-personalise.ensures.ok
    (subst (λ (l : List (Loss How)). IsCellOf c.args.start.now.random (write_numbers l) c.args.turns (g.N.Nvm.state c.in-Ok-personalise.nvm) c.in-Ok-cell_over.cell)
    c.in-Ok.ensures c.in-Ok-cell_over.ensures.ok)
