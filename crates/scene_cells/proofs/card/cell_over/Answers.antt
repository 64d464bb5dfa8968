use Rattle.scene_cells.proofs.CellLaws.{cell-of}
use Rattle.scene_cells.proofs.card.cell_over.Goals as goal

pub returns-in-Ok-clause-ok : goal.returns-in-Ok-clause-ok
returns-in-Ok-clause-ok g c =
    cell-of c.args.random.now c.args.plan.items c.args.turns (g.N.Nvm.state c.args.nvm) _ c.adopt-store.result c.in-Ok.cell
    c.new.ensures.state c.adopt-store.ensures.stands c.in-Ok.ensures.same c.requires.ready.on c.in-Ok.ensures.held
