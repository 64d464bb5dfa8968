use Rattle.cell_port.specs.OwnedLaws.{seen-recorded}
use Rattle.cell_port.proofs.laws.owners_have_recorded_all.Goals as goal

pub returns : goal.returns
returns g c log k stood =
    seen-recorded g.S.Store.put_cost c.args.port.now.cells.items g.L.Beginnings.bases g.L.Beginnings.tells log k stood
