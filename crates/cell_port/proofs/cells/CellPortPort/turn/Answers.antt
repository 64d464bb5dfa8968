use Rattle.card_acts.specs.Acts.{act_of, answer_of}
use Rattle.cell_port.proofs.Owning.{there, owner-turned, turns-set, seen-set, full-set, kept, kept-full}
use Rattle.cell_port.proofs.cells.CellPortPort.turn.Goals as goal

pub returns-clause-stands : goal.returns-clause-stands
returns-clause-stands g c log stood =
    let keeps = kept g.S.Store.put_cost c.index_mut-cell.result.now c.turn.new.self (act_of c.args.act) c.turn.result c.turn.ensures.same c.turn.ensures.turned in
    owner-turned g.S.Store.put_cost c.args.self.now.cells.items g.L.Beginnings.bases g.L.Beginnings.tells c.args.card c.index_mut-cell.result.now c.turn.new.self
    (act_of c.args.act) (answer_of c.turn.result) log c.requires.card
    (there c.args.self.now.cells.items c.args.card c.index_mut-cell.result.now c.requires.card c.index_mut-cell.ensures.value) keeps.tells c.turn.ensures.held stood

pub returns-clause-turns : goal.returns-clause-turns
returns-clause-turns g c k =
    let keeps = kept g.S.Store.put_cost c.index_mut-cell.result.now c.turn.new.self (act_of c.args.act) c.turn.result c.turn.ensures.same c.turn.ensures.turned in
    turns-set c.args.self.now.cells.items c.args.card k c.index_mut-cell.result.now c.turn.new.self c.requires.card
    (there c.args.self.now.cells.items c.args.card c.index_mut-cell.result.now c.requires.card c.index_mut-cell.ensures.value) keeps.turns

pub returns-clause-seen : goal.returns-clause-seen
returns-clause-seen g c k =
    let keeps = kept g.S.Store.put_cost c.index_mut-cell.result.now c.turn.new.self (act_of c.args.act) c.turn.result c.turn.ensures.same c.turn.ensures.turned in
    seen-set c.args.self.now.cells.items c.args.card k c.index_mut-cell.result.now c.turn.new.self c.requires.card
    (there c.args.self.now.cells.items c.args.card c.index_mut-cell.result.now c.requires.card c.index_mut-cell.ensures.value) keeps.grows

pub returns-clause-full : goal.returns-clause-full
returns-clause-full g c is =
    full-set c.args.self.now.cells.items c.args.card c.turn.new.self c.requires.card
    (kept-full c.index_mut-cell.result.now c.turn.new.self c.turn.result c.turn.ensures.same c.turn.ensures.full.0 is)
