use Rattle.std.specs.Prelude.{reverse}
use Rattle.std.proofs.Common.{List, subst}
use Rattle.piv_rules.specs.Acts.{CardAct, CardRecord}
use Rattle.card_acts.specs.Acts.{answer_of}
use Rattle.card_cell.specs.Cells as cells
use Rattle.card_cell.specs.Holds.{IsHeld}
use Rattle.client_threads.proofs.Jobs.{followed_back}
use Rattle.client_threads.proofs.act_job.ActJobJobHeldCell.run.Goals as goal

pub returns-clause-stands : goal.returns-clause-stands
returns-clause-stands g c base records holds =
    let heard = answer_of c.turn.result in
    subst (λ (R : List CardRecord). IsHeld {S = g.row.S.Denot} {T = g.row.S-Ticket.Denot} {meaning = g.S.Store} g.S.Store.put_cost c.turn.new.self base R)
    (followed_back {S = g.row.S.Denot} {T = g.row.S-Ticket.Denot} {meaning = g.S.Store} c.args.self heard (record { cell = c.turn.new.self }) records)
    (subst (λ (a : CardAct). IsHeld {S = g.row.S.Denot} {T = g.row.S-Ticket.Denot} {meaning = g.S.Store} g.S.Store.put_cost c.turn.new.self base (cells.followed a c.turn.new.self heard (reverse records)))
    c.self.view_is (c.turn.ensures.held base (reverse records) holds))
