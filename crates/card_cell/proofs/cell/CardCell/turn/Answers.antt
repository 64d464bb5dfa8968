use Rattle.card_acts.specs.Acts.{act_of, answer_of}
use Rattle.card_cell.proofs.HoldLaws.{followed-stands, followed-held}
use Rattle.card_cell.proofs.cell.CardCell.turn.Goals as goal

pub returns-clause-stands : goal.returns-clause-stands
returns-clause-stands g c B R stands =
    followed-stands g.S.Store.put_cost c.args.self.now c.make.new.self (act_of c.args.act) (answer_of c.make.result) B R c.make.ensures.some c.make.ensures.turned stands

pub returns-clause-held : goal.returns-clause-held
returns-clause-held g c base R held =
    followed-held g.S.Store.put_cost c.args.self.now c.make.new.self (act_of c.args.act) (answer_of c.make.result) base R c.make.ensures.some c.make.ensures.turned held
