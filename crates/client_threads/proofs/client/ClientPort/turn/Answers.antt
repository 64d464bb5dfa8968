use Rattle.card_acts.specs.Acts.{act_of, answer_of}
use Rattle.client_threads.proofs.Owning.{turned_stands, seen_rises, full_seen}
use Rattle.client_threads.proofs.client.ClientPort.turn.Goals as goal

pub returns-clause-stands : goal.returns-clause-stands
returns-clause-stands g c log stands =
    turned_stands g.G.Gates.gates c.args.card (act_of c.args.act) (answer_of c.take_turn.result) c.args.self.now c.take_turn.new.self c.take_turn.ensures log stands

pub returns-clause-seen : goal.returns-clause-seen
returns-clause-seen g c k =
    seen_rises g.G.Gates.gates c.args.card (act_of c.args.act) (answer_of c.take_turn.result) c.args.self.now c.take_turn.new.self c.take_turn.ensures k

pub returns-clause-full : goal.returns-clause-full
returns-clause-full g c none =
    full_seen g.G.Gates.gates c.args.card (act_of c.args.act) (answer_of c.take_turn.result) c.args.self.now c.take_turn.new.self c.take_turn.ensures none
