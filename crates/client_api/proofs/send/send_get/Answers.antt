use Rattle.std.proofs.Common.{[]}
use Rattle.card_acts.specs.Acts.{answer_of}
use Rattle.client_api.specs.Calls.{Get, turn_of}
use Rattle.client_api.proofs.HandedBack.{exchanged_so, get_exchanges}
use Rattle.client_api.proofs.send.send_get.Goals as goal

pub returns-else-turn-eq0-clause-answer : goal.returns-else-turn-eq0-clause-answer
returns-else-turn-eq0-clause-answer g c x e =
    exchanged_so c.args.handle.now _ (answer_of c.exchange-else-turn-eq0.result) (turn_of (Get c.args.handle.now c.args.object) c.args.turn []) x
    c.exchange-else-turn-eq0.ensures.answer (get_exchanges c.args.handle.now c.args.object c.args.turn) e
