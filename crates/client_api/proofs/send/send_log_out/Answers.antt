use Rattle.std.proofs.Common.{[]}
use Rattle.card_acts.specs.Acts.{answer_of}
use Rattle.client_api.specs.Calls.{LogOut, turn_of}
use Rattle.client_api.proofs.HandedBack.{exchanged_so, logout_exchanges}
use Rattle.client_api.proofs.send.send_log_out.Goals as goal

pub returns-else-turn-eq1-clause-answer : goal.returns-else-turn-eq1-clause-answer
returns-else-turn-eq1-clause-answer g c x e =
    exchanged_so c.args.handle.now _ (answer_of c.exchange-else-turn-eq1.result) (turn_of (LogOut c.args.handle.now) c.args.turn []) x
    c.exchange-else-turn-eq1.ensures.answer (logout_exchanges c.args.handle.now c.args.turn) e
