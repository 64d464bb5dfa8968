use Rattle.std.proofs.Common.{◌≡◌, false, rules}
use Rattle.std.specs.Prelude.{not, ◌&&◌}
use Rattle.piv_model.specs.Commands.{apdu_of}
use Rattle.piv_rules.specs.Frames.{is_get_response}
use Rattle.card_app.proofs.WholeLaws.{whole-made}
use Rattle.card_app.proofs.exchanging.exchange_on.Goals as goal
use Rattle.card_app.proofs.exchanging.exchange_on.Goals.{else-not-has_chain-via-then-not-has_chain+else-is_fetch, else-not-has_chain-via-else-not-has_chain}

pub returns-in-Whole-clause-made : goal.returns-in-Whole-clause-made
returns-in-Whole-clause-made g c =
    let other : (not c.args.joiner.now.is_chain && is_get_response (apdu_of c.in-Ok.apdu)) ≡ false = elim c.else-not-has_chain.branch [
      | else-not-has_chain-via-then-not-has_chain+else-is_fetch w ↦ search rules
      | else-not-has_chain-via-else-not-has_chain w ↦ search rules
    ] in
    whole-made g.S.Store.put_cost c.args.bytes.now c.args.block.now c.carry.result c.args.joiner.now c.join.new.self c.args.pieces.now c.args.pieces.now c.carry.new.pieces c.args.connection.now c.carry.new.connection (apdu_of c.in-Ok.apdu) _ _ c.in-Ok.ensures.read other c.in-Whole.ensures (c.carry.ensures.carried c.args.pieces.now)
