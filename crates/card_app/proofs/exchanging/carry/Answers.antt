use Rattle.std.proofs.Common.{refl}
use Rattle.card_app.specs.Kept.{attached_as}
use Rattle.card_app.proofs.WholeLaws.{carried-call}
use Rattle.card_app.proofs.exchanging.carry.Goals as goal

pub returns-in-Ok-clause-carried : goal.returns-in-Ok-clause-carried
returns-in-Ok-clause-carried g c before =
    carried-call g.S.Store.put_cost c.args.block.now c.args.most c.first_piece-last.result c.in-Ok.done c.args.joiner.now.command _
    (attached_as c.args.joiner.now before c.args.connection.now)
    (attached_as c.args.joiner.now c.first_piece-last.new.pieces (record c.args.connection.now { conn = c.execute.new.conn })) c.first_piece-last.new.pieces _ _ c.execute.new.out.waiting
    c.command.ensures c.first_piece-last.ensures.reply refl c.first_piece-last.ensures.left c.in-Ok.ensures.answered c.in-Ok.ensures.due
