use Rattle.std.proofs.Common.{true, false, refl, subst}
use Rattle.piv_rules.specs.Acts.{entries}
use Rattle.piv_rules.specs.RandomBlocks.{draws_count}
use Rattle.card_app.specs.declared.card.Outcome.{Outcome}
use Rattle.card_app.specs.declared.card.Outcome.TheVariants as outcome
use Rattle.card_app.specs.After.{IsExchanged}
use Rattle.piv_cli.proofs.ExchangeLaws.{replies-by}
use Rattle.piv_cli.proofs.lines.reply_to.Goals as goal

pub returns-in-Part-clause-replies : goal.returns-in-Part-clause-replies
returns-in-Part-clause-replies g c B R known few =
    let card = c.exchange.follows.lender-at-none in
    let made = subst (λ (o : Outcome). IsExchanged g.S.Store.put_cost c.args.card.now card 1 c.args.bytes.now c.block.result.now o) c.in-Part.is c.exchange.follows.holds-at-none in
    replies-by g.S.Store.put_cost c.args.card.now card c.args.blocks.now c.args.blocks.now B R c.args.bytes.now c.block.result.now outcome.Part true _
    made known (c.block.ensures B.random (draws_count (entries R)) known.next) refl (λ heard. c.write_reply.ensures.written) known.next

pub returns-in-Rest-clause-replies : goal.returns-in-Rest-clause-replies
returns-in-Rest-clause-replies g c B R known few =
    let card = c.exchange.follows.lender-at-none in
    let made = subst (λ (o : Outcome). IsExchanged g.S.Store.put_cost c.args.card.now card 1 c.args.bytes.now c.block.result.now o) c.in-Rest.is c.exchange.follows.holds-at-none in
    replies-by g.S.Store.put_cost c.args.card.now card c.args.blocks.now c.args.blocks.now B R c.args.bytes.now c.block.result.now (outcome.Rest c.in-Rest.body c.in-Rest.last) true _
    made known (c.block.ensures B.random (draws_count (entries R)) known.next) refl (λ heard. c.write_reply-in-Rest.ensures.written) known.next

pub returns-in-Bad-clause-replies : goal.returns-in-Bad-clause-replies
returns-in-Bad-clause-replies g c B R known few =
    let card = c.exchange.follows.lender-at-none in
    let made = subst (λ (o : Outcome). IsExchanged g.S.Store.put_cost c.args.card.now card 1 c.args.bytes.now c.block.result.now o) c.in-Bad.is c.exchange.follows.holds-at-none in
    replies-by g.S.Store.put_cost c.args.card.now card c.args.blocks.now c.args.blocks.now B R c.args.bytes.now c.block.result.now (outcome.Bad c.in-Bad.sw) true _
    made known (c.block.ensures B.random (draws_count (entries R)) known.next) refl (λ heard. c.write_reply-in-Bad.ensures.written) known.next

pub returns-in-Call-clause-replies : goal.returns-in-Call-clause-replies
returns-in-Call-clause-replies g c B R known few =
    let card = c.exchange.follows.lender-at-none in
    let made = subst (λ (o : Outcome). IsExchanged g.S.Store.put_cost c.args.card.now card 1 c.args.bytes.now c.block.result.now o) c.in-Call.is c.exchange.follows.holds-at-none in
    replies-by g.S.Store.put_cost c.args.card.now card c.args.blocks.now c.draw_if.new.self B R c.args.bytes.now c.block.result.now (outcome.Call c.in-Call.command c.in-Call.sw c.in-Call.body c.in-Call.last c.in-Call.drew) true _
    made known (c.block.ensures B.random (draws_count (entries R)) known.next) refl (λ heard. c.write_reply-in-Call.ensures.written) (c.draw_if.ensures B.random (draws_count (entries R)) few known.next)

pub returns-in-Mute-clause-replies : goal.returns-in-Mute-clause-replies
returns-in-Mute-clause-replies g c B R known few =
    let card = c.exchange.follows.lender-at-none in
    let made = subst (λ (o : Outcome). IsExchanged g.S.Store.put_cost c.args.card.now card 1 c.args.bytes.now c.block.result.now o) c.in-Mute.is c.exchange.follows.holds-at-none in
    replies-by g.S.Store.put_cost c.args.card.now card c.args.blocks.now c.args.blocks.now B R c.args.bytes.now c.block.result.now outcome.Mute false _
    made known (c.block.ensures B.random (draws_count (entries R)) known.next) refl (λ heard. absurd (cc)) known.next
