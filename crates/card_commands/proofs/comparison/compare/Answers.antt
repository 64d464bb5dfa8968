use Rattle.std.proofs.Common.{◌≡◌, ◌∙◌, true, false, refl, sym, rules}
use Rattle.piv_rules.specs.Asks.{Compare}
use Rattle.piv_rules.specs.Lent.{purpose_of}
use Rattle.card_commands.specs.Connections.{channel_of, pending_of}
use Rattle.card_commands.proofs.Carrying.{forbidden, carried, lost, compare-table, compare-still}
use Rattle.card_commands.proofs.comparison.compare.Goals as goal

pub returns-then-not-is_permitted-clause-executes : goal.returns-then-not-is_permitted-clause-executes
returns-then-not-is_permitted-clause-executes g c block =
    let no : c.is_permitted.result ≡ false = search rules in
    forbidden g.S.Store.put_cost (Compare c.args.r c.args.candidate.now (purpose_of c.args.purpose)) c.args.interface block c.only.result
    (channel_of c.args.conn.now) _ (g.S.Store.state c.args.store.now) (g.met.S.Store.due_rises c.args.store.now) refl (λ m. refl) refl refl c.requires.piv
    (λ m told. sym (c.is_permitted.ensures m told block) ∙ no) c.only.ensures
    ((λ i. record (channel_of c.args.conn.now) { pending = pending_of (c.forget.ensures i) }) ∙ compare-still c.args.r c.args.candidate.now (purpose_of c.args.purpose) (channel_of c.args.conn.now))

pub returns-in-Ok-clause-executes : goal.returns-in-Ok-clause-executes
returns-in-Ok-clause-executes g c block =
    let yes : c.is_permitted.result ≡ true = search rules in
    carried g.S.Store.put_cost (Compare c.args.r c.args.candidate.now (purpose_of c.args.purpose)) c.args.interface block c.only-in-Ok.result c.carry.result c.in-Ok.sw
    (channel_of c.args.conn.now) _ (g.S.Store.state c.args.store.now) (g.S.Store.state c.carry.new.store)
    (compare-table c.args.r c.args.candidate.now (purpose_of c.args.purpose)) refl c.requires.piv
    (λ m told. sym (c.is_permitted.ensures m told block) ∙ yes) c.carry.ensures c.in-Ok.is c.only-in-Ok.ensures (c.settle.ensures c.args.candidate.now)

pub returns-in-Err-clause-executes : goal.returns-in-Err-clause-executes
returns-in-Err-clause-executes g c block =
    let yes : c.is_permitted.result ≡ true = search rules in
    lost g.S.Store.put_cost (Compare c.args.r c.args.candidate.now (purpose_of c.args.purpose)) c.args.interface block c.carry.result c.in-Err.broken
    (channel_of c.args.conn.now) _ (g.S.Store.state c.args.store.now) (g.S.Store.state c.carry.new.store)
    (compare-table c.args.r c.args.candidate.now (purpose_of c.args.purpose)) c.requires.piv
    (λ m told. sym (c.is_permitted.ensures m told block) ∙ yes) c.carry.ensures c.in-Err.is (λ m told. rw told at c.requires.has)
