use Rattle.std.proofs.Common.{◌≡◌, ◌∙◌, ◌≤◌, true, false, refl, sym, rules, arith}
use Rattle.std.proofs.lemmas.Bool.Decides.{nat_tests}
use Rattle.piv_rules.specs.Asks.{Put}
use Rattle.card_commands.specs.Connections.{channel_of, pending_of}
use Rattle.card_commands.proofs.Carrying.{forbidden, carried, lost, put-table}
use Rattle.card_commands.proofs.put_data.place.Goals as goal

pub returns-then-not-is_permitted-clause-executes : goal.returns-then-not-is_permitted-clause-executes
returns-then-not-is_permitted-clause-executes g c block =
    let no : c.is_permitted.result ≡ false = search rules in
    forbidden g.S.Store.put_cost (Put c.args.id c.args.value.now) c.args.interface block c.only.result
    (channel_of c.args.conn.now) _ (g.S.Store.state c.args.store.now) (g.met.S.Store.due_rises c.args.store.now) refl (λ m. refl) refl refl c.requires.piv
    (λ m told. sym (c.is_permitted.ensures m told block) ∙ no) c.only.ensures
    (λ i. record (channel_of c.args.conn.now) { pending = pending_of (c.forget.ensures i) })

pub returns-in-Ok-clause-executes : goal.returns-in-Ok-clause-executes
returns-in-Ok-clause-executes g c block =
    let yes : c.is_permitted.result ≡ true = search rules in
    carried g.S.Store.put_cost (Put c.args.id c.args.value.now) c.args.interface block c.only-in-Ok.result c.put.result c.in-Ok.sw
    (channel_of c.args.conn.now) _ (g.S.Store.state c.args.store.now) (g.S.Store.state c.put.new.store)
    (put-table c.args.id c.args.value.now) refl c.requires.piv
    (λ m told. sym (c.is_permitted.ensures m told block) ∙ yes) c.put.ensures c.in-Ok.is c.only-in-Ok.ensures
    (λ i. record (channel_of c.args.conn.now) { pending = pending_of (c.forget.ensures i) })

pub returns-in-Err-clause-executes : goal.returns-in-Err-clause-executes
returns-in-Err-clause-executes g c block =
    let yes : c.is_permitted.result ≡ true = search rules in
    let small : c.args.id ≤ 32 = search rules in
    lost g.S.Store.put_cost (Put c.args.id c.args.value.now) c.args.interface block c.put.result c.in-Err.broken
    (channel_of c.args.conn.now) _ (g.S.Store.state c.args.store.now) (g.S.Store.state c.put.new.store)
    (put-table c.args.id c.args.value.now) c.requires.piv
    (λ m told. sym (c.is_permitted.ensures m told block) ∙ yes) c.put.ensures c.in-Err.is (λ m told. grind (arith, nat_tests))
