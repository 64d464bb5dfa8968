use Rattle.std.proofs.Common.{◌≡◌, [], false, refl, ap, rules}
use Rattle.piv_rules.specs.Asks.{Refused, Get, Put, Logout, Query, Compare, Internal, AskChallenge, External, AskWitness, Mutual}
use Rattle.piv_rules.specs.Lent.{ask_of, purpose_of}
use Rattle.card_commands.specs.Connections.{channel_of, pending_of}
use Rattle.card_commands.proofs.Carrying.{unserved}
use Rattle.card_commands.proofs.Listed.{word-for, words-for}
use Rattle.card_commands.proofs.Dispatching.{carried-asked, quiet-asked}
use Rattle.card_commands.proofs.execution.answer.Goals as goal

pub returns-then-not-conn-clause-executes : goal.returns-then-not-conn-clause-executes
returns-then-not-conn-clause-executes g c =
    let apart : c.args.conn.now.piv ≡ false = search rules in
    carried-asked g.S.Store.put_cost (ask_of c.args.asked) (ask_of c.args.asked) c.args.interface c.args.block.now _ c.args.out.now.waiting []
    (channel_of c.args.conn.now) _ (g.S.Store.state c.args.store.now) (g.S.Store.state c.args.store.now) refl c.requires.empty
    (unserved g.S.Store.put_cost (ask_of c.args.asked) c.args.interface c.args.block.now c.only.result (channel_of c.args.conn.now) _ (g.S.Store.state c.args.store.now) (g.met.S.Store.due_rises c.args.store.now) apart c.only.ensures
    (λ i. record (channel_of c.args.conn.now) { pending = pending_of (c.forget.ensures i) }))

pub returns-in-Refused-clause-executes : goal.returns-in-Refused-clause-executes
returns-in-Refused-clause-executes g c =
    quiet-asked g.S.Store.put_cost (ask_of c.args.asked) (Refused c.in-Refused.word) c.args.interface c.args.block.now c.refuse.result c.args.out.now.waiting []
    (channel_of c.args.conn.now) (channel_of c.refuse.new.conn) (g.S.Store.state c.args.store.now) (g.met.S.Store.due_rises c.args.store.now)
    (ap ask_of c.in-Refused.is) c.requires.empty tt (λ m told. c.refuse.ensures.replies m c.args.interface c.args.block.now)

pub returns-in-Get-clause-executes : goal.returns-in-Get-clause-executes
returns-in-Get-clause-executes g c =
    quiet-asked g.S.Store.put_cost (ask_of c.args.asked) (Get c.in-Get.id) c.args.interface c.args.block.now c.get.result c.get.new.out.waiting c.get.new.out.waiting
    (channel_of c.args.conn.now) (channel_of c.get.new.conn) (g.S.Store.state c.args.store.now) (g.met.S.Store.due_rises c.args.store.now)
    (ap ask_of c.in-Get.is) refl tt (c.get.ensures.replies c.args.block.now)

pub returns-in-Logout-clause-executes : goal.returns-in-Logout-clause-executes
returns-in-Logout-clause-executes g c =
    quiet-asked g.S.Store.put_cost (ask_of c.args.asked) (Logout c.in-Logout.r) c.args.interface c.args.block.now c.log_out.result c.args.out.now.waiting []
    (channel_of c.args.conn.now) (channel_of c.log_out.new.conn) (g.S.Store.state c.args.store.now) (g.met.S.Store.due_rises c.args.store.now)
    (ap ask_of c.in-Logout.is) c.requires.empty tt (λ m told. c.log_out.ensures.replies m c.args.block.now)

pub returns-in-Query-clause-executes : goal.returns-in-Query-clause-executes
returns-in-Query-clause-executes g c =
    quiet-asked g.S.Store.put_cost (ask_of c.args.asked) (Query c.in-Query.r) c.args.interface c.args.block.now c.query.result c.args.out.now.waiting []
    (channel_of c.args.conn.now) (channel_of c.query.new.conn) (g.S.Store.state c.args.store.now) (g.met.S.Store.due_rises c.args.store.now)
    (ap ask_of c.in-Query.is) c.requires.empty tt (c.query.ensures.replies c.args.block.now)

pub returns-in-Internal-clause-executes : goal.returns-in-Internal-clause-executes
returns-in-Internal-clause-executes g c =
    quiet-asked g.S.Store.put_cost (ask_of c.args.asked) (Internal c.in-Internal.challenge) c.args.interface c.args.block.now c.authenticate.result c.authenticate.new.out.waiting c.authenticate.new.out.waiting
    (channel_of c.args.conn.now) (channel_of c.authenticate.new.conn) (g.S.Store.state c.args.store.now) (g.met.S.Store.due_rises c.args.store.now)
    (ap ask_of c.in-Internal.is) refl tt c.authenticate.ensures.replies

pub returns-in-AskChallenge-clause-executes : goal.returns-in-AskChallenge-clause-executes
returns-in-AskChallenge-clause-executes g c =
    quiet-asked g.S.Store.put_cost (ask_of c.args.asked) (AskChallenge) c.args.interface c.args.block.now c.authenticate-in-AskChallenge.result c.authenticate-in-AskChallenge.new.out.waiting c.authenticate-in-AskChallenge.new.out.waiting
    (channel_of c.args.conn.now) (channel_of c.authenticate-in-AskChallenge.new.conn) (g.S.Store.state c.args.store.now) (g.met.S.Store.due_rises c.args.store.now)
    (ap ask_of c.in-AskChallenge.is) refl tt c.authenticate-in-AskChallenge.ensures.replies

pub returns-in-External-clause-executes : goal.returns-in-External-clause-executes
returns-in-External-clause-executes g c =
    quiet-asked g.S.Store.put_cost (ask_of c.args.asked) (External c.in-External.response) c.args.interface c.args.block.now c.authenticate-in-External.result c.authenticate-in-External.new.out.waiting c.authenticate-in-External.new.out.waiting
    (channel_of c.args.conn.now) (channel_of c.authenticate-in-External.new.conn) (g.S.Store.state c.args.store.now) (g.met.S.Store.due_rises c.args.store.now)
    (ap ask_of c.in-External.is) refl tt c.authenticate-in-External.ensures.replies

pub returns-in-AskWitness-clause-executes : goal.returns-in-AskWitness-clause-executes
returns-in-AskWitness-clause-executes g c =
    quiet-asked g.S.Store.put_cost (ask_of c.args.asked) (AskWitness) c.args.interface c.args.block.now c.authenticate-in-AskWitness.result c.authenticate-in-AskWitness.new.out.waiting c.authenticate-in-AskWitness.new.out.waiting
    (channel_of c.args.conn.now) (channel_of c.authenticate-in-AskWitness.new.conn) (g.S.Store.state c.args.store.now) (g.met.S.Store.due_rises c.args.store.now)
    (ap ask_of c.in-AskWitness.is) refl tt c.authenticate-in-AskWitness.ensures.replies

pub returns-in-Mutual-clause-executes : goal.returns-in-Mutual-clause-executes
returns-in-Mutual-clause-executes g c =
    quiet-asked g.S.Store.put_cost (ask_of c.args.asked) (Mutual c.in-Mutual.witness c.in-Mutual.challenge) c.args.interface c.args.block.now c.authenticate-in-Mutual.result c.authenticate-in-Mutual.new.out.waiting c.authenticate-in-Mutual.new.out.waiting
    (channel_of c.args.conn.now) (channel_of c.authenticate-in-Mutual.new.conn) (g.S.Store.state c.args.store.now) (g.met.S.Store.due_rises c.args.store.now)
    (ap ask_of c.in-Mutual.is) refl tt c.authenticate-in-Mutual.ensures.replies

pub returns-in-Put-clause-executes : goal.returns-in-Put-clause-executes
returns-in-Put-clause-executes g c =
    carried-asked g.S.Store.put_cost (ask_of c.args.asked) (Put c.in-Put.id c.in-Put.value.now) c.args.interface c.args.block.now c.place.result c.args.out.now.waiting []
    (channel_of c.args.conn.now) (channel_of c.place.new.conn) (g.S.Store.state c.args.store.now) (g.S.Store.state c.place.new.store) (ap ask_of c.in-Put.is) c.requires.empty (c.place.ensures.executes c.args.block.now)

pub returns-in-Compare-clause-executes : goal.returns-in-Compare-clause-executes
returns-in-Compare-clause-executes g c =
    carried-asked g.S.Store.put_cost (ask_of c.args.asked) (Compare c.in-Compare.r c.in-Compare.candidate (purpose_of c.in-Compare.purpose)) c.args.interface c.args.block.now c.compare.result c.args.out.now.waiting []
    (channel_of c.args.conn.now) (channel_of c.compare.new.conn) (g.S.Store.state c.args.store.now) (g.S.Store.state c.compare.new.store) (ap ask_of c.in-Compare.is) c.requires.empty (c.compare.ensures.executes c.args.block.now)

pub returns-in-Refused-clause-word : goal.returns-in-Refused-clause-word
returns-in-Refused-clause-word g c = word-for (ask_of c.args.asked) (Refused c.in-Refused.word) c.refuse.result.sw (ap ask_of c.in-Refused.is) c.refuse.ensures.word

pub returns-in-Get-clause-word : goal.returns-in-Get-clause-word
returns-in-Get-clause-word g c = word-for (ask_of c.args.asked) (Get c.in-Get.id) c.get.result.sw (ap ask_of c.in-Get.is) c.get.ensures.word

pub returns-in-Logout-clause-word : goal.returns-in-Logout-clause-word
returns-in-Logout-clause-word g c = word-for (ask_of c.args.asked) (Logout c.in-Logout.r) c.log_out.result.sw (ap ask_of c.in-Logout.is) c.log_out.ensures.word

pub returns-in-Query-clause-word : goal.returns-in-Query-clause-word
returns-in-Query-clause-word g c = word-for (ask_of c.args.asked) (Query c.in-Query.r) c.query.result.sw (ap ask_of c.in-Query.is) c.query.ensures.word

pub returns-in-Internal-clause-word : goal.returns-in-Internal-clause-word
returns-in-Internal-clause-word g c = word-for (ask_of c.args.asked) (Internal c.in-Internal.challenge) c.authenticate.result.sw (ap ask_of c.in-Internal.is) c.authenticate.ensures.word

pub returns-in-AskChallenge-clause-word : goal.returns-in-AskChallenge-clause-word
returns-in-AskChallenge-clause-word g c = word-for (ask_of c.args.asked) (AskChallenge) c.authenticate-in-AskChallenge.result.sw (ap ask_of c.in-AskChallenge.is) c.authenticate-in-AskChallenge.ensures.word

pub returns-in-External-clause-word : goal.returns-in-External-clause-word
returns-in-External-clause-word g c = word-for (ask_of c.args.asked) (External c.in-External.response) c.authenticate-in-External.result.sw (ap ask_of c.in-External.is) c.authenticate-in-External.ensures.word

pub returns-in-AskWitness-clause-word : goal.returns-in-AskWitness-clause-word
returns-in-AskWitness-clause-word g c = word-for (ask_of c.args.asked) (AskWitness) c.authenticate-in-AskWitness.result.sw (ap ask_of c.in-AskWitness.is) c.authenticate-in-AskWitness.ensures.word

pub returns-in-Mutual-clause-word : goal.returns-in-Mutual-clause-word
returns-in-Mutual-clause-word g c = word-for (ask_of c.args.asked) (Mutual c.in-Mutual.witness c.in-Mutual.challenge) c.authenticate-in-Mutual.result.sw (ap ask_of c.in-Mutual.is) c.authenticate-in-Mutual.ensures.word

pub returns-in-Put-clause-word : goal.returns-in-Put-clause-word
returns-in-Put-clause-word g c = words-for (ask_of c.args.asked) (Put c.in-Put.id c.in-Put.value.now) c.place.result (ap ask_of c.in-Put.is) c.place.ensures.word

pub returns-in-Compare-clause-word : goal.returns-in-Compare-clause-word
returns-in-Compare-clause-word g c = words-for (ask_of c.args.asked) (Compare c.in-Compare.r c.in-Compare.candidate (purpose_of c.in-Compare.purpose)) c.compare.result (ap ask_of c.in-Compare.is) c.compare.ensures.word
