use Rattle.std.proofs.Common.{ap}
use Rattle.piv_rules.specs.Asks.{Put, Compare}
use Rattle.piv_rules.specs.Lent.{ask_of, purpose_of}
use Rattle.card_commands.proofs.Sayings.{nothing-told, as-told}
use Rattle.card_commands.proofs.recovery.took_of.Goals as goal

pub returns-in-Compare : goal.returns-in-Compare
returns-in-Compare g c =
    as-told (g.S.Store.state c.args.store.now).mem (ask_of c.args.asked) (Compare c.in-Compare.r c.in-Compare.candidate (purpose_of c.in-Compare.purpose)) c.args.broken c.compared.result
    (ap ask_of c.in-Compare.is) c.compared.ensures

pub returns-in-Put : goal.returns-in-Put
returns-in-Put g c =
    as-told (g.S.Store.state c.args.store.now).mem (ask_of c.args.asked) (Put c.in-Put.id c.in-Put.value.now) c.args.broken c.placed.result (ap ask_of c.in-Put.is) c.placed.ensures

pub returns-in-Refused : goal.returns-in-Refused
returns-in-Refused g c = nothing-told (g.S.Store.state c.args.store.now).mem (ask_of c.args.asked) _ c.args.broken (ap ask_of c.in-Refused.is) tt

pub returns-in-Get : goal.returns-in-Get
returns-in-Get g c = nothing-told (g.S.Store.state c.args.store.now).mem (ask_of c.args.asked) _ c.args.broken (ap ask_of c.in-Get.is) tt

pub returns-in-Logout : goal.returns-in-Logout
returns-in-Logout g c = nothing-told (g.S.Store.state c.args.store.now).mem (ask_of c.args.asked) _ c.args.broken (ap ask_of c.in-Logout.is) tt

pub returns-in-Query : goal.returns-in-Query
returns-in-Query g c = nothing-told (g.S.Store.state c.args.store.now).mem (ask_of c.args.asked) _ c.args.broken (ap ask_of c.in-Query.is) tt

pub returns-in-Select : goal.returns-in-Select
returns-in-Select g c = nothing-told (g.S.Store.state c.args.store.now).mem (ask_of c.args.asked) _ c.args.broken (ap ask_of c.in-Select.is) tt

pub returns-in-Internal : goal.returns-in-Internal
returns-in-Internal g c = nothing-told (g.S.Store.state c.args.store.now).mem (ask_of c.args.asked) _ c.args.broken (ap ask_of c.in-Internal.is) tt

pub returns-in-AskChallenge : goal.returns-in-AskChallenge
returns-in-AskChallenge g c = nothing-told (g.S.Store.state c.args.store.now).mem (ask_of c.args.asked) _ c.args.broken (ap ask_of c.in-AskChallenge.is) tt

pub returns-in-External : goal.returns-in-External
returns-in-External g c = nothing-told (g.S.Store.state c.args.store.now).mem (ask_of c.args.asked) _ c.args.broken (ap ask_of c.in-External.is) tt

pub returns-in-AskWitness : goal.returns-in-AskWitness
returns-in-AskWitness g c = nothing-told (g.S.Store.state c.args.store.now).mem (ask_of c.args.asked) _ c.args.broken (ap ask_of c.in-AskWitness.is) tt

pub returns-in-Mutual : goal.returns-in-Mutual
returns-in-Mutual g c = nothing-told (g.S.Store.state c.args.store.now).mem (ask_of c.args.asked) _ c.args.broken (ap ask_of c.in-Mutual.is) tt
