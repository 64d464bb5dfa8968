use Rattle.std.specs.Prelude.{is_some, IsSome}
use Rattle.std.proofs.Common.{ℕ, List, Option, None, false, refl, sym, ap, subst, ◌∙◌}
use Rattle.piv_model.specs.declared.kinds.Took.TheVariants.{Nothing}
use Rattle.piv_model.specs.Commands.{CardCommand, command_of}
use Rattle.piv_model.specs.Entries.{Call, Cut}
use Rattle.piv_rules.specs.Acts.{entries, Exchange, Replied}
use Rattle.card_app.specs.declared.card.Outcome.{Outcome}
use Rattle.card_app.specs.declared.card.Outcome.TheVariants as outcome
use Rattle.card_app.specs.After.{IsExchangedOn, epoch_at}
use Rattle.card_app.specs.Outcomes.{entry_by}
use Rattle.card_app.specs.Stands.{held_card, state_of, store_state}
use Rattle.card_cell.specs.declared.exchanging.Exchanged.{Exchanged}
use Rattle.card_cell.specs.declared.exchanging.Exchanged.TheVariants as made
use Rattle.card_cell.specs.Exchanged.{latest, answer_made, IsEntryOf}
use Rattle.card_cell.proofs.NotedLaws.{noted, noted-stands, noted-plan, noted-due, noted-kind, bears, noted-counted, same-counted, kept-counted, lost-counted, some-is}
use Rattle.card_cell.proofs.exchanging.exchange.Goals as goal

pub returns-in-Part-clause-noted : goal.returns-in-Part-clause-noted
returns-in-Part-clause-noted g c =
    let on = subst (λ (o : Outcome). IsExchangedOn g.S.Store.put_cost c.args.card.now c.exchange.follows.lender-at-none c.args.c c.args.bytes.now c.args.block.now o) c.in-Part.is (c.exchange.follows.holds-at-none.on c.requires.on) in
    noted _ (entry_by c.args.c c.args.block.now (state_of c.exchange.follows.lender-at-none).running outcome.Part) c.args.history.now c.push.new.self (held_card c.args.card.now) (held_card c.exchange.follows.lender-at-none)
    c.push.ensures refl on.held

pub returns-in-Part-clause-stands : goal.returns-in-Part-clause-stands
returns-in-Part-clause-stands g c B R known stands fresh next =
    let on = subst (λ (o : Outcome). IsExchangedOn g.S.Store.put_cost c.args.card.now c.exchange.follows.lender-at-none c.args.c c.args.bytes.now c.args.block.now o) c.in-Part.is (c.exchange.follows.holds-at-none.on c.requires.on) in
    noted-stands c.exchange.follows.lender-at-none B R (Exchange c.args.c known c.args.bytes.now) _ (entry_by c.args.c c.args.block.now (state_of c.exchange.follows.lender-at-none).running outcome.Part) c.args.history.now c.push.new.self _ _ c.push.ensures refl (ap (λ (b : List ℕ). Replied b 0x9000) (sym c.of.ensures) ∙ ap (answer_made (epoch_at R c.args.c)) (sym c.without_command.ensures))
    (on.stands B R known stands fresh next)

pub returns-in-Part-clause-plan : goal.returns-in-Part-clause-plan
returns-in-Part-clause-plan g c B R L stands next =
    let on = subst (λ (o : Outcome). IsExchangedOn g.S.Store.put_cost c.args.card.now c.exchange.follows.lender-at-none c.args.c c.args.bytes.now c.args.block.now o) c.in-Part.is (c.exchange.follows.holds-at-none.on c.requires.on) in
    noted-plan g.S.Store.put_cost B L (entries R) (store_state c.args.card.now) (store_state c.exchange.follows.lender-at-none) _ (entry_by c.args.c c.args.block.now (state_of c.exchange.follows.lender-at-none).running outcome.Part) c.args.history.now c.push.new.self c.push.ensures refl
    (on.plan B R L stands next)

pub returns-in-Part-clause-due : goal.returns-in-Part-clause-due
returns-in-Part-clause-due g c B R stands next =
    let on = subst (λ (o : Outcome). IsExchangedOn g.S.Store.put_cost c.args.card.now c.exchange.follows.lender-at-none c.args.c c.args.bytes.now c.args.block.now o) c.in-Part.is (c.exchange.follows.holds-at-none.on c.requires.on) in
    noted-due g.S.Store.put_cost B (entries R) (store_state c.args.card.now) (store_state c.exchange.follows.lender-at-none) _ (entry_by c.args.c c.args.block.now (state_of c.exchange.follows.lender-at-none).running outcome.Part) c.args.history.now c.push.new.self c.push.ensures refl
    (on.due B R stands next)

pub returns-in-Part-clause-kind : goal.returns-in-Part-clause-kind
returns-in-Part-clause-kind g c =
    subst (λ (o : Exchanged). IsEntryOf c.args.has_global o (latest c.push.new.self.past)) (sym c.without_command.ensures)
    (noted-kind c.args.has_global (made.Replied c.of.result 0x9000 false None Nothing) _ c.args.history.now c.push.new.self c.push.ensures (refl, refl, refl))

pub returns-in-Part-clause-counted : goal.returns-in-Part-clause-counted
returns-in-Part-clause-counted g c =
    let on = subst (λ (o : Outcome). IsExchangedOn g.S.Store.put_cost c.args.card.now c.exchange.follows.lender-at-none c.args.c c.args.bytes.now c.args.block.now o) c.in-Part.is (c.exchange.follows.holds-at-none.on c.requires.on) in
    noted-counted _ c.args.history.now c.push.new.self (store_state c.args.card.now) (store_state c.exchange.follows.lender-at-none) c.push.ensures
    (same-counted (store_state c.args.card.now) (store_state c.exchange.follows.lender-at-none) on.store)

pub returns-in-Call-clause-noted : goal.returns-in-Call-clause-noted
returns-in-Call-clause-noted g c =
    let on = subst (λ (o : Outcome). IsExchangedOn g.S.Store.put_cost c.args.card.now c.exchange.follows.lender-at-none c.args.c c.args.bytes.now c.args.block.now o) c.in-Call.is (c.exchange.follows.holds-at-none.on c.requires.on) in
    noted _ (entry_by c.args.c c.args.block.now (state_of c.exchange.follows.lender-at-none).running (outcome.Call c.in-Call.command c.in-Call.sw c.in-Call.body c.in-Call.last c.in-Call.drew)) c.args.history.now c.push-in-Call.new.self (held_card c.args.card.now) (held_card c.exchange.follows.lender-at-none)
    c.push-in-Call.ensures (λ j. Call c.args.c (command_of c.in-Call.command) c.in-Call.sw (c.borne.ensures j)) on.held

pub returns-in-Call-clause-stands : goal.returns-in-Call-clause-stands
returns-in-Call-clause-stands g c B R known stands fresh next =
    let on = subst (λ (o : Outcome). IsExchangedOn g.S.Store.put_cost c.args.card.now c.exchange.follows.lender-at-none c.args.c c.args.bytes.now c.args.block.now o) c.in-Call.is (c.exchange.follows.holds-at-none.on c.requires.on) in
    noted-stands c.exchange.follows.lender-at-none B R (Exchange c.args.c known c.args.bytes.now) _ (entry_by c.args.c c.args.block.now (state_of c.exchange.follows.lender-at-none).running (outcome.Call c.in-Call.command c.in-Call.sw c.in-Call.body c.in-Call.last c.in-Call.drew)) c.args.history.now c.push-in-Call.new.self _ _ c.push-in-Call.ensures (λ j. Call c.args.c (command_of c.in-Call.command) c.in-Call.sw (c.borne.ensures j)) (λ j. Replied (sym c.of-body.ensures j) c.in-Call.last)
    (on.stands B R known stands fresh next)

pub returns-in-Call-clause-plan : goal.returns-in-Call-clause-plan
returns-in-Call-clause-plan g c B R L stands next =
    let on = subst (λ (o : Outcome). IsExchangedOn g.S.Store.put_cost c.args.card.now c.exchange.follows.lender-at-none c.args.c c.args.bytes.now c.args.block.now o) c.in-Call.is (c.exchange.follows.holds-at-none.on c.requires.on) in
    noted-plan g.S.Store.put_cost B L (entries R) (store_state c.args.card.now) (store_state c.exchange.follows.lender-at-none) _ (entry_by c.args.c c.args.block.now (state_of c.exchange.follows.lender-at-none).running (outcome.Call c.in-Call.command c.in-Call.sw c.in-Call.body c.in-Call.last c.in-Call.drew)) c.args.history.now c.push-in-Call.new.self c.push-in-Call.ensures (λ j. Call c.args.c (command_of c.in-Call.command) c.in-Call.sw (c.borne.ensures j))
    (on.plan B R L stands next)

pub returns-in-Call-clause-due : goal.returns-in-Call-clause-due
returns-in-Call-clause-due g c B R stands next =
    let on = subst (λ (o : Outcome). IsExchangedOn g.S.Store.put_cost c.args.card.now c.exchange.follows.lender-at-none c.args.c c.args.bytes.now c.args.block.now o) c.in-Call.is (c.exchange.follows.holds-at-none.on c.requires.on) in
    noted-due g.S.Store.put_cost B (entries R) (store_state c.args.card.now) (store_state c.exchange.follows.lender-at-none) _ (entry_by c.args.c c.args.block.now (state_of c.exchange.follows.lender-at-none).running (outcome.Call c.in-Call.command c.in-Call.sw c.in-Call.body c.in-Call.last c.in-Call.drew)) c.args.history.now c.push-in-Call.new.self c.push-in-Call.ensures (λ j. Call c.args.c (command_of c.in-Call.command) c.in-Call.sw (c.borne.ensures j))
    (on.due B R stands next)

pub returns-in-Call-clause-kind : goal.returns-in-Call-clause-kind
returns-in-Call-clause-kind g c = noted-kind c.args.has_global (made.Replied c.of-body.result c.in-Call.last c.in-Call.drew c.comparison_in-compared.result c.took_by.result) _ c.args.history.now c.push-in-Call.new.self c.push-in-Call.ensures (refl, ap is_some c.borne.ensures ∙ bears c.in-Call.drew c.args.block.now, c.comparison_in-compared.ensures, c.took_by.ensures)

pub returns-in-Call-clause-counted : goal.returns-in-Call-clause-counted
returns-in-Call-clause-counted g c =
    let on = subst (λ (o : Outcome). IsExchangedOn g.S.Store.put_cost c.args.card.now c.exchange.follows.lender-at-none c.args.c c.args.bytes.now c.args.block.now o) c.in-Call.is (c.exchange.follows.holds-at-none.on c.requires.on) in
    noted-counted _ c.args.history.now c.push-in-Call.new.self (store_state c.args.card.now) (store_state c.exchange.follows.lender-at-none) c.push-in-Call.ensures
    (kept-counted (store_state c.args.card.now) (store_state c.exchange.follows.lender-at-none) on.store)

pub returns-in-Rest-clause-noted : goal.returns-in-Rest-clause-noted
returns-in-Rest-clause-noted g c =
    let on = subst (λ (o : Outcome). IsExchangedOn g.S.Store.put_cost c.args.card.now c.exchange.follows.lender-at-none c.args.c c.args.bytes.now c.args.block.now o) c.in-Rest.is (c.exchange.follows.holds-at-none.on c.requires.on) in
    noted _ (entry_by c.args.c c.args.block.now (state_of c.exchange.follows.lender-at-none).running (outcome.Rest c.in-Rest.body c.in-Rest.last)) c.args.history.now c.push-in-Rest.new.self (held_card c.args.card.now) (held_card c.exchange.follows.lender-at-none)
    c.push-in-Rest.ensures refl on.held

pub returns-in-Rest-clause-stands : goal.returns-in-Rest-clause-stands
returns-in-Rest-clause-stands g c B R known stands fresh next =
    let on = subst (λ (o : Outcome). IsExchangedOn g.S.Store.put_cost c.args.card.now c.exchange.follows.lender-at-none c.args.c c.args.bytes.now c.args.block.now o) c.in-Rest.is (c.exchange.follows.holds-at-none.on c.requires.on) in
    noted-stands c.exchange.follows.lender-at-none B R (Exchange c.args.c known c.args.bytes.now) _ (entry_by c.args.c c.args.block.now (state_of c.exchange.follows.lender-at-none).running (outcome.Rest c.in-Rest.body c.in-Rest.last)) c.args.history.now c.push-in-Rest.new.self _ _ c.push-in-Rest.ensures refl (ap (λ (b : List ℕ). Replied b c.in-Rest.last) (sym c.of-in-Rest.ensures) ∙ ap (answer_made (epoch_at R c.args.c)) (sym c.without_command-in-Rest.ensures))
    (on.stands B R known stands fresh next)

pub returns-in-Rest-clause-plan : goal.returns-in-Rest-clause-plan
returns-in-Rest-clause-plan g c B R L stands next =
    let on = subst (λ (o : Outcome). IsExchangedOn g.S.Store.put_cost c.args.card.now c.exchange.follows.lender-at-none c.args.c c.args.bytes.now c.args.block.now o) c.in-Rest.is (c.exchange.follows.holds-at-none.on c.requires.on) in
    noted-plan g.S.Store.put_cost B L (entries R) (store_state c.args.card.now) (store_state c.exchange.follows.lender-at-none) _ (entry_by c.args.c c.args.block.now (state_of c.exchange.follows.lender-at-none).running (outcome.Rest c.in-Rest.body c.in-Rest.last)) c.args.history.now c.push-in-Rest.new.self c.push-in-Rest.ensures refl
    (on.plan B R L stands next)

pub returns-in-Rest-clause-due : goal.returns-in-Rest-clause-due
returns-in-Rest-clause-due g c B R stands next =
    let on = subst (λ (o : Outcome). IsExchangedOn g.S.Store.put_cost c.args.card.now c.exchange.follows.lender-at-none c.args.c c.args.bytes.now c.args.block.now o) c.in-Rest.is (c.exchange.follows.holds-at-none.on c.requires.on) in
    noted-due g.S.Store.put_cost B (entries R) (store_state c.args.card.now) (store_state c.exchange.follows.lender-at-none) _ (entry_by c.args.c c.args.block.now (state_of c.exchange.follows.lender-at-none).running (outcome.Rest c.in-Rest.body c.in-Rest.last)) c.args.history.now c.push-in-Rest.new.self c.push-in-Rest.ensures refl
    (on.due B R stands next)

pub returns-in-Rest-clause-kind : goal.returns-in-Rest-clause-kind
returns-in-Rest-clause-kind g c =
    subst (λ (o : Exchanged). IsEntryOf c.args.has_global o (latest c.push-in-Rest.new.self.past)) (sym c.without_command-in-Rest.ensures)
    (noted-kind c.args.has_global (made.Replied c.of-in-Rest.result c.in-Rest.last false None Nothing) _ c.args.history.now c.push-in-Rest.new.self c.push-in-Rest.ensures (refl, refl, refl))

pub returns-in-Rest-clause-counted : goal.returns-in-Rest-clause-counted
returns-in-Rest-clause-counted g c =
    let on = subst (λ (o : Outcome). IsExchangedOn g.S.Store.put_cost c.args.card.now c.exchange.follows.lender-at-none c.args.c c.args.bytes.now c.args.block.now o) c.in-Rest.is (c.exchange.follows.holds-at-none.on c.requires.on) in
    noted-counted _ c.args.history.now c.push-in-Rest.new.self (store_state c.args.card.now) (store_state c.exchange.follows.lender-at-none) c.push-in-Rest.ensures
    (same-counted (store_state c.args.card.now) (store_state c.exchange.follows.lender-at-none) on.store)

pub returns-in-Bad-clause-noted : goal.returns-in-Bad-clause-noted
returns-in-Bad-clause-noted g c =
    let on = subst (λ (o : Outcome). IsExchangedOn g.S.Store.put_cost c.args.card.now c.exchange.follows.lender-at-none c.args.c c.args.bytes.now c.args.block.now o) c.in-Bad.is (c.exchange.follows.holds-at-none.on c.requires.on) in
    noted _ (entry_by c.args.c c.args.block.now (state_of c.exchange.follows.lender-at-none).running (outcome.Bad c.in-Bad.sw)) c.args.history.now c.push-in-Bad.new.self (held_card c.args.card.now) (held_card c.exchange.follows.lender-at-none)
    c.push-in-Bad.ensures refl on.held

pub returns-in-Bad-clause-stands : goal.returns-in-Bad-clause-stands
returns-in-Bad-clause-stands g c B R known stands fresh next =
    let on = subst (λ (o : Outcome). IsExchangedOn g.S.Store.put_cost c.args.card.now c.exchange.follows.lender-at-none c.args.c c.args.bytes.now c.args.block.now o) c.in-Bad.is (c.exchange.follows.holds-at-none.on c.requires.on) in
    noted-stands c.exchange.follows.lender-at-none B R (Exchange c.args.c known c.args.bytes.now) _ (entry_by c.args.c c.args.block.now (state_of c.exchange.follows.lender-at-none).running (outcome.Bad c.in-Bad.sw)) c.args.history.now c.push-in-Bad.new.self _ _ c.push-in-Bad.ensures refl (ap (λ (b : List ℕ). Replied b c.in-Bad.sw) (sym c.of-in-Bad.ensures) ∙ ap (answer_made (epoch_at R c.args.c)) (sym c.without_command-in-Bad.ensures))
    (on.stands B R known stands fresh next)

pub returns-in-Bad-clause-plan : goal.returns-in-Bad-clause-plan
returns-in-Bad-clause-plan g c B R L stands next =
    let on = subst (λ (o : Outcome). IsExchangedOn g.S.Store.put_cost c.args.card.now c.exchange.follows.lender-at-none c.args.c c.args.bytes.now c.args.block.now o) c.in-Bad.is (c.exchange.follows.holds-at-none.on c.requires.on) in
    noted-plan g.S.Store.put_cost B L (entries R) (store_state c.args.card.now) (store_state c.exchange.follows.lender-at-none) _ (entry_by c.args.c c.args.block.now (state_of c.exchange.follows.lender-at-none).running (outcome.Bad c.in-Bad.sw)) c.args.history.now c.push-in-Bad.new.self c.push-in-Bad.ensures refl
    (on.plan B R L stands next)

pub returns-in-Bad-clause-due : goal.returns-in-Bad-clause-due
returns-in-Bad-clause-due g c B R stands next =
    let on = subst (λ (o : Outcome). IsExchangedOn g.S.Store.put_cost c.args.card.now c.exchange.follows.lender-at-none c.args.c c.args.bytes.now c.args.block.now o) c.in-Bad.is (c.exchange.follows.holds-at-none.on c.requires.on) in
    noted-due g.S.Store.put_cost B (entries R) (store_state c.args.card.now) (store_state c.exchange.follows.lender-at-none) _ (entry_by c.args.c c.args.block.now (state_of c.exchange.follows.lender-at-none).running (outcome.Bad c.in-Bad.sw)) c.args.history.now c.push-in-Bad.new.self c.push-in-Bad.ensures refl
    (on.due B R stands next)

pub returns-in-Bad-clause-kind : goal.returns-in-Bad-clause-kind
returns-in-Bad-clause-kind g c =
    subst (λ (o : Exchanged). IsEntryOf c.args.has_global o (latest c.push-in-Bad.new.self.past)) (sym c.without_command-in-Bad.ensures)
    (noted-kind c.args.has_global (made.Replied c.of-in-Bad.result c.in-Bad.sw false None Nothing) _ c.args.history.now c.push-in-Bad.new.self c.push-in-Bad.ensures (refl, refl, refl))

pub returns-in-Bad-clause-counted : goal.returns-in-Bad-clause-counted
returns-in-Bad-clause-counted g c =
    let on = subst (λ (o : Outcome). IsExchangedOn g.S.Store.put_cost c.args.card.now c.exchange.follows.lender-at-none c.args.c c.args.bytes.now c.args.block.now o) c.in-Bad.is (c.exchange.follows.holds-at-none.on c.requires.on) in
    noted-counted _ c.args.history.now c.push-in-Bad.new.self (store_state c.args.card.now) (store_state c.exchange.follows.lender-at-none) c.push-in-Bad.ensures
    (same-counted (store_state c.args.card.now) (store_state c.exchange.follows.lender-at-none) on.store)

pub returns-in-Mute-clause-noted : goal.returns-in-Mute-clause-noted
returns-in-Mute-clause-noted g c =
    let on = subst (λ (o : Outcome). IsExchangedOn g.S.Store.put_cost c.args.card.now c.exchange.follows.lender-at-none c.args.c c.args.bytes.now c.args.block.now o) c.in-Mute.is (c.exchange.follows.holds-at-none.on c.requires.on) in
    noted _ (entry_by c.args.c c.args.block.now (state_of c.exchange.follows.lender-at-none).running outcome.Mute) c.args.history.now c.push-in-Mute.new.self (held_card c.args.card.now) (held_card c.exchange.follows.lender-at-none)
    c.push-in-Mute.ensures (ap Cut c.running-running.ensures.flight) on.held

pub returns-in-Mute-clause-stands : goal.returns-in-Mute-clause-stands
returns-in-Mute-clause-stands g c B R known stands fresh next =
    let on = subst (λ (o : Outcome). IsExchangedOn g.S.Store.put_cost c.args.card.now c.exchange.follows.lender-at-none c.args.c c.args.bytes.now c.args.block.now o) c.in-Mute.is (c.exchange.follows.holds-at-none.on c.requires.on) in
    noted-stands c.exchange.follows.lender-at-none B R (Exchange c.args.c known c.args.bytes.now) _ (entry_by c.args.c c.args.block.now (state_of c.exchange.follows.lender-at-none).running outcome.Mute) c.args.history.now c.push-in-Mute.new.self _ _ c.push-in-Mute.ensures (ap Cut c.running-running.ensures.flight) refl
    (on.stands B R known stands fresh next)

pub returns-in-Mute-clause-plan : goal.returns-in-Mute-clause-plan
returns-in-Mute-clause-plan g c B R L stands next =
    let on = subst (λ (o : Outcome). IsExchangedOn g.S.Store.put_cost c.args.card.now c.exchange.follows.lender-at-none c.args.c c.args.bytes.now c.args.block.now o) c.in-Mute.is (c.exchange.follows.holds-at-none.on c.requires.on) in
    noted-plan g.S.Store.put_cost B L (entries R) (store_state c.args.card.now) (store_state c.exchange.follows.lender-at-none) _ (entry_by c.args.c c.args.block.now (state_of c.exchange.follows.lender-at-none).running outcome.Mute) c.args.history.now c.push-in-Mute.new.self c.push-in-Mute.ensures (ap Cut c.running-running.ensures.flight)
    (on.plan B R L stands next)

pub returns-in-Mute-clause-due : goal.returns-in-Mute-clause-due
returns-in-Mute-clause-due g c B R stands next =
    let on = subst (λ (o : Outcome). IsExchangedOn g.S.Store.put_cost c.args.card.now c.exchange.follows.lender-at-none c.args.c c.args.bytes.now c.args.block.now o) c.in-Mute.is (c.exchange.follows.holds-at-none.on c.requires.on) in
    noted-due g.S.Store.put_cost B (entries R) (store_state c.args.card.now) (store_state c.exchange.follows.lender-at-none) _ (entry_by c.args.c c.args.block.now (state_of c.exchange.follows.lender-at-none).running outcome.Mute) c.args.history.now c.push-in-Mute.new.self c.push-in-Mute.ensures (ap Cut c.running-running.ensures.flight)
    (on.due B R stands next)

pub returns-in-Mute-clause-kind : goal.returns-in-Mute-clause-kind
returns-in-Mute-clause-kind g c =
    let on = subst (λ (o : Outcome). IsExchangedOn g.S.Store.put_cost c.args.card.now c.exchange.follows.lender-at-none c.args.c c.args.bytes.now c.args.block.now o) c.in-Mute.is (c.exchange.follows.holds-at-none.on c.requires.on) in
    noted-kind c.args.has_global made.Mute _ c.args.history.now c.push-in-Mute.new.self c.push-in-Mute.ensures
    (refl, refl, refl, ap is_some c.running-running.ensures.flight ∙ on.flight)

pub returns-in-Mute-clause-counted : goal.returns-in-Mute-clause-counted
returns-in-Mute-clause-counted g c =
    let on = subst (λ (o : Outcome). IsExchangedOn g.S.Store.put_cost c.args.card.now c.exchange.follows.lender-at-none c.args.c c.args.bytes.now c.args.block.now o) c.in-Mute.is (c.exchange.follows.holds-at-none.on c.requires.on) in
    let some : IsSome (state_of c.exchange.follows.lender-at-none).running = some-is _ on.flight in
    noted-counted _ c.args.history.now c.push-in-Mute.new.self (store_state c.args.card.now) (store_state c.exchange.follows.lender-at-none) c.push-in-Mute.ensures
    (lost-counted _ (store_state c.args.card.now) (store_state c.exchange.follows.lender-at-none) (subst (λ (o : Option (ℕ × CardCommand)). IsSome o) (sym c.running-running.ensures.flight) some) on.store)
