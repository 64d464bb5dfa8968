use Rattle.std.proofs.Common.{◌≡◌, ◌<◌, ◌≤◌, ◌+◌, ◌∷◌, ℕ, Some, None, true, false, rules, refl, sym, ap, subst, ◌∙◌, find}
use Rattle.piv_model.specs.declared.history.Refusal.TheVariants as why
use Rattle.piv_rules.specs.Acts.{entries, Exchange, Mute, Stale, Replied, NoConnection}
use Rattle.piv_rules.specs.Connections.{epoch, side}
use Rattle.piv_rules.specs.RandomBlocks.{draws_count}
use Rattle.card_app.specs.Stands.{CardStandsFor}
use Rattle.card_cell.specs.declared.exchanging.Exchanged.TheVariants as made
use Rattle.card_cell.specs.Cells.{store_in}
use Rattle.card_cell.specs.Exchanged.{latest}
use Rattle.card_cell.specs.Kept.{has_number}
use Rattle.card_cell.specs.Opened.{open_in}
use Rattle.card_cell.proofs.ExchangeLaws.{exchanged-stands, entry-lost, cell-unopened, cell-opened, cell-told}
use Rattle.card_cell.proofs.TurnLaws.{cell-power, few-draws, lasting, once, noted-once, exchange-none, exchange-mute, exchange-stale}
use Rattle.card_cell.proofs.cell.CardCell.exchange.Goals as goal

pub returns-in_default-clause-turned : goal.returns-in_default-clause-turned
returns-in_default-clause-turned g c =
    let none : find (has_number c.args.c) (open_in c.args.self.now.connections) ≡ None = sym c.found.ensures ∙ c.in_default.is in
    noted-once g.S.Store.put_cost c.args.self.now c.note.new.self (Exchange c.args.c c.args.epoch c.args.bytes.now) why.NoConnection NoConnection c.note.ensures (λ h is_on. absurd (cc))
    (λ B R s. (exchange-none (entries R) c.args.c c.args.epoch c.args.bytes.now (cell-unopened c.args.self.now B R c.args.c s none), refl))

pub returns-then-not-has_power-clause-turned : goal.returns-then-not-has_power-clause-turned
returns-then-not-has_power-clause-turned g c =
    let some : find (has_number c.args.c) (open_in c.args.self.now.connections) ≡ Some c.in-Some.open = sym c.found.ensures ∙ c.in-Some.is in
    let off : (store_in c.args.self.now).power.on ≡ false = search rules in
    noted-once g.S.Store.put_cost c.args.self.now c.note-then-not-has_power.new.self (Exchange c.args.c c.args.epoch c.args.bytes.now) why.Mute (Mute c.of-told.result) c.note-then-not-has_power.ensures (λ h is_on. absurd (cc))
    (λ B R s. (exchange-mute (entries R) c.args.c c.args.epoch c.args.bytes.now (cell-opened c.args.self.now B R c.args.c c.in-Some.open s some).0 (sym (cell-power c.args.self.now B R s) ∙ off), ap Mute (sym (cell-told c.args.self.now B R c.args.c c.of-told.result c.in-Some.open s some c.of-told.ensures))))

pub returns-then-epoch-told-clause-turned : goal.returns-then-epoch-told-clause-turned
returns-then-epoch-told-clause-turned g c =
    let some : find (has_number c.args.c) (open_in c.args.self.now.connections) ≡ Some c.in-Some.open = sym c.found.ensures ∙ c.in-Some.is in
    let is_on : (store_in c.args.self.now).power.on ≡ true = search rules in
    let low : c.args.epoch < c.of-told.result = search rules in
    noted-once g.S.Store.put_cost c.args.self.now c.note-then-epoch-told.new.self (Exchange c.args.c c.args.epoch c.args.bytes.now) why.Stale (Stale c.of-told.result) c.note-then-epoch-told.ensures (λ h is_on. absurd (cc))
    (λ B R s. (exchange-stale (entries R) c.args.c c.args.epoch c.of-told.result c.args.bytes.now (cell-opened c.args.self.now B R c.args.c c.in-Some.open s some).0 (sym (cell-power c.args.self.now B R s) ∙ is_on) (cell-told c.args.self.now B R c.args.c c.of-told.result c.in-Some.open s some c.of-told.ensures) low, ap Stale (sym (cell-told c.args.self.now B R c.args.c c.of-told.result c.in-Some.open s some c.of-told.ensures))))

pub returns-in-Replied-clause-turned : goal.returns-in-Replied-clause-turned
returns-in-Replied-clause-turned g c =
    let some : find (has_number c.args.c) (open_in c.args.self.now.connections) ≡ Some c.in-Some.open = sym c.found.ensures ∙ c.in-Some.is in
    let low : c.of-told.result ≤ c.args.epoch = search rules in
    once g.S.Store.put_cost c.args.self.now _ (Exchange c.args.c c.args.epoch c.args.bytes.now) (latest c.exchange.new.history.past) (Replied c.in-Replied.body c.in-Replied.sw) refl c.in-Replied.ensures.noted.past c.in-Replied.ensures.counted
    (λ B R s.
    let fresh : epoch (entries R) (side (entries R) c.args.c) ≤ c.args.epoch = subst (λ (n : ℕ). n ≤ c.args.epoch) (cell-told c.args.self.now B R c.args.c c.of-told.result c.in-Some.open s some c.of-told.ensures) low in
    exchanged-stands c.args.self.now _ B R (Exchange c.args.c c.args.epoch c.args.bytes.now) (made.Replied c.in-Replied.body c.in-Replied.sw c.in-Replied.drew c.in-Replied.compared c.in-Replied.took) (Replied c.in-Replied.body c.in-Replied.sw) s
    c.in-Replied.ensures.kind c.in-Replied.ensures.noted.past
    (c.in-Replied.ensures.stands B R c.args.epoch s.card fresh (c.block.ensures B.random (draws_count (entries R)) s.blocks))
    refl (lasting c.args.self.now.epochs c.args.self.now.epochs refl)
    (c.draw_if.ensures B.random (draws_count (entries R)) (few-draws c.args.self.now B R s c.requires.left) s.blocks)
    refl c.call.ensures)
    (λ B R L s. c.in-Replied.ensures.plan B R L s.card (c.block.ensures B.random (draws_count (entries R)) s.blocks))
    (λ B R s. c.in-Replied.ensures.due B R s.card (c.block.ensures B.random (draws_count (entries R)) s.blocks)) (λ h is_on. absurd (cc))

pub returns-in-Mute-clause-turned : goal.returns-in-Mute-clause-turned
returns-in-Mute-clause-turned g c =
    let some : find (has_number c.args.c) (open_in c.args.self.now.connections) ≡ Some c.in-Some.open = sym c.found.ensures ∙ c.in-Some.is in
    let low : c.of-told.result ≤ c.args.epoch = search rules in
    once g.S.Store.put_cost c.args.self.now _ (Exchange c.args.c c.args.epoch c.args.bytes.now) (latest c.exchange.new.history.past) (Mute (c.of-told.result + 1)) refl c.in-Mute.ensures.noted.past c.in-Mute.ensures.counted
    (λ B R s.
    let told = (cell-told c.args.self.now B R c.args.c c.of-told.result c.in-Some.open s some c.of-told.ensures) in
    let fresh : epoch (entries R) (side (entries R) c.args.c) ≤ c.args.epoch = subst (λ (n : ℕ). n ≤ c.args.epoch) told low in
    exchanged-stands c.args.self.now _ B R (Exchange c.args.c c.args.epoch c.args.bytes.now) made.Mute (Mute (c.of-told.result + 1)) s
    c.in-Mute.ensures.kind c.in-Mute.ensures.noted.past
    (subst (λ (n : ℕ). CardStandsFor c.exchange.new.card B (record { act = (Exchange c.args.c c.args.epoch c.args.bytes.now); entry = latest c.exchange.new.history.past; answer = Mute (n + 1) } ∷ R)) (sym told)
    (c.in-Mute.ensures.stands B R c.args.epoch s.card fresh (c.block.ensures B.random (draws_count (entries R)) s.blocks)))
    refl c.cut.ensures s.blocks refl (λ r. refl))
    (λ B R L s. c.in-Mute.ensures.plan B R L s.card (c.block.ensures B.random (draws_count (entries R)) s.blocks))
    (λ B R s. c.in-Mute.ensures.due B R s.card (c.block.ensures B.random (draws_count (entries R)) s.blocks)) (λ h is_on. entry-lost c.args.self.now.has_global made.Mute (latest c.exchange.new.history.past) c.in-Mute.ensures.kind refl)
