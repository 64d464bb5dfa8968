use Rattle.std.specs.Prelude.{IsSome}
use Rattle.std.proofs.Common.{◌≡◌, ◌≤◌, ◌+◌, ℕ, List, None, rules, refl, sym, ap, subst, arith, length, find}
use Rattle.piv_model.specs.declared.history.Refusal.TheVariants as why
use Rattle.piv_model.specs.Stores.{StoreState}
use Rattle.piv_model.specs.Entries.{Past, Closed}
use Rattle.piv_rules.specs.Acts.{entries, Disconnect, Disconnected, NoConnection}
use Rattle.piv_rules.specs.RandomBlocks.{draws_count}
use Rattle.card_app.specs.Stands.{is_attached, attached_count}
use Rattle.card_cell.specs.declared.connections.Open.{Open}
use Rattle.card_cell.specs.Cells.{store_in}
use Rattle.card_cell.specs.Kept.{has_number, without}
use Rattle.card_cell.specs.Opened.{open_in}
use Rattle.card_cell.proofs.CountLaws.{counted-same}
use Rattle.card_cell.proofs.ExchangeLaws.{cell-unopened}
use Rattle.card_cell.proofs.KeptLaws.{length-without}
use Rattle.card_cell.proofs.NotedLaws.{same-counted}
use Rattle.card_cell.proofs.OpenLaws.{those-closed, attached-without, numbered-without}
use Rattle.card_cell.proofs.TurnLaws.{stands-after, undrawn, lasting, once, plan-same, due-same, noted-once, disconnect-none}
use Rattle.card_cell.proofs.cell.CardCell.disconnect.Goals as goal

pub returns-then-is_none-clause-turned : goal.returns-then-is_none-clause-turned
returns-then-is_none-clause-turned g c =
    let none : find (has_number c.args.c) (open_in c.args.self.now.connections) ≡ None = search rules in
    noted-once g.S.Store.put_cost c.args.self.now c.note.new.self (Disconnect c.args.c) why.NoConnection NoConnection c.note.ensures (λ h is_on. absurd (cc))
    (λ B R s. (disconnect-none (entries R) c.args.c (cell-unopened c.args.self.now B R c.args.c s none), refl))

pub invariant_of-self-clause-attached : goal.invariant_of-self-clause-attached
invariant_of-self-clause-attached g c = λ d there.
    attached-without c.args.c (c.args.self.now.connections.opened + 1) (open_in c.args.self.now.connections) (is_attached c.args.self.now.card) (is_attached c.detach.new.self)
    c.args.self.now.connections.numbered c.detach.ensures.numbers c.args.self.now.attached d
    (subst (λ (l : List Open). IsSome (find (has_number d) l)) c.remove.ensures.open there)

pub invariant_of-self-clause-numbered : goal.invariant_of-self-clause-numbered
invariant_of-self-clause-numbered g c = λ d h.
    let some : IsSome (find (has_number c.args.c) (open_in c.args.self.now.connections)) = search rules in
    subst (λ (m : ℕ). d ≤ m) (sym c.remove.ensures.opened)
    (numbered-without c.args.c c.args.self.now.connections.opened (is_attached c.args.self.now.card) (is_attached c.detach.new.self)
    c.detach.ensures.numbers c.args.self.now.numbered (c.args.self.now.attached c.args.c some) d h)

pub invariant_of-self-clause-counted : goal.invariant_of-self-clause-counted
invariant_of-self-clause-counted g c =
    let some : IsSome (find (has_number c.args.c) (open_in c.args.self.now.connections)) = search rules in
    let l : length (open_in c.remove.new.self) ≡ length (without c.args.c (open_in c.args.self.now.connections)) = ap (λ (l : List Open). length l) c.remove.ensures.open in
    let n = length-without c.args.c (open_in c.args.self.now.connections) some in
    let k : length (open_in c.args.self.now.connections) ≤ attached_count c.args.self.now.card = c.args.self.now.counted in
    let a : attached_count c.detach.new.self + 1 ≡ attached_count c.args.self.now.card = c.detach.ensures.count in
    omega arith

pub invariant_of-self-clause-epochs_counted : goal.invariant_of-self-clause-epochs_counted
invariant_of-self-clause-epochs_counted g c = λ i.
    let e = c.args.self.now.epochs_counted i in
    let l = ap (λ (H : Past). length H) c.push.ensures.past in
    omega arith

pub returns-clause-turned : goal.returns-clause-turned
returns-clause-turned g c =
    let same : g.S.Store.state c.detach.new.self.store ≡ store_in c.args.self.now = ap g.S.Store.state c.detach.ensures.store in
    once g.S.Store.put_cost c.args.self.now _ (Disconnect c.args.c) (Closed c.args.c) Disconnected refl c.push.ensures.past
    (same-counted (store_in c.args.self.now) (g.S.Store.state c.detach.new.self.store) same)
    (λ B R s. stands-after c.args.self.now _ B R (Disconnect c.args.c) (Closed c.args.c) Disconnected s (c.detach.ensures.stands B R s.card) c.push.ensures.past
    (lasting c.args.self.now.epochs c.args.self.now.epochs refl)
    (those-closed (entries R) c.args.c (c.args.self.now.connections.opened + 1) c.args.self.now.connections c.remove.new.self s.connections c.args.self.now.connections.numbered c.remove.ensures.open c.remove.ensures.opened)
    (undrawn B.random (draws_count (entries R)) c.args.self.now.blocks c.args.self.now.blocks s.blocks refl)
    refl (counted-same B (entries R) (Closed c.args.c) c.args.self.now.tally c.args.self.now.tally s.compared refl refl refl))
    (λ B R L s. plan-same g.S.Store.put_cost B L (entries R) (Closed c.args.c) (store_in c.args.self.now) (g.S.Store.state c.detach.new.self.store) (ap (λ (s : StoreState). s.power.due) same) (λ told. refl))
    (λ B R s. due-same g.S.Store.put_cost B (entries R) (Closed c.args.c) (store_in c.args.self.now) (g.S.Store.state c.detach.new.self.store) (ap (λ (s : StoreState). s.power.due) same) (λ told. refl)) (λ h is_on. absurd (cc))
