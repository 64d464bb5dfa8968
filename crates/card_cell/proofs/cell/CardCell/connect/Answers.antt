use Rattle.std.specs.List.{list_any}
use Rattle.std.proofs.Common.{◌≡◌, ◌+◌, ◌∷◌, ℕ, true, false, rules, refl, sym, ap, subst, ◌∙◌, arith}
use Rattle.piv_model.specs.declared.history.Refusal.TheVariants as why
use Rattle.piv_model.specs.Stores.{StoreState}
use Rattle.piv_model.specs.Entries.{Opened}
use Rattle.piv_rules.specs.Acts.{entries, Connect, Connected, Locked, NoChannel, Off}
use Rattle.piv_rules.specs.Connections.{epoch}
use Rattle.piv_rules.specs.Legal.{opened_count, is_locked}
use Rattle.piv_rules.specs.RandomBlocks.{draws_count}
use Rattle.piv_rules.proofs.Legality.{IsLegal-runs}
use Rattle.card_laws.specs.StandsLaws.{noted_as}
use Rattle.card_laws.proofs.Numbers.{unused-above}
use Rattle.card_app.specs.Stands.{CardStandsFor}
use Rattle.card_cell.specs.Cells.{store_in}
use Rattle.card_cell.specs.Kept.{bars}
use Rattle.card_cell.specs.Opened.{AreThoseOf, open_in}
use Rattle.card_cell.proofs.CountLaws.{counted-same}
use Rattle.card_cell.proofs.LockLaws.{locked-kept}
use Rattle.card_cell.proofs.NotedLaws.{same-counted}
use Rattle.card_cell.proofs.OpenLaws.{those-opened}
use Rattle.card_cell.proofs.TurnLaws.{cell-power, stands-after, undrawn, lasting, once, plan-same, due-same, noted-by, noted-once, connect-off, connect-locked}
use Rattle.card_cell.proofs.cell.CardCell.connect.Goals as goal

pub returns-then-not-has_power-clause-turned : goal.returns-then-not-has_power-clause-turned
returns-then-not-has_power-clause-turned g c =
    let off : (store_in c.args.self.now).power.on ≡ false = search rules in
    noted-once g.S.Store.put_cost c.args.self.now c.note.new.self (Connect c.args.interface c.args.shared) why.Off Off c.note.ensures (λ h is_on. absurd (cc))
    (λ B R s. (connect-off (entries R) c.args.interface c.args.shared (sym (cell-power c.args.self.now B R s) ∙ off), refl))

pub returns-then-is_locked-clause-turned : goal.returns-then-is_locked-clause-turned
returns-then-is_locked-clause-turned g c =
    let is_on : (store_in c.args.self.now).power.on ≡ true = search rules in
    let barred : list_any (bars c.args.interface c.args.shared) (open_in c.args.self.now.connections) ≡ true = search rules in
    noted-once g.S.Store.put_cost c.args.self.now c.note-then-is_locked.new.self (Connect c.args.interface c.args.shared) why.Locked Locked c.note-then-is_locked.ensures (λ h is_on. absurd (cc))
    (λ B R s. (connect-locked (entries R) c.args.interface c.args.shared (sym (cell-power c.args.self.now B R s) ∙ is_on) (sym (locked-kept B (entries R) (open_in c.args.self.now.connections) (c.args.self.now.connections.opened + 1) c.args.interface c.args.shared (IsLegal-runs B R s.card.stands.runs) c.args.self.now.connections.numbered s.connections.kept) ∙ barred), refl))

pub returns-then-not-attach-clause-turned : goal.returns-then-not-attach-clause-turned
returns-then-not-attach-clause-turned g c =
    let is_on : (store_in c.args.self.now).power.on ≡ true = search rules in
    let unbarred : list_any (bars c.args.interface c.args.shared) (open_in c.args.self.now.connections) ≡ false = search rules in
    let refused : c.attach.result ≡ false = search rules in
    let n = c.note-then-not-attach.ensures in
    noted-by g.S.Store.put_cost c.args.self.now c.note-then-not-attach.new.self (Connect c.args.interface c.args.shared) why.NoChannel NoChannel
    (record { past = n.past; card = n.card ∙ c.attach.ensures.same refused; turns = n.turns; epochs = n.epochs; connections = n.connections; blocks = n.blocks; global = n.global; tally = n.tally }) (λ h is_on. absurd (cc))
    (λ B R s. subst (λ k. CardStandsFor k B (noted_as R (Connect c.args.interface c.args.shared) why.NoChannel ∷ R)) (sym n.card)
    (c.attach.ensures.refused refused B R c.args.shared s.card is_on (sym (locked-kept B (entries R) (open_in c.args.self.now.connections) (c.args.self.now.connections.opened + 1) c.args.interface c.args.shared (IsLegal-runs B R s.card.stands.runs) c.args.self.now.connections.numbered s.connections.kept) ∙ unbarred)))

pub returns-clause-turned : goal.returns-clause-turned
returns-clause-turned g c =
    let is_on : (store_in c.args.self.now).power.on ≡ true = search rules in
    let unbarred : list_any (bars c.args.interface c.args.shared) (open_in c.args.self.now.connections) ≡ false = search rules in
    let given : c.attach.result ≡ true = search rules in
    let same : g.S.Store.state c.attach.new.self.store ≡ store_in c.args.self.now = ap g.S.Store.state c.attach.ensures.store in
    once g.S.Store.put_cost c.args.self.now _ (Connect c.args.interface c.args.shared) (Opened c.next-c.result c.args.interface c.args.shared) (Connected c.next-c.result c.of-epoch.result) refl c.push.ensures.past
    (same-counted (store_in c.args.self.now) (g.S.Store.state c.attach.new.self.store) same)
    (λ B R s.
    let is : c.next-c.result ≡ opened_count (entries R) + 1 = c.next-c.ensures ∙ ap (λ n. n + 1) s.connections.opened in
    let told : c.of-epoch.result ≡ epoch (entries R) c.args.interface = c.of-epoch.ensures ∙ s.epochs c.args.interface in
    let unlocked : is_locked (entries R) c.args.interface c.args.shared ≡ false = sym (locked-kept B (entries R) (open_in c.args.self.now.connections) (c.args.self.now.connections.opened + 1) c.args.interface c.args.shared (IsLegal-runs B R s.card.stands.runs) c.args.self.now.connections.numbered s.connections.kept) ∙ unbarred in
    let unused = (unused-above B (entries R) (opened_count (entries R) + 1) (IsLegal-runs B R s.card.stands.runs) (omega arith)).1 in
    stands-after c.args.self.now _ B R (Connect c.args.interface c.args.shared) (Opened c.next-c.result c.args.interface c.args.shared) (Connected c.next-c.result c.of-epoch.result) s
    (subst (λ r. CardStandsFor c.attach.new.self B (r ∷ R)) (λ j. record { act = (Connect c.args.interface c.args.shared); entry = Opened (sym is j) c.args.interface c.args.shared; answer = Connected (sym is j) (sym told j) })
    (c.attach.ensures.opened given B R c.args.shared s.card is_on is unlocked))
    c.push.ensures.past (lasting c.args.self.now.epochs c.args.self.now.epochs refl)
    (subst (λ (n : ℕ). AreThoseOf (Opened n c.args.interface c.args.shared ∷ entries R) c.add.new.self) (sym is)
    (those-opened (entries R) c.args.interface c.args.shared c.args.self.now.connections c.add.new.self s.connections unused c.add.ensures.open c.add.ensures.opened))
    (undrawn B.random (draws_count (entries R)) c.args.self.now.blocks c.args.self.now.blocks s.blocks refl)
    refl (counted-same B (entries R) (Opened c.next-c.result c.args.interface c.args.shared) c.args.self.now.tally c.args.self.now.tally s.compared refl refl refl))
    (λ B R L s. plan-same g.S.Store.put_cost B L (entries R) (Opened c.next-c.result c.args.interface c.args.shared) (store_in c.args.self.now) (g.S.Store.state c.attach.new.self.store) (ap (λ (s : StoreState). s.power.due) same) (λ told. refl))
    (λ B R s. due-same g.S.Store.put_cost B (entries R) (Opened c.next-c.result c.args.interface c.args.shared) (store_in c.args.self.now) (g.S.Store.state c.attach.new.self.store) (ap (λ (s : StoreState). s.power.due) same) (λ told. refl)) (λ h is_on. absurd (cc))
