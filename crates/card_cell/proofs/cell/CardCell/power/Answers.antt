use Rattle.std.proofs.Common.{◌≡◌, true, rules, refl, sym, ap, ◌∙◌}
use Rattle.piv_model.specs.declared.history.Refusal.TheVariants as why
use Rattle.piv_model.specs.Stores.{StoreState}
use Rattle.piv_model.specs.Entries.{Up}
use Rattle.piv_rules.specs.Acts.{entries, PowerOn, On, IsUp}
use Rattle.piv_rules.specs.RandomBlocks.{draws_count}
use Rattle.card_cell.specs.Cells.{store_in}
use Rattle.card_cell.proofs.CountLaws.{counted-up}
use Rattle.card_cell.proofs.NotedLaws.{on-counted}
use Rattle.card_cell.proofs.OpenLaws.{those-same}
use Rattle.card_cell.proofs.TurnLaws.{cell-power, stands-after, undrawn, lasting, once, plan-same, due-same, noted-once, power-on}
use Rattle.card_cell.proofs.cell.CardCell.power.Goals as goal

pub returns-then-has_power-clause-turned : goal.returns-then-has_power-clause-turned
returns-then-has_power-clause-turned g c =
    let is_on : (store_in c.args.self.now).power.on ≡ true = search rules in
    noted-once g.S.Store.put_cost c.args.self.now c.note.new.self PowerOn why.On On c.note.ensures (λ h is_on. absurd (cc))
    (λ B R s. (power-on (entries R) (sym (cell-power c.args.self.now B R s) ∙ is_on), refl))

pub returns-clause-turned : goal.returns-clause-turned
returns-clause-turned g c =
    once g.S.Store.put_cost c.args.self.now _ PowerOn (Up c.power_up-took.result) (IsUp c.power_up-took.result) refl c.push.ensures.past
    (on-counted (store_in c.args.self.now) (g.S.Store.state c.power_up-took.new.self.store) c.power_up-took.ensures.store)
    (λ B R s. stands-after c.args.self.now _ B R PowerOn (Up c.power_up-took.result) (IsUp c.power_up-took.result) s (c.power_up-took.ensures.stands B R s.card) c.push.ensures.past
    (lasting c.args.self.now.epochs c.args.self.now.epochs refl)
    (those-same (entries R) (Up c.power_up-took.result) c.args.self.now.connections c.args.self.now.connections s.connections refl refl (λ d. refl))
    (undrawn B.random (draws_count (entries R)) c.args.self.now.blocks c.args.self.now.blocks s.blocks refl)
    refl (counted-up B (entries R) c.power_up-took.result c.in_flight-compared.result c.args.self.now.tally c.up.new.self s.compared c.up.ensures (c.in_flight-compared.ensures B R s)))
    (λ B R L s. plan-same g.S.Store.put_cost B L (entries R) (Up c.power_up-took.result) (store_in c.args.self.now) (g.S.Store.state c.power_up-took.new.self.store) (ap (λ (s : StoreState). s.power.due) c.power_up-took.ensures.store) (λ told. refl))
    (λ B R s. due-same g.S.Store.put_cost B (entries R) (Up c.power_up-took.result) (store_in c.args.self.now) (g.S.Store.state c.power_up-took.new.self.store) (ap (λ (s : StoreState). s.power.due) c.power_up-took.ensures.store) (λ told. refl)) (λ h is_on. absurd (cc))
