use Rattle.std.proofs.Common.{◌≡◌, None, false, rules, refl, sym, ap, ◌∙◌}
use Rattle.piv_model.specs.declared.history.Refusal.TheVariants as why
use Rattle.piv_model.specs.Stores.{StoreState}
use Rattle.piv_model.specs.Entries.{Cut}
use Rattle.piv_rules.specs.Acts.{entries, CutPower, Off, WasCut}
use Rattle.piv_rules.specs.RandomBlocks.{draws_count}
use Rattle.card_cell.specs.Cells.{store_in}
use Rattle.card_cell.proofs.CountLaws.{counted-same}
use Rattle.card_cell.proofs.NotedLaws.{off-counted}
use Rattle.card_cell.proofs.OpenLaws.{those-same}
use Rattle.card_cell.proofs.TurnLaws.{cell-power, stands-after, undrawn, once, plan-same, due-same, noted-once, cut-off}
use Rattle.card_cell.proofs.cell.CardCell.cut.Goals as goal

pub returns-then-not-has_power-clause-turned : goal.returns-then-not-has_power-clause-turned
returns-then-not-has_power-clause-turned g c =
    let off : (store_in c.args.self.now).power.on ≡ false = search rules in
    noted-once g.S.Store.put_cost c.args.self.now c.note.new.self CutPower why.Off Off c.note.ensures (λ h is_on. absurd (cc))
    (λ B R s. (cut-off (entries R) (sym (cell-power c.args.self.now B R s) ∙ off), refl))

pub returns-clause-turned : goal.returns-clause-turned
returns-clause-turned g c =
    once g.S.Store.put_cost c.args.self.now _ CutPower (Cut None) WasCut refl c.push.ensures.past
    (off-counted (store_in c.args.self.now) (g.S.Store.state c.cut.new.self.store) c.cut.ensures.store)
    (λ B R s. stands-after c.args.self.now _ B R CutPower (Cut None) WasCut s (c.cut.ensures.stands B R s.card) c.push.ensures.past c.cut-2.ensures
    (those-same (entries R) (Cut None) c.args.self.now.connections c.args.self.now.connections s.connections refl refl (λ d. refl))
    (undrawn B.random (draws_count (entries R)) c.args.self.now.blocks c.args.self.now.blocks s.blocks refl)
    refl (counted-same B (entries R) (Cut None) c.args.self.now.tally c.args.self.now.tally s.compared refl refl refl))
    (λ B R L s. plan-same g.S.Store.put_cost B L (entries R) (Cut None) (store_in c.args.self.now) (g.S.Store.state c.cut.new.self.store) (ap (λ (s : StoreState). s.power.due) c.cut.ensures.store) (λ told. refl))
    (λ B R s. due-same g.S.Store.put_cost B (entries R) (Cut None) (store_in c.args.self.now) (g.S.Store.state c.cut.new.self.store) (ap (λ (s : StoreState). s.power.due) c.cut.ensures.store) (λ told. refl)) (λ h is_on. absurd (cc))
