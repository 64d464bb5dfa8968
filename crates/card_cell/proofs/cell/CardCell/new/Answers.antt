use Rattle.std.specs.Prelude.{IfSome, Option}
use Rattle.std.proofs.Common.{◌≡◌, ℕ, List, refl, sym, ap, subst, ◌∙◌}
use Rattle.piv_model.specs.declared.kinds.RefId.TheVariants.{GlobalPin}
use Rattle.piv_model.specs.Memory.{Memory, has}
use Rattle.piv_model.specs.Sound.{IsSound}
use Rattle.piv_model.specs.Stores.{StoreState}
use Rattle.challenge_blocks.specs.Next.{IsNext}
use Rattle.card_cell.specs.Holds.{BeginsWith}
use Rattle.card_cell.proofs.HoldLaws.{begun-stands, begun-held, due-planned}
use Rattle.card_cell.proofs.cell.CardCell.new.Goals as goal

pub returns-in-Ok-new-2-clause-stands : goal.returns-in-Ok-new-2-clause-stands
returns-in-Ok-new-2-clause-stands g c B random memory =
    begun-stands _ B (c.in-Ok-new-2.ensures.stands B memory) c.in-Ok.ensures.empty c.new-in-Ok-new-2.ensures c.in-Ok-new.ensures.open c.in-Ok-new.ensures.opened
    (subst (λ (r : List ℕ). IsNext r 0 c.new-in-Ok-new-2-2.result) (sym random) c.new-in-Ok-new-2-2.ensures)
    (subst (λ (o : Option Memory). IfSome o (λ m. IsSound m)) memory (g.met.S.Store.sound c.args.store))
    (subst (λ (o : Option Memory). IfSome o (λ m. c.has-has_global.result ≡ has m GlobalPin)) memory c.has-has_global.ensures.value)
    c.new-in-Ok-new-2-3.ensures

pub returns-in-Ok-new-2-clause-held : goal.returns-in-Ok-new-2-clause-held
returns-in-Ok-new-2-clause-held g c base begins =
    let same : g.S.Store.state c.in-Ok-new-2.card.store ≡ g.S.Store.state c.args.store = ap g.S.Store.state c.in-Ok-new-2.ensures.same in
    begun-held g.S.Store.put_cost _ base c.args.random.now c.args.turns
    (subst (λ (s : StoreState). BeginsWith base c.args.random.now c.args.turns s) (sym same) begins)
    (g.met.S.Store.due_rises c.in-Ok-new-2.card.store) refl c.in-Ok.ensures.empty
    (λ B random memory. returns-in-Ok-new-2-clause-stands g c B random (sym (ap (λ (s : StoreState). s.mem) same) ∙ memory))

pub returns-in-Ok-new-2-clause-plan : goal.returns-in-Ok-new-2-clause-plan
returns-in-Ok-new-2-clause-plan g c B =
    due-planned g.S.Store.put_cost B (g.S.Store.state c.in-Ok-new-2.card.store).power.span (g.S.Store.state c.in-Ok-new-2.card.store).power.due
    (g.met.S.Store.due_rises c.in-Ok-new-2.card.store)
