-- What a device holds, by what its cell held.
use Rattle.std.specs.Prelude.{Option, option_map, is_some, IsSome, min}
use Rattle.std.proofs.Common.{◌≡◌, ℕ, ◌≤◌, ◌<◌, ◌+◌, ◌-◌, ◌^◌, Bool, true, List, length, Some, None, IfSome, ap, sym, ◌∙◌, subst, arith}
use Rattle.power_loss.specs.Plans.{PlanState}
use Rattle.piv_model.specs.declared.store.Store.{Ghosts}
use Rattle.piv_model.specs.Base.{Base}
use Rattle.piv_model.specs.Memory.{Memory}
use Rattle.piv_model.specs.Stores.{StoreState}
use Rattle.nvm_device.specs.declared.loss.How.{How}
use Rattle.nvm_device.specs.Device.{DeviceState}
use Rattle.nvm_device.specs.UnderPlan.{NeverLoses, under_plan}
use Rattle.piv_rules.specs.Acts.{Records, entries}
use Rattle.piv_rules.specs.Legal.{IsLegal}
use Rattle.piv_rules.specs.Plans.{ArePlanned, IsPlanOf}
use Rattle.piv_rules.specs.Turns.{Runs}
use Rattle.piv_rules.proofs.Legality.{IsLegal-runs}
use Rattle.card_image.specs.Images.{IsImage, StandsOn, memory_of}
use Rattle.block_store.specs.Blocks.{block_form}
use Rattle.card_app.specs.Left.{Left}
use Rattle.card_cell.specs.declared.base.CellBase.{CellBase}
use Rattle.card_cell.specs.declared.cell.CardCell.{CardCell}
use Rattle.card_cell.specs.Cells.{CellStandsFor, store_in, store_of}
use Rattle.card_cell.specs.Holds.{IsHeld, base_of}
use Rattle.card_cell.specs.Losses.{loss_count, IsTallied}
use Rattle.scene_cells.specs.Lowered.{IsLeft}

spelled : (B : Base) (R : Records) (told : Option (List ℕ)) (mem : Option Memory) → mem ≡ option_map (memory_of block_form) told
    → IfSome told (λ row. IsImage block_form row) → (is_some mem ≡ true → Left B R (λ m. mem ≡ Some m))
    → IfSome told (λ row. Left B R (λ m. IfSome told (λ row. IsImage block_form row × (memory_of block_form row ≡ m))))
spelled B R None mem same image left = tt
spelled B R (Some row) mem same image left =
    let kept = left (ap is_some same) in
    record {
      powered = λ is_on. let is = kept.powered is_on in (image, cc);
      lost = λ is_off. let then = kept.lost is_off in let is = then.2 in (then.0, then.1, (image, cc));
    }

known : (P : Type 0) (told : Option (List ℕ)) (mem : Option Memory) → mem ≡ option_map (memory_of block_form) told
    → (is_some mem ≡ true → P) → IfSome told (λ row. P)
known P None mem same holds = tt
known P (Some row) mem same holds = holds (ap is_some same)

caused : (planned before own span came : ℕ) (losses : ℕ) (n : ℕ) → losses ≡ min (own + (span - came)) (2 ^ 64 - 1) → span ≡ planned
    → (losses < 2 ^ 64 - 1 → before + n ≤ losses) → own + planned < 2 ^ 64 - 1 → n ≤ (own - before) + planned
caused planned before own span came losses n is same most few = let m = most (omega arith) in omega arith

causes : (planned before own span came : ℕ) (losses : ℕ) (n : ℕ) → losses ≡ min (own + (span - came)) (2 ^ 64 - 1) → span ≡ planned
    → (losses < 2 ^ 64 - 1 → before < losses → 1 ≤ n) → own + planned < 2 ^ 64 - 1 → before < own → 1 ≤ n
causes planned before own span came losses n is same some few rose = some (omega arith) (omega arith)

planned-in : (B : Base) (L : List ℕ) (R : Records) (due : Option (List ℕ)) → IsSome due
    → IfSome due (λ d. IsPlanOf block_form.put_cost B L (entries R) d) → ArePlanned block_form.put_cost B L (entries R)
planned-in B L R None told plan = absurd (cc)
planned-in B L R (Some due) told plan = plan.planned

module _ (base : CellBase) (R : Records) (store : StoreState) (under device : DeviceState) (plan : PlanState How) (spoiled : Bool)
    (is : under ≡ under_plan plan (record { state = device; spoiled = spoiled })) (stands : StandsOn block_form under store) where
  power-is : store.power ≡ under.power
  power-is = ap (λ (s : StoreState). s.power) stands.state

  losses-are : store.power.losses ≡ min (device.power.losses + (plan.span - length plan.to_come)) (2 ^ 64 - 1)
  losses-are = ap (λ (s : StoreState). s.power.losses) stands.state ∙ ap (λ (s : DeviceState). s.power.losses) is

  span-is : store.power.span ≡ plan.span
  span-is = ap (λ (s : StoreState). s.power.span) stands.state ∙ ap (λ (s : DeviceState). s.power.span) is

  memory-is : store.mem ≡ option_map (memory_of block_form) device.bytes
  memory-is = ap (λ (s : StoreState). s.mem) stands.state ∙ ap (λ (s : DeviceState). option_map (memory_of block_form) s.bytes) is

  image-is : IfSome device.bytes (λ row. IsImage block_form row)
  image-is = subst (λ (s : DeviceState). IfSome s.bytes (λ row. IsImage block_form row)) is stands.image

  told-planned : (told : Option (List ℕ)) → store.mem ≡ option_map (memory_of block_form) told
      → (is_some store.mem ≡ true → IfSome store.power.due (λ due. IsPlanOf block_form.put_cost (base_of base.start) base.plan (entries R) due))
      → (NeverLoses device.power → IsSome under.power.due)
      → IfSome told (λ row. NeverLoses device.power → ArePlanned block_form.put_cost (base_of base.start) base.plan (entries R))
  told-planned None same plans due = tt
  told-planned (Some row) same plans due = λ never.
      planned-in (base_of base.start) base.plan R store.power.due
      (subst (λ (o : Option (List ℕ)). IsSome o) (sym (ap (λ (s : StoreState). s.power.due) stands.state)) (due never))
      (plans (ap is_some same))

  pub lowered : (is_some store.mem ≡ true → Runs (base_of base.start) R)
      → (is_some store.mem ≡ true → Left (base_of base.start) R (λ m. store.mem ≡ Some m))
      → (is_some store.mem ≡ true → IfSome store.power.due (λ due. IsPlanOf block_form.put_cost (base_of base.start) base.plan (entries R) due))
      → IsTallied (length base.plan) base.losses (entries R) store
      → (NeverLoses device.power → IsSome under.power.due)
      → IsLeft base R device
  lowered runs left plans tally due = record {
    size = subst (λ (s : DeviceState). 1114112 ≤ s.size) is stands.size;
    runs = known (Runs (base_of base.start) R) device.bytes store.mem memory-is runs;
    legal = known (IsLegal (base_of base.start) (entries R)) device.bytes store.mem memory-is (λ told. IsLegal-runs (base_of base.start) R (runs told));
    memory = spelled (base_of base.start) R device.bytes store.mem memory-is image-is left;
    losses = record {
      most = caused (length base.plan) base.losses device.power.losses plan.span (length plan.to_come) store.power.losses
          (loss_count (entries R)) losses-are (sym span-is ∙ tally.span) tally.most;
      some = causes (length base.plan) base.losses device.power.losses plan.span (length plan.to_come) store.power.losses
          (loss_count (entries R)) losses-are (sym span-is ∙ tally.span) tally.some;
    };
    planned = told-planned device.bytes memory-is plans due;
  }

-- the store is the cell's
pub lowered-cell : {S T : Type 0} {meaning : Ghosts S T} (cell : CardCell S T meaning) (s : S) (base : CellBase) (R : Records)
    (under device : DeviceState) (plan : PlanState How) (spoiled : Bool)
    → under ≡ under_plan plan (record { state = device; spoiled = spoiled }) → StandsOn block_form under (meaning.state s) → s ≡ store_of cell
    → ((B : Base) (R : Records) → CellStandsFor cell B R → Left B R (λ m. (meaning.state s).mem ≡ Some m))
    → (NeverLoses device.power → IsSome under.power.due)
    → IsHeld block_form.put_cost cell base R → IsLeft base R device
lowered-cell {meaning = meaning} cell s base R under device plan spoiled is stands same left due held =
    let kept : meaning.state s ≡ store_in cell = ap meaning.state same in
    lowered base R (meaning.state s) under device plan spoiled is stands
    (λ told. (held.stands (ap (λ (t : StoreState). is_some t.mem) (sym kept) ∙ told)).card.stands.runs)
    (λ told. left (base_of base.start) R (held.stands (ap (λ (t : StoreState). is_some t.mem) (sym kept) ∙ told)))
    (λ told. subst (λ (t : StoreState). IfSome t.power.due (λ due. IsPlanOf block_form.put_cost (base_of base.start) base.plan (entries R) due)) (sym kept)
    (held.plan (ap (λ (t : StoreState). is_some t.mem) (sym kept) ∙ told)))
    (subst (λ (t : StoreState). IsTallied (length base.plan) base.losses (entries R) t) (sym kept) held.tally)
    due
